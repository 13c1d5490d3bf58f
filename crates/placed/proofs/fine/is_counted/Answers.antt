-- sum is the words of the first k answers, which lie one behind the other.
-- Assumes nothing.
use Rattle.units.proofs.Common.{sym, ◌∙◌, ◌≡◌, ap, subst, true, ℕ, ◌+◌, arith, eqb, get_or, rules}
use Rattle.meaning.proofs.Terms.{full, added}
use Rattle.placed.specs.Consistent.{ok_answer}
use Rattle.placed.specs.Machine.{starts_of, places_of, pending_of}
use Rattle.placed.proofs.Formed.{Lies, lies}
use Rattle.placed.proofs.Starts.{span, starts_at, span_more}
use Rattle.placed.proofs.fine.is_counted.Goals as goal

pub loop-k-init : goal.loop-k-init
unfolding added starts_of
loop-k-init c = search rules

pub overflow_add-place : goal.overflow_add-place
unfolding added starts_of
overflow_add-place c =
    -- the answer that begins behind those passed is in order
    let next : Lies full c.args.store.now c.args.i
    (c.args.list.place + c.loop-k.sum) = let a = c.args in
    let l = a.list in
    let k = c.loop-k.k in
    let e : get_or (places_of a.store.now l) k 0 ≡ l.place + c.loop-k.sum =
    starts_at a.store.now l.count l.place k c.loop-k-test.true ∙ ap (λ (s : ℕ). l.place + s)
    (sym c.loop-k.invariant.1) in
    lies _ _ _ _ (subst (λ (p : ℕ). ok_answer full a.store.now a.i p ≡ true) e (c.requires.in_store k c.loop-k-test.true)) in
    record { fits = omega (arith, (next).inside, c.requires.store_len) }

pub offset_bounds-store-place : goal.offset_bounds-store-place
unfolding added starts_of
offset_bounds-store-place c =
    -- the answer that begins behind those passed is in order
    let next : Lies full c.args.store.now c.args.i
    (c.args.list.place + c.loop-k.sum) = let a = c.args in
    let l = a.list in
    let k = c.loop-k.k in
    let e : get_or (places_of a.store.now l) k 0 ≡ l.place + c.loop-k.sum =
    starts_at a.store.now l.count l.place k c.loop-k-test.true ∙ ap (λ (s : ℕ). l.place + s)
    (sym c.loop-k.invariant.1) in
    lies _ _ _ _ (subst (λ (p : ℕ). ok_answer full a.store.now a.i p ≡ true) e (c.requires.in_store k c.loop-k-test.true)) in
    record { fits = omega (arith, (next).inside, c.requires.store_len) }

pub bounds-store-place : goal.bounds-store-place
unfolding added starts_of
bounds-store-place c =
    -- the answer that begins behind those passed is in order
    let next : Lies full c.args.store.now c.args.i
    (c.args.list.place + c.loop-k.sum) = let a = c.args in
    let l = a.list in
    let k = c.loop-k.k in
    let e : get_or (places_of a.store.now l) k 0 ≡ l.place + c.loop-k.sum =
    starts_at a.store.now l.count l.place k c.loop-k-test.true ∙ ap (λ (s : ℕ). l.place + s)
    (sym c.loop-k.invariant.1) in
    lies _ _ _ _ (subst (λ (p : ℕ). ok_answer full a.store.now a.i p ≡ true) e (c.requires.in_store k c.loop-k-test.true)) in
    omega (arith, (next).inside, (next).least)

pub overflow_add-sum : goal.overflow_add-sum
overflow_add-sum c =
    -- the answer that begins behind those passed is in order
    let next : Lies full c.args.store.now c.args.i
    (c.args.list.place + c.loop-k.sum) = let a = c.args in
    let l = a.list in
    let k = c.loop-k.k in
    let e : get_or (places_of a.store.now l) k 0 ≡ l.place + c.loop-k.sum =
    starts_at a.store.now l.count l.place k c.loop-k-test.true ∙ ap (λ (s : ℕ). l.place + s)
    (sym c.loop-k.invariant.1) in
    lies _ _ _ _ (subst (λ (p : ℕ). ok_answer full a.store.now a.i p ≡ true) e (c.requires.in_store k c.loop-k-test.true)) in
    record { fits = omega (arith, (next).inside, c.requires.store_len) }

pub loop-k-preserved : goal.loop-k-preserved
loop-k-preserved c =
    let a = c.args in (
      omega arith,
      rw (
        span_more a.store.now c.loop-k.k a.list.place,
        ←
            c.loop-k.invariant.1,
      ),
    )

pub returns : goal.returns
unfolding pending_of
returns c =
    let a = c.args in
    let e : c.loop-k.k ≡ a.list.count = omega arith in
    ap (λ (s : ℕ). eqb a.list.words.0 s) (c.loop-k.invariant.1 ∙ ap (λ (j : ℕ). span a.store.now j a.list.place) e)
