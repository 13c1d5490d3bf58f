-- A machine in order has its lists laid without gaps by `lay`, and its nodes by `without_places`; one that is not is refused.
use Rattle.units.proofs.Common.{sym, ◌∙◌, ◌≡◌, ap, List, ℕ, ◌≤◌, arith, length, length-take, replicate, rules}
use Rattle.units.specs.declared.Words.{Words}
use Rattle.meaning.proofs.Terms.{full}
use Rattle.machine.specs.Machine as N
use Rattle.state.specs.declared.node.Node.{Node}
use Rattle.placed.specs.Machine.{machine}
use Rattle.placed.specs.Consistent.{unfit}
use Rattle.placed.proofs.Parts.{Parts, parts}
use Rattle.placed.proofs.InOrder.{each_inside, each_least}
use Rattle.convert.specs.Convert.{runs_of, new_store}
use Rattle.convert.proofs.To.{runs_fit}
use Rattle.convert.proofs.Loops.{laid_over, new_is, helds_are}
use Rattle.convert.proofs.to_new.Goals as goal

pub returns-then-refusal-ne0 : goal.returns-then-refusal-ne0
returns-then-refusal-ne0 c =
    let left : List Node → List Words → List ℕ → N.Machine = λ ns hs store. N.machine (record { name = c.args.s.name; readers = c.args.s.readers; nodes = ns; held = hs }) store c.args.plaques.now in
    record {
      number = c.unfit-refusal.ensures;
      refused = λ _. ap (λ (ns : List Node). left ns (replicate 17 (record { 0 = 0 })) c.args.store.now) c.silent.ensures;
      done = λ e. absurd (c.if-refusal-ne0.true (c.unfit-refusal.ensures ∙ e));
    }

pub lay-requires : goal.lay-requires
lay-requires c =
    let fits : unfit full ((machine c.args.s c.args.store.now c.args.plaques.now)) ≡ 0 = sym c.unfit-refusal.ensures ∙ c.if-refusal-ne0.false in
    let known : Parts full ((machine c.args.s c.args.store.now c.args.plaques.now)) = parts full ((machine c.args.s c.args.store.now c.args.plaques.now)) (fits) in
    let room : length (runs_of c.args.store.now
    c.args.s.nodes) ≤ 4096 = let a = c.args in
    let p = known in runs_fit full a.store.now a.s.nodes p.store p.lists in
    let p = known in
    ((λ k h. each_inside full c.args.store.now c.args.s.nodes p.lists k h), room)

pub copy_in-requires : goal.copy_in-requires
copy_in-requires c =
    let fits : unfit full ((machine c.args.s c.args.store.now c.args.plaques.now)) ≡ 0 = sym c.unfit-refusal.ensures ∙ c.if-refusal-ne0.false in
    let known : Parts full ((machine c.args.s c.args.store.now c.args.plaques.now)) = parts full ((machine c.args.s c.args.store.now c.args.plaques.now)) (fits) in
    let w : length c.lay.new.out ≡ 4096 = search rules in
    simp (length-take, w) (omega (arith, known.store))

pub without_places-requires : goal.without_places-requires
without_places-requires c =
    let fits : unfit full ((machine c.args.s c.args.store.now c.args.plaques.now)) ≡ 0 = sym c.unfit-refusal.ensures ∙ c.if-refusal-ne0.false in
    let known : Parts full ((machine c.args.s c.args.store.now c.args.plaques.now)) = parts full ((machine c.args.s c.args.store.now c.args.plaques.now)) (fits) in
    let p = known in
    λ k h. omega (
      arith,
      each_least full c.args.store.now c.args.s.nodes p.lists k h,
      each_inside full c.args.store.now
          c.args.s.nodes p.lists k h,
      p.store,
    )

pub returns : goal.returns
returns c =
    let fits : unfit full ((machine c.args.s c.args.store.now c.args.plaques.now)) ≡ 0 = sym c.unfit-refusal.ensures ∙ c.if-refusal-ne0.false in
    let known : Parts full ((machine c.args.s c.args.store.now c.args.plaques.now)) = parts full ((machine c.args.s c.args.store.now c.args.plaques.now)) (fits) in
    let st = c.args.store.now in
    let ns = c.args.s.nodes in
    let wide : length c.lay.new.out ≡ 4096 = search rules in
    let w : c.copy_in.new.dst ≡ new_store st ns =
    c.copy_in.ensures ∙ laid_over st _ (wide ∙ sym known.store) ∙ c.lay.ensures ∙ new_is st ns _ known.store in
    record {
      number = sym (fits);
      refused = λ d. absurd (d (fits));
      done = λ _. rw (w, c.without_places.ensures, helds_are c.helds.result ns c.helds.ensures);
    }
