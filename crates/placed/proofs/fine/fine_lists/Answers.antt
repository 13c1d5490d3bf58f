-- A walk over the pending answers (`Walk`): the marks are those of the answers passed, and the lists are fine exactly if the rest is.
-- Each way on, and each way out, is one law of the walk. No more answers are passed than words.
-- Assumes nothing.
use Rattle.units.proofs.Common.{sym, ◌∙◌, ◌≡◌, refl, ap, ⊎_elim, true, false, ◌≤◌, ◌+◌, add-one, arith, length, get_or}
use Rattle.units.proofs.Common.{length-replicate, rules}
use lib.ListN.{get_or-replicate}
use Rattle.meaning.proofs.Terms.{full}
use Rattle.placed.specs.Consistent.{ok_answer}
use Rattle.placed.specs.declared.Node.{Node}
use Rattle.placed.proofs.Formed.{lies, ok_front}
use Rattle.placed.proofs.InOrder.{node_any}
use Rattle.state.proofs.Lists.{length_mapped}
use Rattle.placed.proofs.Marks.{apart, walk_start, walk_in, walk_bad, walk_taken, walk_next, walk_end}
use Rattle.placed.proofs.Marks.{walk_at, walk_out}
use Rattle.placed.proofs.fine.fine_lists.Goals as goal

pub nodes-init : goal.nodes-init
nodes-init c = (omega arith, refl, walk_start _ _ _ _ _ (length-replicate 4096 false) (λ w h. get_or-replicate 4096 w false false h))

pub loop-k-init : goal.loop-k-init
loop-k-init c =
    let nodes_each : length c.args.nodes ≡ 17 = search (rules, length_mapped) in
    let n = nodes_each in
    let e = node_any c.args.nodes c.nodes.i (omega arith) in (
      omega arith,
      omega arith,
      c.nodes.invariant.1,
      walk_in _ _ _ _ _ _ _ (omega arith) (ap (λ (x : Node). x.list) e)
          c.nodes.invariant.2,
    )

pub offset_bounds-store-place : goal.offset_bounds-store-place
offset_bounds-store-place c =
    -- past the first test: the answer is in order ..
    let in_order : ok_answer full ((c.args.store.now)) ((c.nodes.i)) ((c.loop-k.place)) ≡ true = ok_front _ _ _ _ ∙ sym c.answer_ok.ensures ∙ c.if-not-answer_ok.false in
    -- .. and lies inside the store
    let inside : (c.loop-k.place) + get_or ((c.args.store.now)) ((c.loop-k.place)) 0 ≤ 4096 = omega (arith, (lies _ _ _ _ (in_order)).inside, c.requires) in
    record { fits = omega (arith, inside) }

pub bounds-store-place : goal.bounds-store-place
bounds-store-place c =
    -- past the first test: the answer is in order ..
    let in_order : ok_answer full ((c.args.store.now)) ((c.nodes.i)) ((c.loop-k.place)) ≡ true = ok_front _ _ _ _ ∙ sym c.answer_ok.ensures ∙ c.if-not-answer_ok.false in
    -- .. and lies inside the store
    let inside : (c.loop-k.place) + get_or ((c.args.store.now)) ((c.loop-k.place)) 0 ≤ 4096 = omega (arith, (lies _ _ _ _ (in_order)).inside, c.requires) in
    omega (arith, inside, (lies _ _ _ _ (in_order)).least, c.requires)

pub all_free-requires : goal.all_free-requires
all_free-requires c =
    -- past the first test: the answer is in order ..
    let in_order : ok_answer full ((c.args.store.now)) ((c.nodes.i)) ((c.loop-k.place)) ≡ true = ok_front _ _ _ _ ∙ sym c.answer_ok.ensures ∙ c.if-not-answer_ok.false in
    -- .. and lies inside the store
    let inside : (c.loop-k.place) + get_or ((c.args.store.now)) ((c.loop-k.place)) 0 ≤ 4096 = omega (arith, (lies _ _ _ _ (in_order)).inside, c.requires) in
    inside

pub mark-requires : goal.mark-requires
mark-requires c =
    -- past the first test: the answer is in order ..
    let in_order : ok_answer full ((c.args.store.now)) ((c.nodes.i)) ((c.loop-k.place)) ≡ true = ok_front _ _ _ _ ∙ sym c.answer_ok.ensures ∙ c.if-not-answer_ok.false in
    -- .. and lies inside the store
    let inside : (c.loop-k.place) + get_or ((c.args.store.now)) ((c.loop-k.place)) 0 ≤ 4096 = omega (arith, (lies _ _ _ _ (in_order)).inside, c.requires) in
    (inside, c.loop-k.invariant.3.long)

pub overflow_add-place : goal.overflow_add-place
overflow_add-place c =
    -- past the first test: the answer is in order ..
    let in_order : ok_answer full ((c.args.store.now)) ((c.nodes.i)) ((c.loop-k.place)) ≡ true = ok_front _ _ _ _ ∙ sym c.answer_ok.ensures ∙ c.if-not-answer_ok.false in
    -- .. and lies inside the store
    let inside : (c.loop-k.place) + get_or ((c.args.store.now)) ((c.loop-k.place)) 0 ≤ 4096 = omega (arith, (lies _ _ _ _ (in_order)).inside, c.requires) in
    record { fits = omega (arith, inside) }

pub overflow_add-k : goal.overflow_add-k
overflow_add-k c =
    -- past the first test: the answer is in order ..
    let in_order : ok_answer full ((c.args.store.now)) ((c.nodes.i)) ((c.loop-k.place)) ≡ true = ok_front _ _ _ _ ∙ sym c.answer_ok.ensures ∙ c.if-not-answer_ok.false in
    -- .. and lies inside the store
    let inside : (c.loop-k.place) + get_or ((c.args.store.now)) ((c.loop-k.place)) 0 ≤ 4096 = omega (arith, (lies _ _ _ _ (in_order)).inside, c.requires) in
    record { fits = omega (arith, inside) }

pub loop-k-preserved : goal.loop-k-preserved
loop-k-preserved c =
    -- past the first test: the answer is in order ..
    let in_order : ok_answer full ((c.args.store.now)) ((c.nodes.i)) ((c.loop-k.place)) ≡ true = ok_front _ _ _ _ ∙ sym c.answer_ok.ensures ∙ c.if-not-answer_ok.false in
    -- .. and lies inside the store
    let inside : (c.loop-k.place) + get_or ((c.args.store.now)) ((c.loop-k.place)) 0 ≤ 4096 = omega (arith, (lies _ _ _ _ (in_order)).inside, c.requires) in
    let w = walk_at _ _ _ _ _ _ _ c.loop-k.k _ c.loop-k-test.true c.loop-k.invariant.3 in (
      omega arith,
      omega (arith, (lies _ _ _ _ (in_order)).least),
      c.loop-k.invariant.2,
      ⊎_elim
          (λ f. walk_next _ _ _ _ _ _ _ _ _ w (in_order) (inside) f.1 c.mark.ensures)
          (λ f. absurd (apart (c.if-not-all_free.false) f.0))
          c.all_free.ensures,
    )

pub nodes-preserved : goal.nodes-preserved
nodes-preserved c = (
  omega arith,
  c.loop-k.invariant.2,
  rw add-one (walk_out _ _ _ _ _ _ _ c.loop-k.k _ c.loop-k-test.false
      c.loop-k.invariant.3),
)

pub returns-after-nodes : goal.returns-after-nodes
returns-after-nodes c =
    let nodes_each : length c.args.nodes ≡ 17 = search (rules, length_mapped) in
    let n = nodes_each in
    c.nodes.invariant.1 ∙ sym (walk_end _ _ _ _ _ c.nodes.i (omega arith) c.nodes.invariant.2)

pub returns-then-not-answer_ok : goal.returns-then-not-answer_ok
returns-then-not-answer_ok c =
    let w = walk_at _ _ _ _ _ _ _ c.loop-k.k _ c.loop-k-test.true
    c.loop-k.invariant.3 in
    sym (walk_bad _ _ _ _ _ _ _ _ w (ok_front _ _ _ _ ∙ sym c.answer_ok.ensures ∙ c.if-not-answer_ok.true))

pub returns-then-not-all_free : goal.returns-then-not-all_free
returns-then-not-all_free c =
    -- past the first test: the answer is in order ..
    let in_order : ok_answer full ((c.args.store.now)) ((c.nodes.i)) ((c.loop-k.place)) ≡ true = ok_front _ _ _ _ ∙ sym c.answer_ok.ensures ∙ c.if-not-answer_ok.false in
    -- .. and lies inside the store
    let inside : (c.loop-k.place) + get_or ((c.args.store.now)) ((c.loop-k.place)) 0 ≤ 4096 = omega (arith, (lies _ _ _ _ (in_order)).inside, c.requires) in
    let w = walk_at _ _ _ _ _ _ _ c.loop-k.k _ c.loop-k-test.true c.loop-k.invariant.3 in
    ⊎_elim
    (λ f. absurd (apart f.0 (c.if-not-all_free.true)))
    (λ f. sym (walk_taken _ _ _ _ _ _ _ _ w (in_order) (inside) f.1))
    c.all_free.ensures
