-- The four tests of the code, one after the other, are the definition's conjunction.
use Rattle.units.proofs.Common.{sym, ◌∙◌, ◌≡◌, ap, true, every, yes_and, no_and}
use Rattle.meaning.proofs.Terms.{full}
use Rattle.machine.proofs.Terms.{bounded}
use Rattle.placed.specs.Consistent.{fine_lists, count_right, helds_of, lists_ok}
use Rattle.placed.proofs.InOrder.{counted_is}
use Rattle.placed.proofs.fine.lists_ok.Goals as goal

pub returns-then-not-fine_lists : goal.returns-then-not-fine_lists
unfolding lists_ok
returns-then-not-fine_lists c = sym (no_and _ (sym c.fine_lists.ensures ∙ c.if-not-fine_lists.true))

pub all_counted-requires : goal.all_counted-requires
unfolding lists_ok
all_counted-requires c =
    -- past the first test
    let fine : fine_lists full c.args.store.now c.args.nodes ≡ true = sym c.fine_lists.ensures ∙ c.if-not-fine_lists.false in
    (c.requires, fine)

pub returns-then-not-all_counted : goal.returns-then-not-all_counted
unfolding lists_ok
returns-then-not-all_counted c =
    -- past the first test
    let fine : fine_lists full c.args.store.now c.args.nodes ≡ true = sym c.fine_lists.ensures ∙ c.if-not-fine_lists.false in
    sym (yes_and (fine) ∙ no_and _ (sym c.all_counted.ensures ∙ c.if-not-all_counted.true))

pub returns-then-not-bounds_met : goal.returns-then-not-bounds_met
unfolding lists_ok
returns-then-not-bounds_met c =
    -- past the first test
    let fine : fine_lists full c.args.store.now c.args.nodes ≡ true = sym c.fine_lists.ensures ∙ c.if-not-fine_lists.false in
    -- past the second
    let right : every (count_right c.args.store.now)
    c.args.nodes ≡ true = sym c.all_counted.ensures ∙ c.if-not-all_counted.false in
    -- what the third says
    let bounds : bounded full (helds_of c.args.store.now
    c.args.nodes) ≡ c.bounds_met.result = ap (bounded full) (sym (counted_is _ _ (right)) ∙ sym c.helds.ensures) ∙ sym
    c.bounds_met.ensures in
    sym (yes_and (fine) ∙ yes_and (right) ∙ no_and _ (bounds ∙ c.if-not-bounds_met.true))

pub returns : goal.returns
unfolding lists_ok
returns c =
    -- past the first test
    let fine : fine_lists full c.args.store.now c.args.nodes ≡ true = sym c.fine_lists.ensures ∙ c.if-not-fine_lists.false in
    -- past the second
    let right : every (count_right c.args.store.now)
    c.args.nodes ≡ true = sym c.all_counted.ensures ∙ c.if-not-all_counted.false in
    -- what the third says
    let bounds : bounded full (helds_of c.args.store.now
    c.args.nodes) ≡ c.bounds_met.result = ap (bounded full) (sym (counted_is _ _ (right)) ∙ sym c.helds.ensures) ∙ sym
    c.bounds_met.ensures in
    c.lists_clear.ensures
    ∙ sym (yes_and (fine) ∙ yes_and (right) ∙ yes_and
    (bounds ∙ c.if-not-bounds_met.false))
