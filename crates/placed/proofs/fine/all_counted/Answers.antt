-- The words of all lists are counted right exactly if those from node i on are.
-- Assumes nothing.
use Rattle.units.proofs.Common.{sym, ◌∙◌, ◌≡◌, ap, subst, arith, length, get_or, rules, yes_and}
use Rattle.units.proofs.Common.{no_and}
use Rattle.meaning.proofs.Terms.{full}
use Rattle.placed.specs.Consistent.{count_right}
use Rattle.placed.specs.State.{fresh_node}
use Rattle.placed.specs.declared.Node.{Node}
use Rattle.placed.proofs.InOrder.{node_any, fine_ok}
use Rattle.state.proofs.Lists.{length_mapped, every_at, every_end}
use Rattle.placed.specs.Walked.{InStore}
use Rattle.placed.proofs.fine.all_counted.Goals as goal

pub is_counted-requires : goal.is_counted-requires
is_counted-requires c =
    let nodes_each : length c.args.nodes ≡ 17 = search (rules, length_mapped) in
    let a = c.args in
    let n = nodes_each in
    let i = c.loop-i.i in record {
      in_store = subst (λ (x : Node). InStore full a.store.now i x.list) (sym (node_any a.nodes i (omega arith)))
          (fine_ok full a.store.now a.nodes c.requires.1 i (omega arith));
      store_len = c.requires.0;
    }

pub returns-then-not-is_counted : goal.returns-then-not-is_counted
unfolding count_right
returns-then-not-is_counted c =
    let nodes_each : length c.args.nodes ≡ 17 = search (rules, length_mapped) in
    -- what the call says of the node at i
    let here : count_right c.args.store.now
    (get_or c.args.nodes c.loop-i.i fresh_node) ≡
    c.is_counted.result = let n = nodes_each in
    ap (count_right c.args.store.now) (sym (node_any c.args.nodes c.loop-i.i (omega arith))) ∙ sym c.is_counted.ensures in
    let n = nodes_each in
    let l = c.loop-i in
    sym (l.invariant.1 ∙ every_at (count_right c.args.store.now) _ l.i fresh_node (omega arith) ∙ no_and _
    (here ∙ c.if-not-is_counted.true))

pub loop-i-preserved : goal.loop-i-preserved
unfolding count_right
loop-i-preserved c =
    let nodes_each : length c.args.nodes ≡ 17 = search (rules, length_mapped) in
    -- what the call says of the node at i
    let here : count_right c.args.store.now
    (get_or c.args.nodes c.loop-i.i fresh_node) ≡
    c.is_counted.result = let n = nodes_each in
    ap (count_right c.args.store.now) (sym (node_any c.args.nodes c.loop-i.i (omega arith))) ∙ sym c.is_counted.ensures in
    let n = nodes_each in
    let l = c.loop-i in (
      omega arith,
      l.invariant.1 ∙ every_at (count_right c.args.store.now) _ l.i fresh_node (omega arith) ∙ yes_and
          (here ∙ c.if-not-is_counted.false),
    )

pub returns : goal.returns
returns c =
    let nodes_each : length c.args.nodes ≡ 17 = search (rules, length_mapped) in
    let n = nodes_each in
    sym (c.loop-i.invariant.1
    ∙ every_end (count_right c.args.store.now) _ c.loop-i.i (omega arith))
