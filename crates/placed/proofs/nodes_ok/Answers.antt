-- After so many steps all nodes passed are in order, and a node that is not ends the loop: that is `every`.
use Rattle.units.proofs.Common.{sym, ◌∙◌, ◌≡◌, List, arith, length, le-leb, lt-leb, rules, yes_and, no_and}
use Rattle.placed.specs.Consistent.{node_ok}
use Rattle.placed.specs.declared.Node.{Node}
use Rattle.state.proofs.Lists.{length_mapped, every_at, every_end}
use Rattle.placed.proofs.nodes_ok.Goals as goal

pub returns-then-n-lt1 : goal.returns-then-n-lt1
unfolding node_ok
returns-then-n-lt1 c =
    let a = c.args in
    let l : List Node = a.nodes in
    let n : length l ≡ 17 = search (rules, length_mapped) in
    sym (c.loop-i.invariant.1 ∙ every_at node_ok l c.loop-i.i _ (omega arith) ∙ no_and _ (lt-leb _ _ c.if-n-lt1.true))

pub loop-i-preserved : goal.loop-i-preserved
unfolding node_ok
loop-i-preserved c =
    let a = c.args in
    let l : List Node = a.nodes in
    let n : length l ≡ 17 = search (rules, length_mapped) in
    (omega arith, c.loop-i.invariant.1 ∙ every_at node_ok l c.loop-i.i _ (omega arith) ∙ yes_and (le-leb 1 _ c.if-n-lt1.false))

pub returns : goal.returns
returns c =
    let l : List Node = c.args.nodes in
    let n : length l ≡ 17 = search (rules, length_mapped) in
    sym (c.loop-i.invariant.1 ∙ every_end node_ok l c.loop-i.i (omega arith))
