-- The array's first i counts are those that are to be there.
-- Assumes nothing.
use Rattle.units.proofs.Common.{sym, ◌∙◌, ◌≡◌, ap, arith, length, length-set, length-map, take_all, rules}
use Rattle.placed.specs.declared.Node.{Node}
use Rattle.placed.proofs.InOrder.{node_any, length_words, words_at}
use Rattle.state.proofs.Lists.{length_mapped, filled}
use Rattle.machine.proofs.Terms.{counts}
use Rattle.placed.proofs.fine.helds.Goals as goal

pub loop-i-preserved : goal.loop-i-preserved
loop-i-preserved c =
    let nodes_each : length c.args.nodes ≡ 17 = search (rules, length_mapped) in
    let ns = c.args.nodes in
    let l = c.loop-i in
    let m = nodes_each in
    let n = length_words ns ∙ m in
    let e = ap (λ (x : Node). x.list.words.0) (node_any ns l.i (omega arith)) ∙ sym (words_at ns l.i) in
    (omega arith, simp length-set (omega arith), filled (λ w. w.0) l.hs _ l.i _ 0 (omega arith) (omega arith) l.invariant.2 e)

pub returns : goal.returns
returns c =
    let nodes_each : length c.args.nodes ≡ 17 = search (rules, length_mapped) in
    let l = c.loop-i in
    let n = length_words c.args.nodes ∙ nodes_each in
    let m : length (counts l.hs) ≡ 17 = rw length-map l.invariant.1 in
    sym (take_all l.i _ (omega arith)) ∙ l.invariant.2 ∙ take_all l.i _ (omega arith)
