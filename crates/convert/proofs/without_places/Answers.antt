-- After so many steps the nodes passed have lost their places, and the others are still fresh; at the end that is `map`.
use Rattle.units.proofs.Common.{sym, ◌∙◌, ◌≡◌, refl, ap, map, arith, length, length-set, take_all, rules}
use Rattle.placed.proofs.InOrder.{blank, node_any}
use Rattle.state.proofs.Lists.{length_mapped}
use Rattle.convert.specs.Convert.{new_node}
use Rattle.convert.proofs.Loops.{map_filled}
use Rattle.convert.proofs.without_places.Goals as goal

pub loop-k-init : goal.loop-k-init
loop-k-init c = (omega arith, ap length c.silent-ns.ensures, refl)

pub overflow_cast-m : goal.overflow_cast-m
overflow_cast-m c =
    let nodes_each : length c.args.nodes ≡ 17 = search (rules, length_mapped) in
    let k = c.loop-k.k in
    let n = nodes_each in
    let e = node_any c.args.nodes k (omega arith) in
    record { fits = rw e (omega (arith, c.requires k (omega arith))) }

pub loop-k-preserved : goal.loop-k-preserved
loop-k-preserved c =
    let nodes_each : length c.args.nodes ≡ 17 = search (rules, length_mapped) in
    let l = c.loop-k in
    let ns = c.args.nodes in
    let n = nodes_each in
    let e = l.invariant.1 in
    (omega arith, simp length-set e, map_filled new_node ns l.ns l.k blank _ (omega arith) (omega arith) l.invariant.2 refl)

pub returns : goal.returns
returns c =
    let nodes_each : length c.args.nodes ≡ 17 = search (rules, length_mapped) in
    let l = c.loop-k in
    let ns = c.args.nodes in
    let n = nodes_each in
    sym (take_all l.k l.ns (omega (arith, l.invariant.1))) ∙ l.invariant.2 ∙ ap (map new_node) (take_all l.k ns (omega arith))
