-- After so many steps all nodes passed are in order, and a node that is not ends the loop: that is `every`.
use Rattle.units.proofs.Common.{◌≡◌, ◌≤◌, ◌-◌, drop, every}
use Rattle.placed.specs.Consistent.{node_ok}
use Rattle.placed.proofs.nodes_ok.Given as goal

abbrev pub invariant-loop-i : goal.invariant-loop-i
invariant-loop-i l = (l.i ≤ 17) × (every node_ok l.nodes ≡ every node_ok (drop l.i l.nodes))

abbrev pub decreases-loop-i : goal.decreases-loop-i
decreases-loop-i l = 17 - l.i
