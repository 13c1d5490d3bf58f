-- The loop's invariant: all nodes are in order exactly where those from here on are.
use Rattle.units.proofs.Common.{◌≡◌, ◌≤◌, ◌-◌, drop, every}
use Rattle.meaning.specs.Bench.{full}
use Rattle.meaning.specs.Bench.{node_count}
use Rattle.machine.proofs.Terms.{node_ok}
use Rattle.fit.proofs.nodes_ok.Given as goal

abbrev pub invariant-loop-i : goal.invariant-loop-i
invariant-loop-i l = (l.i ≤ node_count full) × (every node_ok l.nodes ≡ every node_ok (drop l.i l.nodes))

abbrev pub decreases-loop-i : goal.decreases-loop-i
decreases-loop-i l = node_count full - l.i
