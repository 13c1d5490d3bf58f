-- The whole walk is the rest of it: at each node, and at each of its answers.
-- Assumes nothing.
use Rattle.units.proofs.Common.{◌≡◌, true, ◌≤◌, ◌-◌, ◌+◌, drop, get_or}
use Rattle.meaning.specs.Bench.{node_count}
use Rattle.meaning.proofs.Terms.{full}
use Rattle.machine.proofs.Terms.{counts}
use Rattle.lists.specs.Line.{in_line}
use Rattle.lists.proofs.Walk.{rest}
use Rattle.lists.proofs.line.in_line.Given as goal

abbrev pub invariant-loop-k : goal.invariant-loop-k
invariant-loop-k l = (l.k ≤ l.n.answers) × (l.from ≤ l.place) × (l.fine ≡ true)
    × (in_line full 0 l.store l.nodes (counts l.held)
    ≡ rest full l.i (l.n.answers - l.k) (l.place - l.from) (drop l.place l.store) (get_or (counts l.held) l.i 0) (drop (l.i + 1) l.nodes)
    (drop (l.i + 1) (counts l.held)))

abbrev pub decreases-loop-k : goal.decreases-loop-k
decreases-loop-k l = l.n.answers - l.k

abbrev pub invariant-nodes : goal.invariant-nodes
invariant-nodes l = (l.i ≤ node_count full) × (l.fine ≡ true)
    × (in_line full 0 l.store l.nodes (counts l.held) ≡ in_line full l.i (drop l.place l.store) (drop l.i l.nodes) (drop l.i (counts l.held)))

abbrev pub decreases-nodes : goal.decreases-nodes
decreases-nodes l = node_count full - l.i
