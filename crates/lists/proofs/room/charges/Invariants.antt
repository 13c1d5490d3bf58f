-- sum is the charges of the first i nodes.
-- Assumes nothing.
use Rattle.units.proofs.Common.{◌≡◌, ◌≤◌, ◌-◌, ◌*◌, take}
use Rattle.meaning.specs.Bench.{node_count}
use Rattle.meaning.proofs.Terms.{full}
use Rattle.machine.proofs.Terms.{counts, charges_of}
use Rattle.lists.proofs.room.charges.Given as goal

abbrev pub invariant-loop-i : goal.invariant-loop-i
invariant-loop-i l = (l.i ≤ node_count full) × (l.sum ≤ full.limit * l.i) × (l.sum ≡ charges_of full.share (take l.i (counts l.hs)))

abbrev pub decreases-loop-i : goal.decreases-loop-i
decreases-loop-i l = node_count full - l.i
