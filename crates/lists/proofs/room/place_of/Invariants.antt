-- sum is the words of the first k nodes.
-- Assumes nothing.
use Rattle.units.proofs.Common.{◌≡◌, ◌≤◌, ◌-◌, ◌*◌}
use Rattle.machine.proofs.Terms.{counts}
use Rattle.lists.specs.Room.{place_of}
use Rattle.lists.proofs.room.place_of.Given as goal

abbrev pub invariant-loop-k : goal.invariant-loop-k
invariant-loop-k l = (l.k ≤ l.i) × (l.sum ≤ 65535 * l.k) × (l.sum ≡ place_of (counts l.held) l.k)

abbrev pub decreases-loop-k : goal.decreases-loop-k
decreases-loop-k l = l.i - l.k
