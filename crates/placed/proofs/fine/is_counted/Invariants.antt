-- sum is the words of the first k answers, which lie one behind the other.
-- Assumes nothing.
use Rattle.units.proofs.Common.{◌≡◌, ◌≤◌, ◌-◌}
use Rattle.placed.proofs.Starts.{span}
use Rattle.placed.proofs.fine.is_counted.Given as goal

abbrev pub invariant-loop-k : goal.invariant-loop-k
invariant-loop-k l = (l.k ≤ l.count) × (l.sum ≡ span l.store l.k l.list.place)

abbrev pub decreases-loop-k : goal.decreases-loop-k
decreases-loop-k l = l.count - l.k
