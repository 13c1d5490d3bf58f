-- The words of all lists are counted right exactly if those from node i on are.
-- Assumes nothing.
use Rattle.units.proofs.Common.{◌≡◌, ◌≤◌, ◌-◌, drop, every}
use Rattle.placed.specs.Consistent.{count_right}
use Rattle.placed.proofs.fine.all_counted.Given as goal

abbrev pub invariant-loop-i : goal.invariant-loop-i
invariant-loop-i l = (l.i ≤ 17) × (every (count_right l.store) l.nodes ≡ every (count_right l.store) (drop l.i l.nodes))

abbrev pub decreases-loop-i : goal.decreases-loop-i
decreases-loop-i l = 17 - l.i
