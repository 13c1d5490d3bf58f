-- The lists are clear exactly if those from node i on are.
-- Assumes nothing.
use Rattle.units.proofs.Common.{◌≡◌, ◌≤◌, ◌-◌, drop}
use Rattle.units.proofs.Common.{every}
use Rattle.placed.specs.Consistent.{list_clear}
use Rattle.placed.proofs.fine.lists_clear.Given as goal

abbrev pub invariant-loop-i : goal.invariant-loop-i
invariant-loop-i l = (l.i ≤ 17) × (every list_clear l.nodes ≡ every list_clear (drop l.i l.nodes))

abbrev pub decreases-loop-i : goal.decreases-loop-i
decreases-loop-i l = 17 - l.i
