-- The words from the place to w are marked, and no other.
-- Assumes nothing.
use Rattle.units.proofs.Common.{◌≤◌, ◌-◌}
use Rattle.placed.specs.Marks.{Marked}
use Rattle.placed.proofs.fine.mark.Given as goal

abbrev pub invariant-loop-w : goal.invariant-loop-w
invariant-loop-w l = (l.place ≤ l.w) × (l.w ≤ l.end) × Marked l.initial.used l.used l.place (l.w - l.place)

abbrev pub decreases-loop-w : goal.decreases-loop-w
decreases-loop-w l = l.end - l.w
