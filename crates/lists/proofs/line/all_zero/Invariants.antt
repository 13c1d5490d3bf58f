-- The words from the place on are zeros exactly if those from w on are.
-- Assumes nothing.
use Rattle.units.proofs.Common.{◌≡◌, ◌-◌, length, drop}
use Rattle.machine.proofs.Terms.{zeros}
use Rattle.lists.proofs.line.all_zero.Given as goal

abbrev pub invariant-loop-w : goal.invariant-loop-w
invariant-loop-w l = zeros (drop l.place l.store) ≡ zeros (drop l.w l.store)

abbrev pub decreases-loop-w : goal.decreases-loop-w
decreases-loop-w l = length l.store - l.w
