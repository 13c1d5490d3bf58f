-- The loop's invariant: the bytes from the start on are zeros exactly where those from here on are.
use Rattle.units.proofs.Common.{◌≡◌, ◌-◌, length, drop}
use Rattle.machine.proofs.Terms.{zeros}
use Rattle.fit.proofs.all_zero.Given as goal

abbrev pub invariant-loop-i : goal.invariant-loop-i
invariant-loop-i l = zeros (drop l.from l.bytes) ≡ zeros (drop l.i l.bytes)

abbrev pub decreases-loop-i : goal.decreases-loop-i
decreases-loop-i l = length l.bytes - l.i
