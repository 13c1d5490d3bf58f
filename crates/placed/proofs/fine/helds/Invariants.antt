-- The array's first i counts are those that are to be there.
-- Assumes nothing.
use Rattle.units.proofs.Common.{◌≡◌, ◌≤◌, ◌-◌, length, take}
use Rattle.machine.proofs.Terms.{counts}
use Rattle.placed.specs.Walked.{words_of}
use Rattle.placed.proofs.fine.helds.Given as goal

abbrev pub invariant-loop-i : goal.invariant-loop-i
invariant-loop-i l = (l.i ≤ 17) × (length l.hs ≡ 17) × (take l.i (counts l.hs) ≡ take l.i (words_of l.nodes))

abbrev pub decreases-loop-i : goal.decreases-loop-i
decreases-loop-i l = 17 - l.i
