-- After i turns the front of out holds the first i words.
-- Assumes nothing.
use Rattle.units.proofs.Common.{◌≡◌, ◌++◌, drop, take}
use Rattle.units.specs.Packing.{packed}
use Rattle.packing.proofs.pack.Given as goal

abbrev pub invariant-loop-i : goal.invariant-loop-i
invariant-loop-i l = l.out ≡ take l.i (packed l.bytes) ++ drop l.i l.initial.out
