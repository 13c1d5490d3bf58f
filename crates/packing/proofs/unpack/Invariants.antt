-- After i turns the front of out holds the bytes of the first i words.
-- Assumes nothing.
use Rattle.units.proofs.Common.{◌≡◌, ◌++◌, ◌+◌, drop, take}
use Rattle.units.specs.Packing.{bytes_of}
use Rattle.packing.proofs.unpack.Given as goal

abbrev pub invariant-loop-i : goal.invariant-loop-i
invariant-loop-i l = l.out ≡ take (l.i + l.i) (bytes_of l.words) ++ drop (l.i + l.i) l.initial.out
