-- After so many turns the first words of src stand in dst.
-- Assumes nothing.
use Rattle.std.proofs.Common.{◌≡◌, take}
use lib.Seq.{sets}
use Rattle.moves.proofs.copy_in.Given as goal

abbrev pub invariant-loop-i : goal.invariant-loop-i
invariant-loop-i l = l.dst ≡ sets l.initial.dst l.to (take l.i l.src)
