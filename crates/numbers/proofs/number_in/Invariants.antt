-- The bytes so far are digits; what they make is judged with the rest.
-- Assumes nothing.
use Rattle.numbers.proofs.Numbers.{SoFar}
use Rattle.numbers.proofs.number_in.Given as goal

abbrev pub invariant-loop-c : goal.invariant-loop-c
invariant-loop-c l = SoFar l.field l.c-index l.value
