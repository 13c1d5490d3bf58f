-- The words so far were written, a blank behind each.
-- Assumes nothing.
use Rattle.units.proofs.Common.{take}
use Rattle.text.specs.Text.{Put}
use Rattle.text.proofs.Writing.{spaced}
use Rattle.wordsout.proofs.put_words.Given as goal

abbrev pub invariant-loop-w : goal.invariant-loop-w
invariant-loop-w l = Put l.initial.out l.at (spaced (take l.w-index l.words)) l.out l.to
