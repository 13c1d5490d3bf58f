-- What is written so far and the replies to the lines to come are all replies (Conversing.antt); each way around the loop is a line played,
-- by whom it is for (Speaking.antt).
-- Assumes nothing.
use Rattle.units.proofs.Common.{◌≡◌, ◌-◌, length}
use Rattle.machine.proofs.Terms.{machine}
use Rattle.dialog.specs.Spoken.{most_words, longest_id, longest_plaque}
use Rattle.conversation.proofs.Conversing.{Along}
use Rattle.conversation.proofs.speak.Given as goal

abbrev pub invariant-loop-from : goal.invariant-loop-from
invariant-loop-from l = (length l.packet ≡ most_words) × (length l.id ≡ longest_id) × (length l.content ≡ longest_plaque)
    × Along l.input l.initial.out l.out (machine l.initial.s l.initial.store l.initial.plaques) l.from l.to (machine l.s l.store l.plaques)

abbrev pub decreases-loop-from : goal.decreases-loop-from
decreases-loop-from l = length l.input - l.from
