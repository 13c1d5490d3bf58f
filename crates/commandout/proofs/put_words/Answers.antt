-- Word 00 in framed form, and the body behind it.
use Rattle.units.proofs.Common.{◌∙◌, set}
use Rattle.meaning.proofs.Terms.{headed_count}
use Rattle.units.proofs.Tails.{tail_sets}
use Rattle.meaning.specs.Command.{command_words, headed, command_body}
use Rattle.commandout.proofs.put_words.Goals as goal

pub returns-in-Framed : goal.returns-in-Framed
unfolding headed_count command_words headed
returns-in-Framed c =
    rw c.in-Framed.is
    (let a = c.args in
    tail_sets 1 (set a.out.now 0 c.word.result) (command_body a.m a.bytes.now) _ c.put_body-in-Framed.ensures
    ∙ rw c.word.ensures)
