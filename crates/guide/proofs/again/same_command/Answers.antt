-- What the writer says of its answer says what the comparison gives.
-- Assumes nothing.
use Rattle.units.proofs.Common.{◌∙◌, ◌≡◌, replicate, rules}
use Rattle.meaning.proofs.Terms.{full}
use Rattle.meaning.specs.Command.{write_command, command_output}
use Rattle.meaning.proofs.CommandLaws.{count_words, writable}
use Rattle.guide.specs.Again.{command_again}
use Rattle.guide.proofs.Alike.{compared}
use Rattle.guide.proofs.again.same_command.Goals as goal

pub returns : goal.returns
unfolding command_again write_command command_output
returns c =
    let a = c.args in
    let (r, out, p, e) = c.same.ensures in
    let value : r ≡ write_command full a.form a.m a.bytes.now 256 = search rules in
    let after : out ≡ command_output full a.form a.m a.bytes.now (replicate 256 0) = search rules in
    e ∙ compared _ _ _ _ (replicate 256 0) _ _ (count_words a.form a.m a.bytes.now) (λ z. (writable full a.form a.m _ _ z).fits) value after
