-- Six words and then the data, each written behind the last.
use Rattle.units.proofs.Common.{◌∙◌, List, [], ◌∷◌, ℕ, sets, packed}
use Rattle.units.proofs.Tails.{tail_sets}
use Rattle.meaning.specs.Command.{command_body}
use Rattle.commandout.proofs.put_body.Goals as goal

pub returns : goal.returns
unfolding command_body
returns c =
    let a = c.args in
    let w : List ℕ = c.overall.result.0 ∷ c.word.result ∷ c.word-2.result ∷ a.m.word4 ∷ a.m.start ∷
    a.m.size ∷ [] in
    tail_sets 6 (sets a.out.now 0 w) (packed a.bytes.now) _ c.pack.ensures
    ∙ rw (c.overall.ensures, c.word.ensures, c.word-2.ensures)
