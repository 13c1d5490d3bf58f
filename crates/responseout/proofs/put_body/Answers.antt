-- Six words and then the data, each written behind the last.
use Rattle.units.proofs.Common.{◌∙◌, List, [], ◌∷◌, ℕ, sets, packed}
use Rattle.units.proofs.Tails.{tail_sets}
use Rattle.meaning.proofs.Terms.{response_body}
use Rattle.responseout.proofs.put_body.Goals as goal

pub returns : goal.returns
unfolding response_body
returns c =
    let a = c.args in
    let w : List ℕ = c.overall.result.0 ∷ c.word.result ∷ c.word-2.result ∷ c.word-3.result ∷
    c.word-4.result ∷ c.word-5.result ∷ [] in
    tail_sets 6 (sets a.out.now 0 w) (packed a.bytes.now) _ c.pack.ensures
    ∙ rw (
      c.word-5.ensures,
      c.word-4.ensures,
      c.word-3.ensures,
      c.word-2.ensures,
      c.word.ensures,
      c.mark.ensures,
      c.overall.ensures,
    )
