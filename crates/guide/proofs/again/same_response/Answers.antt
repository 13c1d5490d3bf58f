-- What the writer says of its answer says what the comparison gives.
-- Assumes nothing.
use Rattle.units.proofs.Common.{◌∙◌, ◌≡◌, replicate, rules}
use Rattle.meaning.proofs.Terms.{full, response_output}
use Rattle.meaning.specs.Response.{write_response}
use Rattle.meaning.proofs.ResponseLaws.{count_responded, writable}
use Rattle.guide.specs.Again.{response_again}
use Rattle.guide.proofs.Alike.{compared}
use Rattle.guide.proofs.again.same_response.Goals as goal

pub returns : goal.returns
unfolding response_again write_response response_output
returns c =
    let a = c.args in
    let (r, out, p, e) = c.same.ensures in
    let value : r ≡ write_response full a.form a.r a.bytes.now 256 = search rules in
    let after : out ≡ response_output full a.form a.r a.bytes.now (replicate 256 0) = search rules in
    e ∙ compared _ _ _ _ (replicate 256 0) _ _ (count_responded a.form a.r a.bytes.now) (λ z. (writable full a.form a.r _ _ z).fits) value after
