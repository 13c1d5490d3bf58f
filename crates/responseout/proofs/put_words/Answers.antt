-- Word 00 where the node bears one, and the body behind it.
use Rattle.units.proofs.Common.{◌∙◌, set}
use Rattle.units.proofs.Tails.{tail_sets}
use Rattle.meaning.proofs.Chain.{flag}
use Rattle.meaning.proofs.Terms.{response_words, shown, response_body}
use Rattle.responseout.proofs.put_words.Goals as goal

pub returns-then-bears : goal.returns-then-bears
unfolding response_words shown
returns-then-bears c =
    let a = c.args in
    rw (flag c.bears.ensures c.if-bears.true)
    (tail_sets 1 (set a.out.now 0 c.word.result) (response_body a.r a.bytes.now) _ c.put_body.ensures
    ∙ rw c.word.ensures)
