-- A fresh machine means a blank gateway, so the replies are the conversation's.
-- Assumes nothing.
use Rattle.units.proofs.Common.{refl, ◌≤◌, ◌*◌, arith, length, replicate}
use Rattle.meaning.proofs.Terms.{full}
use Rattle.dialog.specs.Dialog.{longest_answer, lines_of}
use Rattle.blank.proofs.Blank.{blank_fit, blank_means}
use Rattle.conversation.proofs.Conversing.{conversed, unconversed}
use Rattle.conversation.proofs.converse.Goals as goal

pub returns-then-out-count_lines : goal.returns-then-out-count_lines
returns-then-out-count_lines c = unconversed (omega (arith, c.if-out-count_lines.true, c.count_lines.ensures))

pub speak-r-requires : goal.speak-r-requires
speak-r-requires c =
    let enough : length (lines_of c.args.input.now) * longest_answer ≤ length
    c.args.out.now = omega (arith, c.if-out-count_lines.false, c.count_lines.ensures) in
    record {
      plaques_value = blank_fit _ (replicate full.store 0) _ refl c.fresh-s.ensures;
      longest_answer_in_bounds = enough;
    }

pub returns : goal.returns
returns c =
    let enough : length (lines_of c.args.input.now) * longest_answer ≤ length
    c.args.out.now = omega (arith, c.if-out-count_lines.false, c.count_lines.ensures) in
    conversed (blank_means _ (replicate full.store 0) _ refl c.fresh-s.ensures) (enough) c.speak-r.ensures
