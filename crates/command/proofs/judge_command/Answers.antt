-- A stamp that is none is 3, before all that the packet could be refused for; what was opened is what the packet says, its row the table's.
use Rattle.units.proofs.Common.{sym, ◌∙◌, refl, ap, not}
use Rattle.meaning.proofs.Terms.{judged, asked, command_in, kind_in}
use Rattle.meaning.proofs.Chain.{pass_if, stop_if}
use Rattle.command.proofs.Leaves.{refusal_is, said_is, kind_is, judged_is}
use Rattle.command.proofs.judge_command.Goals as goal

pub returns-then-not-is_valid : goal.returns-then-not-is_valid
unfolding judged asked command_in kind_in
returns-then-not-is_valid c =
    let a = c.args in
    let b = c.body_of-body.ensures in
    let e = c.command_of-what.ensures in
    let bad = ap not (sym c.is_valid.ensures ∙ c.if-not-is_valid.true) in
    judged_is a.t a.form a.words.now (sym (stop_if 3 _ refl bad)) (kind_is a.form a.words.now b e c.row_of-row.ensures)
    (said_is a.form a.words.now b e)

pub returns : goal.returns
unfolding judged asked command_in kind_in
returns c =
    let a = c.args in
    let b = c.body_of-body.ensures in
    let e = c.command_of-what.ensures in
    let good = ap not (sym c.is_valid.ensures ∙ c.if-not-is_valid.false) in
    let r = refusal_is a.form a.words.now b e c.row_of-row.ensures c.packet_refusal-refusal.ensures in
    judged_is a.t a.form a.words.now (r ∙ sym (pass_if 3 _ good)) (kind_is a.form a.words.now b e c.row_of-row.ensures)
    (said_is a.form a.words.now b e)
