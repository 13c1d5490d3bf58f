-- The refusal decides which result it is, and what was opened for it is what the packet says.
use Rattle.units.proofs.Common.{sym, eq-eqb, ne_eqb, yes_cond, no_cond}
use Rattle.meaning.proofs.Terms.{read_command, command_result}
use Rattle.command.proofs.Leaves.{refusal_is, said_is}
use Rattle.command.proofs.read_command.Goals as goal

pub returns-then-n-ne0 : goal.returns-then-n-ne0
unfolding read_command command_result
returns-then-n-ne0 c =
    let a = c.args in
    let b = c.body_of-body.ensures in
    let e = refusal_is a.form a.words.now b c.command_of-m.ensures c.row_of.ensures
    c.packet_refusal-n.ensures in
    rw (← e) (sym (no_cond _ (ne_eqb _ _ c.if-n-ne0.true)))

pub returns : goal.returns
unfolding read_command command_result
returns c =
    let a = c.args in
    let b = c.body_of-body.ensures in
    let e = refusal_is a.form a.words.now b c.command_of-m.ensures c.row_of.ensures
    c.packet_refusal-n.ensures in
    rw (said_is a.form a.words.now b c.command_of-m.ensures, ← e) (sym (yes_cond _ (eq-eqb _ _ c.if-n-ne0.false)))
