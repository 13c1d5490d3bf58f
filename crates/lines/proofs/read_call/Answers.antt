-- Each arm reads the fields after the first as the call that the first names; the buffers of the other calls are as they were.
-- Assumes nothing.
use Rattle.units.proofs.Common.{sym, ◌∙◌, ◌≡◌, ap, rules}
use Rattle.std.proofs.Common.{Some, slice_get, option_copied}
use Rattle.fields.specs.FieldsAt.{fields_from}
use Rattle.lines.proofs.Whole.{first_there, none_leaves, command_leaves, check_leaves, arrive_leaves, leave_leaves, collect_leaves, acknowledge_leaves, store_leaves}
use Rattle.lines.proofs.read_call.Goals as goal
use Rattle.lines.proofs.read_call.Goals.{After-verb_of}

first : (p : After-verb_of) → slice_get (fields_from p.args.line.now 0) 0 ≡ Some p.in_ok-verb.field-0.now
first p = sym p.read_field-verb.ensures.value ∙ ap option_copied p.in_ok-verb.was

pub returns-in_err-verb : goal.returns-in_err-verb
returns-in_err-verb c = absurd (first_there c.args.line.now (sym c.read_field-verb.ensures.value ∙ ap option_copied c.in_err-verb.was))

pub returns-in_err-verb_of : goal.returns-in_err-verb_of
returns-in_err-verb_of c = none_leaves _ _ _ _ _ _ (first (goal.at.returns-in_err-verb_of c).After-verb_of) (sym c.in_err-verb_of.was ∙ c.verb_of.ensures) (search rules)

pub returns-in-Command : goal.returns-in-Command
returns-in-Command c = command_leaves _ _ _ _ _ _ (first (goal.at.returns-in-Command c).After-verb_of) _ c.read_field-verb.ensures.next _ (sym (ap Some c.in-Command.is) ∙ sym c.in_ok-verb_of.was ∙ c.verb_of.ensures) c.read_command.ensures.value c.read_command.ensures.words_after

pub returns-in-Check : goal.returns-in-Check
returns-in-Check c = check_leaves _ _ _ _ _ _ (first (goal.at.returns-in-Check c).After-verb_of) _ c.read_field-verb.ensures.next (sym (ap Some c.in-Check.is) ∙ sym c.in_ok-verb_of.was ∙ c.verb_of.ensures) c.read_check.ensures

pub returns-in-Arrive : goal.returns-in-Arrive
returns-in-Arrive c = arrive_leaves _ _ _ _ _ _ (first (goal.at.returns-in-Arrive c).After-verb_of) _ c.read_field-verb.ensures.next _ _ (sym (ap Some c.in-Arrive.is) ∙ sym c.in_ok-verb_of.was ∙ c.verb_of.ensures) c.read_arrive.ensures.value c.read_arrive.ensures.id_after c.read_arrive.ensures.bytes_after

pub returns-in-Leave : goal.returns-in-Leave
returns-in-Leave c = leave_leaves _ _ _ _ _ _ (first (goal.at.returns-in-Leave c).After-verb_of) _ c.read_field-verb.ensures.next (sym (ap Some c.in-Leave.is) ∙ sym c.in_ok-verb_of.was ∙ c.verb_of.ensures) c.read_leave.ensures

pub returns-in-Collect : goal.returns-in-Collect
returns-in-Collect c = collect_leaves _ _ _ _ _ _ (first (goal.at.returns-in-Collect c).After-verb_of) _ c.read_field-verb.ensures.next (sym (ap Some c.in-Collect.is) ∙ sym c.in_ok-verb_of.was ∙ c.verb_of.ensures) c.read_collect.ensures

pub returns-in-Acknowledge : goal.returns-in-Acknowledge
returns-in-Acknowledge c = acknowledge_leaves _ _ _ _ _ _ (first (goal.at.returns-in-Acknowledge c).After-verb_of) _ c.read_field-verb.ensures.next (sym (ap Some c.in-Acknowledge.is) ∙ sym c.in_ok-verb_of.was ∙ c.verb_of.ensures) c.read_acknowledge.ensures

pub returns-in-Store : goal.returns-in-Store
returns-in-Store c = store_leaves _ _ _ _ _ _ (first (goal.at.returns-in-Store c).After-verb_of) _ c.read_field-verb.ensures.next (sym (ap Some c.in-Store.is) ∙ sym c.in_ok-verb_of.was ∙ c.verb_of.ensures) c.read_store.ensures
