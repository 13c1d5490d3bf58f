-- Every row of the closed cases of refusals 1 and 2, and of what a machine means, holds; the checker computes them.
-- Assumes nothing.
use Rattle.units.proofs.Common.{◌≡◌, refl, [], ℕ}
use Rattle.meaning.proofs.Terms.{unheld}
use Rattle.meaning.proofs.Opened.{response_read, gateway}
use Rattle.state.specs.State.{emptied_node, reset_node}
use Rattle.machine.specs.Layout.{laid, all_laid, store_of, cuts, past}
use Rattle.machine.specs.Machine.{nodes_in, field_of, mode_of, region_of, reader_of, seen, nodes_of, readers_of, meaning}
use Rattle.state.specs.Reports.{report_of}
use Rattle.machine.specs.Consistent.{in_layout, formed, charges_of, bounded, listed, lists_ok, node_ok, plaque_ok, reading_ok, report_ok}
use Rattle.machine.specs.Consistent.{reader_ok, name_ok, arrays, consistent, lengths, lent, unfit}
use Rattle.machine.specs.CasesOfStates.{lent_cases, answer_cases, gap_cases, order_cases, sharing_cases, tail_cases, count_cases, bound_cases}
use Rattle.machine.specs.CasesOfStates.{end_cases, node_cases, plaque_cases, reading_cases, report_cases, name_cases, array_cases}
use Rattle.machine.specs.CasesOfStates.{state_cases}
use Rattle.machine.specs.CasesOfMachines.{flat, in_field, in_report, in_mode, machine_cases, nodes_are, by_node, value_cases, layout_cases}

-- what the rows compute with: to name one of these on a line of `unfolding` opens all that its own line names
unfoldable pub lists : ℕ
unfolding laid all_laid store_of cuts past nodes_in in_layout formed charges_of bounded listed lists_ok
lists = 0

unfoldable pub machines : ℕ
unfolding response_read gateway lists node_ok plaque_ok reading_ok report_ok reader_ok name_ok arrays consistent lengths lent unfit
machines = 0

unfoldable pub rows : ℕ
unfolding lent_cases answer_cases gap_cases order_cases sharing_cases tail_cases count_cases bound_cases end_cases
rows = 0

unfoldable pub fields : ℕ
unfolding node_cases plaque_cases reading_cases report_cases name_cases array_cases
fields = 0

pub state_cases_hold : unheld state_cases ≡ []
unfolding unheld state_cases rows fields machines
state_cases_hold = refl

unfoldable pub meanings : ℕ
unfolding response_read cuts past nodes_in field_of report_of mode_of region_of reader_of seen nodes_of readers_of meaning
meanings = 0

pub machine_cases_hold : unheld machine_cases ≡ []
unfolding unheld machine_cases meanings flat in_field in_report in_mode
machine_cases_hold = refl

pub value_cases_hold : unheld value_cases ≡ []
unfolding unheld value_cases response_read gateway emptied_node reset_node nodes_are
value_cases_hold = refl

pub layout_cases_hold : unheld layout_cases ≡ []
unfolding unheld layout_cases response_read lists flat by_node
layout_cases_hold = refl
