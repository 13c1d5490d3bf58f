-- Every row of the closed cases of a state with places holds; the checker computes them.
-- Assumes nothing.
use Rattle.units.proofs.Common.{◌≡◌, refl, [], ℕ}
use Rattle.meaning.proofs.Terms.{unheld}
use Rattle.meaning.proofs.Opened.{response_read, gateway}
use Rattle.machine.proofs.Terms.{field_of, report_of, mode_of, region_of, reader_of, seen, readers_of, charges_of, bounded, plaque_ok, reading_ok}
use Rattle.machine.proofs.Terms.{report_ok, reader_ok, name_ok}
use Rattle.placed.specs.Machine.{answer_at, starts_of, pending_of, node_of, nodes_of, meaning}
use Rattle.placed.specs.Consistent.{ok_answer, overlap, clear_of, spots, in_order, fine_lists, helds_of, count_right, list_clear, lists_ok}
use Rattle.placed.specs.Consistent.{node_ok, arrays, consistent, lengths, lent, unfit}
use Rattle.placed.specs.Cases.{lent_cases, answer_cases, sharing_cases, count_cases, bound_cases, node_cases, other_cases, state_cases, flat}
use Rattle.placed.specs.Cases.{machine_cases}

-- what the rows compute with: to name one of these on a line of `unfolding` opens all that its own line names
unfoldable pub lists : ℕ
unfolding answer_at starts_of pending_of ok_answer overlap clear_of spots in_order fine_lists helds_of
    count_right charges_of bounded list_clear lists_ok
lists = 0

unfoldable pub machines : ℕ
unfolding response_read gateway lists node_ok plaque_ok reading_ok report_ok reader_ok name_ok arrays consistent lengths lent unfit
machines = 0

unfoldable pub rows : ℕ
unfolding lent_cases answer_cases sharing_cases count_cases bound_cases node_cases other_cases
rows = 0

pub state_cases_hold : unheld state_cases ≡ []
unfolding unheld state_cases rows machines
state_cases_hold = refl

unfoldable pub meanings : ℕ
unfolding response_read answer_at starts_of pending_of node_of field_of report_of mode_of region_of reader_of seen nodes_of readers_of meaning
meanings = 0

pub machine_cases_hold : unheld machine_cases ≡ []
unfolding unheld machine_cases meanings flat
machine_cases_hold = refl
