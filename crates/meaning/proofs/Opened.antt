-- What closed cases compute with. To name one of these on a line of `unfolding` opens every definition that its own line names.
-- Assumes nothing.
use Rattle.units.proofs.Common.{ℕ, every, is_stamp}
use Rattle.units.specs.Stamp.{last_day}
use Rattle.meaning.specs.Refusal.{refusal, word_at_fault}
use Rattle.meaning.specs.Packet.{count_wrong, length_wrong, spare_wrong, written_count, written_output}
use Rattle.meaning.specs.Table.{table, lookup, row_of, suits, carries, carried}
use Rattle.meaning.specs.Command.{body_of, command_of, head_wrong, head_node_wrong, frame_doubts, who_doubts, outside, delay_wrong}
use Rattle.meaning.specs.Command.{range_wrong, limit_doubts, stray, unused_doubts, row_doubts, command_doubts, command_result, read_command}
use Rattle.meaning.specs.Command.{command_data, headed, command_body, command_words, headed_count, writer_doubts, write_refusal}
use Rattle.meaning.specs.Command.{write_command, command_output}
use Rattle.meaning.specs.Response.{has_head, answer_of, response_of, mark_wrong, head_misplaced, nodes_differ, error_wrong, origin_doubts}
use Rattle.meaning.specs.Response.{content_doubts, response_doubts, response_result, read_response, response_data, well_formed}
use Rattle.meaning.specs.Response.{response_body, bears, shown, response_words, shown_count, amount_wrong, responder_doubts}
use Rattle.meaning.specs.Response.{respond_refusal, write_response, response_output}
use Rattle.meaning.specs.Gateway.{put, fresh, joined, onward, taken, emptied, swept}
use Rattle.meaning.specs.Room.{added, share_of, charge, total, charges, fits}
use Rattle.meaning.specs.Call.{asked, judged, collecting, acknowledging, same, repeats, ranged, started, answer, tag_not_found, tagged}
use Rattle.meaning.specs.Call.{obeyed, looked, left, arrived, command_in, kind_in, bytes_in, at_reader, ruled, governed, at_hub, named}
use Rattle.meaning.specs.Call.{serves, whom, lifted, from_desk, heeded, tried, roomed, settled, step, run}

-- refusals, and what all packets share
unfoldable pub parts : ℕ
unfolding every last_day is_stamp refusal word_at_fault count_wrong length_wrong spare_wrong written_count written_output same
parts = 0

-- commands read
unfoldable pub tested : ℕ
unfolding table lookup row_of suits carries carried outside delay_wrong range_wrong stray who_doubts limit_doubts unused_doubts
tested = 0

unfoldable pub command_read : ℕ
unfolding parts tested body_of command_of head_wrong head_node_wrong frame_doubts row_doubts command_doubts command_result read_command command_data
command_read = 0

-- commands written
unfoldable pub command_written : ℕ
unfolding parts tested headed command_body command_words headed_count writer_doubts write_refusal write_command command_output
command_written = 0

-- responses read
unfoldable pub origin : ℕ
unfolding has_head answer_of response_of mark_wrong head_misplaced nodes_differ error_wrong origin_doubts content_doubts
origin = 0

unfoldable pub response_read : ℕ
unfolding parts origin response_doubts response_result read_response response_data well_formed
response_read = 0

-- responses written
unfoldable pub response_written : ℕ
unfolding parts response_body bears shown response_words shown_count amount_wrong responder_doubts respond_refusal write_response response_output
response_written = 0

-- the gateway, and room
unfoldable pub gateway : ℕ
unfolding put fresh joined onward taken emptied swept added share_of charge total charges fits
gateway = 0

-- calls
unfoldable pub local : ℕ
unfolding collecting acknowledging repeats ranged started answer tag_not_found tagged obeyed looked left arrived ruled governed
local = 0

unfoldable pub called : ℕ
unfolding asked judged command_in kind_in bytes_in at_reader at_hub named serves whom lifted from_desk heeded tried roomed settled step run
called = 0

unfoldable pub calls : ℕ
unfolding command_read response_written gateway local called
calls = 0
