-- What proofs use of this crate's definitions, passed on under one name.
-- Assumes nothing.
pub use Rattle.meaning.specs.Bench.{full, Bench, hub, is_reader, is_node}
unfoldable pub use Rattle.meaning.specs.Call.{step, judged, settled, lifted, from_desk, tried, command_in, named, kind_in, asked, same}
unfoldable pub use Rattle.meaning.specs.Call.{heeded, whom, roomed, run, governed, at_hub, repeats, ruled, bytes_in, at_reader, serves}
unfoldable pub use Rattle.meaning.specs.Call.{acknowledging, collecting, ranged, left, answer, obeyed, looked, tag_not_found, tagged}
pub use Rattle.meaning.specs.Call.{refused, Call, command, Said, Outcome, arrive, Local, acknowledge, Try, answered, queued, leave}
pub use Rattle.meaning.specs.Call.{check, collect, done, Whom, Desk, quiet, gateway, one, nobody, handed, Result, idle}
unfoldable pub use Rattle.meaning.specs.Cases.{unheld}
unfoldable pub use Rattle.meaning.specs.Command.{command_doubts, command_of, who_doubts, row_doubts, frame_doubts, limit_doubts}
unfoldable pub use Rattle.meaning.specs.Command.{unused_doubts, headed_count, command_data, command_result, read_command, range_wrong}
unfoldable pub use Rattle.meaning.specs.Gateway.{swept, fresh, put, taken, emptied, joined, onward}
pub use Rattle.meaning.specs.Gateway.{Gateway, set_reader, Node, join, clearing, plaque, resetting, Reader, empty, on, set_node, Sweep}
pub use Rattle.meaning.specs.Gateway.{none, Mode, Field, sweep, last, never, off, set_mode, set_field}
unfoldable pub use Rattle.meaning.specs.Packet.{written_output, written_count}
pub use Rattle.meaning.specs.Packet.{word_no, overall}
unfoldable pub use Rattle.meaning.specs.Refusal.{refusal}
pub use Rattle.meaning.specs.Refusal.{◌when◌, ◌or_else◌, Doubts}
unfoldable pub use Rattle.meaning.specs.Response.{well_formed, shown, bears, response_body, response_doubts, read_response, amount_wrong}
unfoldable pub use Rattle.meaning.specs.Response.{shown_count, response_result, response_of, has_head, answer_of, response_words}
unfoldable pub use Rattle.meaning.specs.Response.{error_wrong, response_output}
unfoldable pub use Rattle.meaning.specs.Room.{added, fits, share_of, charges}
pub use Rattle.meaning.specs.Room.{held}
unfoldable pub use Rattle.meaning.specs.Table.{row_of, table, lookup, suits, carried, carries}
pub use Rattle.meaning.specs.Table.{◌to◌}
