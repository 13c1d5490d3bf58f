-- What proofs use of this crate's definitions, passed on under one name.
-- Assumes nothing.
unfoldable pub use Rattle.machine.specs.Consistent.{unfit, bounded, reader_ok, name_ok, charges_of, reading_ok, report_ok, plaque_ok}
unfoldable pub use Rattle.machine.specs.Consistent.{node_ok}
unfoldable pub use Rattle.machine.specs.Consistent.{formed, lists_ok, lent, lengths, arrays, consistent}
pub use Rattle.machine.specs.Consistent.{counts, node_at, zeros}
unfoldable pub use Rattle.machine.specs.Layout.{all_laid, laid, cuts, past, store_of}
unfoldable pub use Rattle.machine.specs.Machine.{meaning, nodes_in, region_of, reader_of, field_of, mode_of, seen, readers_of}
unfoldable pub use Rattle.state.specs.Reports.{report_of}
unfoldable pub use Rattle.machine.specs.Machine.{nodes_of}
pub use Rattle.machine.specs.Machine.{Machine, machine, node_slot, plain}
unfoldable pub use Rattle.state.specs.State.{emptied_node}
pub use Rattle.state.specs.State.{fresh_reader, fresh_node, nothing, joined_node, taken_node, no_report, no_plaque}
