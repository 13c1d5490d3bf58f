-- The text of the bytes so far was written.
-- Assumes nothing.
use Rattle.units.proofs.Common.{take}
use Rattle.text.specs.Text.{Put, bytes_hex_of}
use Rattle.text.proofs.put_bytes.Given as goal

abbrev pub invariant-loop-b : goal.invariant-loop-b
invariant-loop-b l = Put l.initial.out l.at (bytes_hex_of (take l.b-index l.bytes)) l.out l.to
