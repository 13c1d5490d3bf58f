-- A command packet with its stamp, judged by what it says alone: as code hands it on.
-- Assumes nothing.
use Rattle.std.specs.Prelude.{ℕ, List}
use Rattle.units.specs.declared.Form.{Form}
use Rattle.units.specs.declared.stamp.Stamp.{Stamp}
use Rattle.meaning.specs.Bench.{Bench}
use Rattle.meaning.specs.Call.{command, judged, command_in, kind_in}
use Rattle.command.specs.declared.Judged.{Judged}

-- its refusal, 0 for none; its row's kind; what it says, whether or not it is accepted
unfoldable pub judged_command : Bench → Stamp → Form → List ℕ → Judged
judged_command b t f ws = record { refusal = judged b (command t f ws); kind = kind_in b f ws; what = command_in f ws }
