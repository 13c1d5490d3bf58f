-- What the code's reader says of a record, by what document 01 says of it: nothing of a broken one.
-- Assumes nothing.
use Rattle.std.specs.Prelude.{ℕ, List, cond, Option, Some, None}
use Rattle.units.specs.declared.Words.{Words}
use Rattle.meaning.specs.Bench.{Bench}
use Rattle.listing.specs.Records.{count_whole, count_said, plaque_whole, plaque_node, plaque_length, command_whole, command_length}
use Rattle.runfile.specs.declared.PlaqueRecord.{PlaqueRecord}

unfoldable pub count_of : List ℕ → Option ℕ
count_of bs = cond (count_whole bs) (Some (count_said bs)) None

unfoldable pub plaque_of : Bench → List ℕ → Option PlaqueRecord
plaque_of b bs = cond (plaque_whole b bs) (Some (record { node = plaque_node bs; length = record { 0 = plaque_length bs } })) None

unfoldable pub command_of : List ℕ → Option Words
command_of bs = cond (command_whole bs) (Some (record { 0 = command_length bs })) None
