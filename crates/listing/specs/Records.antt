-- Document 01, "The night run": the records of a run file, each read at the front of the bytes that are left.
-- Assumes nothing.
use Rattle.std.specs.Prelude.{ℕ, ◌+◌, ◌*◌, List, Bool, ◌&&◌, length, get_or, take, drop, leb}
use Rattle.units.specs.Count.{within}
use Rattle.units.specs.Word.{word}
use Rattle.units.specs.Packing.{packed}
use Rattle.units.specs.declared.stamp.Stamp.{Stamp}
use Rattle.meaning.specs.Bench.{Bench, is_reader}

-- two bytes as one number: "most significant byte (MSB) first"
abbrev pub two : List ℕ → ℕ → ℕ
two bs i = word (get_or bs i 0) (get_or bs (i + 1) 0)

-- "each after its count (2 bytes)"
unfoldable pub count_whole : List ℕ → Bool
count_whole bs = leb 2 (length bs)

abbrev pub count_said : List ℕ → ℕ
count_said bs = two bs 0

-- "plaques (node, length in 2 bytes, ID, bytes)": a record that is there whole, and within limits, node 1 to 16 and 1 to 1,024 bytes
abbrev pub plaque_node : List ℕ → ℕ
plaque_node bs = get_or bs 0 0

abbrev pub plaque_length : List ℕ → ℕ
plaque_length bs = two bs 1

abbrev pub plaque_id : List ℕ → List ℕ
plaque_id bs = take 8 (drop 3 bs)

abbrev pub plaque_bytes : List ℕ → List ℕ
plaque_bytes bs = take (plaque_length bs) (drop 11 bs)

abbrev pub plaque_size : List ℕ → ℕ
plaque_size bs = 11 + plaque_length bs

unfoldable pub plaque_whole : Bench → List ℕ → Bool
plaque_whole b bs =
    leb 11 (length bs) && is_reader b (plaque_node bs) && within 1 b.region (plaque_length bs) && leb (plaque_size bs) (length bs)

-- "commands (five stamp bytes, a register packet)": a record that is there whole, with an Overall Length of 6 to 134
abbrev pub command_stamp : List ℕ → Stamp
command_stamp bs =
    record { month = get_or bs 0 0; day = get_or bs 1 0; hour = get_or bs 2 0; minute = get_or bs 3 0; second = get_or bs 4 0 }

abbrev pub command_length : List ℕ → ℕ
command_length bs = two bs 5

abbrev pub command_packet : List ℕ → List ℕ
command_packet bs = packed (take (2 * command_length bs) (drop 5 bs))

abbrev pub command_size : List ℕ → ℕ
command_size bs = 5 + 2 * command_length bs

unfoldable pub command_whole : List ℕ → Bool
command_whole bs = leb 7 (length bs) && within 6 134 (command_length bs) && leb (command_size bs) (length bs)
