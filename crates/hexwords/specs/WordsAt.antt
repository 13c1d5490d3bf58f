-- What the readers of words promise.
-- Assumes nothing.
use Rattle.std.specs.Prelude.{ℕ, Bool, ◌&&◌, ◌||◌, List, [], ◌∷◌, map, length, take, drop, Option}
use Rattle.std.specs.Bool.{then_some}
use Rattle.units.specs.Count.{every}
use Rattle.meaning.specs.Call.{same}
use Rattle.dialog.specs.Fields.{word_ok, word_of}
use Rattle.fields.specs.FieldsAt.{fields_from}

-- a word, alone or with the blank behind it
abbrev pub is_piece : List ℕ → Bool
is_piece p = word_ok p || (word_ok (take 4 p) && same (drop 4 p) (32 ∷ []))

-- the words from a place on
abbrev pub words_from : List ℕ → ℕ → List ℕ
words_from line at = map word_of (fields_from line at)

-- how many they are, where all fields are words. A line may have more than a word can say.
unfoldable pub words_at : List ℕ → ℕ → Option ℕ
words_at line at = then_some (every word_ok (fields_from line at)) (length (fields_from line at))
