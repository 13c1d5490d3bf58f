-- Document 01, "The night run": the lines of a listing, as bytes. "counts are decimal, and each line ends in one line feed"
-- Assumes nothing.
use Rattle.std.specs.Prelude.{ℕ, List, [], ◌∷◌, ◌++◌}
use Rattle.text.specs.Text.{ascii, decimal_of}

unfoldable pub number_line : List ℕ → ℕ → List ℕ
number_line text n = text ++ (decimal_of n ++ (10 ∷ []))

abbrev pub commands_line : ℕ → List ℕ
commands_line n = number_line (ascii "commands ") n

abbrev pub refused_line : ℕ → List ℕ
refused_line n = number_line (ascii "refused ") n

-- "the line `broken`"
unfoldable pub broken_line : List ℕ
broken_line = ascii "broken\n"

-- lines, one after another
unfoldable pub flat : List (List ℕ) → List ℕ
flat [] = []
flat (l ∷ ls) = l ++ flat ls
