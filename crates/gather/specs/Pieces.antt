-- A line of the input: "a line ends in one line feed".
-- Assumes nothing.
use Rattle.std.specs.Prelude.{ℕ, cond, List, [], ◌∷◌, eqb}

-- the bytes before the first line feed, or all
unfoldable pub line_in : List ℕ → List ℕ
line_in [] = []
line_in (c ∷ cs) = cond (eqb c 10) [] (c ∷ line_in cs)
