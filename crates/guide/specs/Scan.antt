-- What the scanner of a line finds.
-- Assumes nothing.
use Rattle.std.specs.Prelude.{◌≡◌, ◌≤◌, ℕ, Bool, ◌&&◌, List, ltb, eqb, length, get_or, take}

-- there is a byte at the place, and it is b
unfoldable pub stands_at : List ℕ → ℕ → ℕ → Bool
stands_at s at b = ltb at (length s) && eqb (get_or s at 0) b

-- the first n of the list are all there, and n of them
abbrev pub IsPrefixLen : ℕ → List ℕ → Type 0
IsPrefixLen n xs = (n ≤ length xs) × (n ≡ length (take n xs))
