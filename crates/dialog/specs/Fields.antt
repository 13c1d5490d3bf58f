-- The console, "Lines in": the fields of a line, and what a field is.
-- Assumes nothing.
use Rattle.std.specs.Prelude.{ℕ, ◌+◌, ◌-◌, ◌*◌, ◌%◌, Bool, ◌&&◌, ◌||◌, cond, List, [], ◌∷◌, leb, eqb, length}
use Rattle.units.specs.Count.{within, every}
use Rattle.text.specs.Text.{ascii}
use Rattle.meaning.specs.Call.{same}

-- "Fields stand apart by exactly one blank (0x20)": what stands before the first blank, between two, or after the last. So a second
-- blank, or one at the end, makes an empty field, which is no field of any call.
unfoldable pub before : ℕ → List (List ℕ) → List (List ℕ)
before c [] = (c ∷ []) ∷ []
before c (f ∷ fs) = (c ∷ f) ∷ fs

unfoldable pub fields : List ℕ → List (List ℕ)
fields [] = [] ∷ []
fields (c ∷ cs) = cond (eqb c 32) ([] ∷ fields cs) (before c (fields cs))

-- ---- "decimal without sign, of one to ten digits, leading zeros allowed"
abbrev pub is_digit : ℕ → Bool
is_digit c = within 48 57 c

unfoldable pub decimal_from : ℕ → List ℕ → ℕ
decimal_from n [] = n
decimal_from n (c ∷ cs) = decimal_from (n * 10 + (c - 48)) cs

abbrev pub value_of : List ℕ → ℕ
value_of f = decimal_from 0 f

-- ".. a larger one makes the line unreadable"
unfoldable pub number_ok : ℕ → List ℕ → Bool
number_ok most f = within 1 10 (length f) && every is_digit f && leb (value_of f) most

-- ---- "Hex digits may be of either case"
abbrev pub is_hex : ℕ → Bool
is_hex c = is_digit c || within 65 70 c || within 97 102 c

abbrev pub hex_digit : ℕ → ℕ
hex_digit c = cond (leb c 57) (c - 48) (cond (leb c 70) (c - 55) (c - 87))

unfoldable pub hex_from : ℕ → List ℕ → ℕ
hex_from n [] = n
hex_from n (c ∷ cs) = hex_from (n * 16 + hex_digit c) cs

-- "words are four hex digits"
unfoldable pub word_ok : List ℕ → Bool
word_ok f = eqb (length f) 4 && every is_hex f

abbrev pub word_of : List ℕ → ℕ
word_of f = hex_from 0 f

-- "an ID and plaque bytes are an even number of hex digits in one piece, or `-` for none"
abbrev pub dash : List ℕ
dash = ascii "-"

unfoldable pub bytes_ok : ℕ → List ℕ → Bool
bytes_ok most f = same f dash || (leb 2 (length f) && eqb (length f % 2) 0 && leb (length f) (2 * most) && every is_hex f)

unfoldable pub pairs : List ℕ → List ℕ
pairs [] = []
pairs (c ∷ []) = []
pairs (c ∷ d ∷ cs) = (hex_digit c * 16 + hex_digit d) ∷ pairs cs

unfoldable pub bytes_of_hex : List ℕ → List ℕ
bytes_of_hex f = cond (same f dash) [] (pairs f)
