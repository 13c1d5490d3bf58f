-- Numbers, words and bytes as text, and what a writer of text promises.
-- Document 01, "The night run": "counts are decimal, and each line ends in one line feed"; its example has words of four upper-case
-- digits, one blank between them.
-- Assumes nothing.
use Rattle.std.specs.Prelude.{ℕ, zero, suc, ◌+◌, ◌/◌, ◌%◌, ◌≡◌, cond, List, [], ◌∷◌, ◌++◌, ltb, length}
use Prim.Native.Char.{code}
use Prim.Native.String as S
use Prim.Native.String.{String}
use Rattle.std.proofs.lemmas.List.Edits.{sets}

-- a text's bytes
abbrev pub ascii : String → List ℕ
ascii S.[] = []
ascii (S.◌∷◌ c s) = code c ∷ ascii s

-- a hexadecimal digit, upper case
abbrev pub digit_of : ℕ → ℕ
digit_of d = cond (ltb d 10) (48 + d) (55 + d)

-- a word's four digits
unfoldable pub hex_of : ℕ → List ℕ
hex_of w = digit_of (w / 4096) ∷ digit_of (w / 256 % 16) ∷ digit_of (w / 16 % 16) ∷ digit_of (w % 16) ∷ []

-- a byte's two
unfoldable pub byte_hex_of : ℕ → List ℕ
byte_hex_of b = digit_of (b / 16) ∷ digit_of (b % 16) ∷ []

-- bytes in one piece
unfoldable pub bytes_hex_of : List ℕ → List ℕ
bytes_hex_of [] = []
bytes_hex_of (b ∷ bs) = byte_hex_of b ++ bytes_hex_of bs

-- the digits before the last, where there are any, and the last; k bounds how many stand before it
unfoldable pub decimal_within : ℕ → ℕ → List ℕ
decimal_within zero n = (48 + n) ∷ []
decimal_within (suc k) n = cond (ltb n 10) ((48 + n) ∷ []) (decimal_within k (n / 10) ++ ((48 + n % 10) ∷ []))

-- any number in decimal, without leading zeros: it has fewer digits than it counts, or just one
unfoldable pub decimal_of : ℕ → List ℕ
decimal_of n = decimal_within n n

-- what follows a word: a blank, or after the last one a line feed
abbrev pub after_word : List ℕ → ℕ
after_word [] = 10
after_word (w ∷ ws) = 32

-- words as a line, or the end of one
unfoldable pub words_line : List ℕ → List ℕ
words_line [] = []
words_line (w ∷ ws) = hex_of w ++ (after_word ws ∷ words_line ws)

-- new is old with text written at a place, every other byte as it was; r is the place after the text
pub record Put (old : List ℕ) (at : ℕ) (text : List ℕ) (new : List ℕ) (r : ℕ) : Type 0 where
  pub next : r ≡ at + length text
  pub wrote : new ≡ sets old at text
