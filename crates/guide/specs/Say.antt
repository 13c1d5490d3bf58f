-- What the writers of a line promise. What has no room is left out whole; `Put` of crate text says what is written, and the place after.
-- Assumes nothing.
use Rattle.std.specs.Prelude.{ℕ, ◌+◌, ◌/◌, ◌%◌, ◌≤◌, ◌≡◌, Bool, cond, List, [], ◌∷◌, ◌++◌, leb, length, take, drop}
use Rattle.text.specs.Text.{Put}
use Rattle.guide.specs.declared.line.Line.{Line}

-- the text, where a line of so many bytes has the room at the place; else none of it
unfoldable pub fitting : ℕ → ℕ → ℕ → List ℕ → List ℕ
fitting size at room text = cond (leb (at + room) size) text []

-- a line goes on from a place to r: only what stands from that place up to r may differ, and r is no further than the line's end,
-- unless the place was
pub record GoesOn (old : List ℕ) (at : ℕ) (new : List ℕ) (r : ℕ) : Type 0 where
  pub size : length new ≡ length old
  pub before : take at new ≡ take at old
  pub past : drop r new ≡ drop r old
  pub forth : at ≤ r
  pub within : at ≤ length old → r ≤ length old

-- a line goes on from its place to another, in the bytes that were lent for it
pub record Onward (old new : Line) : Type 0 where
  pub lent : new.bytes.ghost_name ≡ old.bytes.ghost_name
  pub on : GoesOn old.bytes.now old.at new.bytes.now new.at

-- new is old with the text written at its place
pub record Says (old : Line) (text : List ℕ) (new : Line) : Type 0 where
  pub exact : Put old.bytes.now old.at text new.bytes.now new.at
  pub on : Onward old new

-- a text that asks for so much room
abbrev pub Said : Line → ℕ → List ℕ → Line → Type 0
Said old room text new = Says old (fitting (length old.bytes.now) old.at room text) new

-- a label, then a text that asks for so much room, each where it fits
unfoldable pub labelling : ℕ → ℕ → List ℕ → ℕ → List ℕ → List ℕ
labelling size at label room text =
    fitting size at (length label) label
    ++ fitting size (at + length (fitting size at (length label) label)) room text

abbrev pub Labelled : Line → List ℕ → ℕ → List ℕ → Line → Type 0
Labelled old label room text new = Says old (labelling (length old.bytes.now) old.at label room text) new

-- the last two digits of a number
unfoldable pub two_of : ℕ → List ℕ
two_of n = (48 + n / 10 % 10) ∷ (48 + n % 10) ∷ []

-- " same" or " DIFFERENT", and a line feed
unfoldable pub same_text : Bool → List ℕ
same_text same =
    cond same
    (32 ∷ 115 ∷ 97 ∷ 109 ∷ 101 ∷ 10 ∷ [])
    (32 ∷ 68 ∷ 73 ∷ 70 ∷ 70 ∷ 69 ∷ 82 ∷ 69 ∷ 78 ∷ 84 ∷ 10 ∷ [])
