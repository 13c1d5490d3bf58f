-- The fields from a place of a line on, and the words of the table.
-- Assumes nothing.
use Rattle.std.specs.Prelude.{ℕ, ◌+◌, ◌-◌, ◌≤◌, ◌≡◌, cond, List, [], ◌∷◌, leb, length, take, drop, Option, Some, None}
use Rattle.meaning.specs.Call.{same}
use Rattle.dialog.specs.Fields.{fields}
use Rattle.dialog.specs.Spoken.{field}
use Rattle.text.specs.Text.{ascii}
use Rattle.fields.specs.declared.Verb.{Verb}

-- a line's first field
unfoldable pub verb_of : List ℕ → Option Verb
verb_of w =
    cond (same w (ascii "command")) (Some Verb.Command)
    (cond (same w (ascii "check")) (Some Verb.Check)
    (cond (same w (ascii "arrive")) (Some Verb.Arrive)
    (cond (same w (ascii "leave")) (Some Verb.Leave)
    (cond (same w (ascii "collect")) (Some Verb.Collect)
    (cond (same w (ascii "acknowledge")) (Some Verb.Acknowledge) (cond (same w (ascii "store")) (Some Verb.Store) None))))))

-- the fields from a place on: none past the line's end
unfoldable pub fields_from : List ℕ → ℕ → List (List ℕ)
fields_from line at = cond (leb at (length line)) (fields (drop at line)) []

-- the field at a place ends at r
pub record FieldAt (line : List ℕ) (at r : ℕ) : Type 0 where
  pub first : fields_from line at ≡ take (r - at) (drop at line) ∷ fields_from line (r + 1)
  pub least : at ≤ r
  pub most : r ≤ length line

-- the place of the field after it: past the line's end where it is the last, and where there is none, the place itself
unfoldable pub place_after : List ℕ → ℕ → ℕ
place_after line at = cond (leb at (length line)) (at + length (field (fields_from line at) 0) + 1) at
