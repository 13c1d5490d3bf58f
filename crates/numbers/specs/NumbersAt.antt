-- What the readers of numbers, nodes and stamps promise.
-- Assumes nothing.
use Rattle.std.specs.Prelude.{ℕ, List, Option, option_and_then, Some}
use Rattle.std.specs.Bool.{then_some}
use Rattle.units.specs.declared.stamp.Stamp.{Stamp}
use Rattle.dialog.specs.Fields.{value_of, number_ok}
use Rattle.dialog.specs.Spoken.{field}
use Rattle.fields.specs.FieldsAt.{fields_from, place_after}
use Rattle.fields.specs.declared.Read.{Read}

infixl 10 ◌>>=◌
abbrev pub ◌>>=◌ : {A B : Type 0} → Option A → (A → Option B) → Option B
o >>= f = option_and_then f o

-- a field by itself: its value, where it is a number within its limit
unfoldable pub number_in : ℕ → List ℕ → Option ℕ
number_in most f = then_some (number_ok most f) (value_of f)

-- ---- What is read of any line at any place, whole: where there is no field, there is no number.
unfoldable pub number_at : ℕ → List ℕ → ℕ → Read ℕ
number_at most line at = record { value = number_in most (field (fields_from line at) 0); next = place_after line at }

unfoldable pub node_at : List ℕ → ℕ → Read ℕ
node_at line at = number_at 255 line at

-- five of these, one after another
abbrev pub stamp_of : Option ℕ → Option ℕ → Option ℕ → Option ℕ → Option ℕ → Option Stamp
stamp_of month day hour minute second = do
  m ← month
  d ← day
  h ← hour
  n ← minute
  s ← second
  Some (record { month = m; day = d; hour = h; minute = n; second = s })

unfoldable pub stamp_at : List ℕ → ℕ → Read Stamp
stamp_at line at =
    let month = node_at line at in
    let day = node_at line month.next in
    let hour = node_at line day.next in
    let minute = node_at line hour.next in
    let second = node_at line minute.next in
    record { value = stamp_of month.value day.value hour.value minute.value second.value; next = second.next }
