-- The console, "Lines in": what a line says, a call of document 01, a look at the store, nothing, or nothing that can be read.
-- Assumes nothing.
use Rattle.std.specs.Prelude.{ℕ, ◌+◌, Bool, true, false, ◌&&◌, ◌||◌, cond, List, [], ◌∷◌, map, leb, ltb, eqb, length, get_or, drop}
use Rattle.units.specs.Count.{every}
use Rattle.units.specs.declared.Form.{Form}
use Rattle.units.specs.declared.Form.TheVariants.{Register, Framed}
use Rattle.units.specs.declared.stamp.Stamp.{Stamp}
use Rattle.text.specs.Text.{ascii}
use Rattle.meaning.specs.Bench.{full}
use Rattle.meaning.specs.Call.{Call, command, check, arrive, leave, collect, acknowledge, same}
use Rattle.dialog.specs.Fields.{fields, value_of, number_ok, word_ok, word_of, bytes_ok, bytes_of_hex}

pub data Spoken : Type 0 where
  passed unreadable : Spoken
  call : Call → Spoken
  look : ℕ → ℕ → Spoken  -- at words of the answer store: the first, and how many. It is no call: it changes nothing

-- ---- the fields of a call, after its first
-- a form
abbrev pub is_form : List ℕ → Bool
is_form f = same f (ascii "framed") || same f (ascii "register")

abbrev pub form_of : List ℕ → Form
form_of f = cond (same f (ascii "framed")) Framed Register

-- the first fields are numbers, each at most as large as its limit
unfoldable pub numbers_ok : List ℕ → List (List ℕ) → Bool
numbers_ok [] fs = true
numbers_ok (most ∷ ms) [] = false
numbers_ok (most ∷ ms) (f ∷ fs) = number_ok most f && numbers_ok ms fs

-- "A node and each part of a stamp is 0 to 255, a number 0 to 65535, a clock 0 to 4294967295"
abbrev pub a_node : List ℕ
a_node = 255 ∷ []

abbrev pub a_node_and_number : List ℕ
a_node_and_number = 255 ∷ 65535 ∷ []

abbrev pub a_first_and_a_count : List ℕ
a_first_and_a_count = 4095 ∷ 128 ∷ []

-- "A packet has at most 256 words", "an ID has at most 16 bytes, a plaque at most 2,047"
abbrev pub most_words : ℕ
most_words = 256

abbrev pub longest_id : ℕ
longest_id = 16

abbrev pub longest_plaque : ℕ
longest_plaque = 2047

abbrev pub a_stamp : List ℕ
a_stamp = 255 ∷ 255 ∷ 255 ∷ 255 ∷ 255 ∷ []

abbrev pub a_node_a_stamp_and_a_clock : List ℕ
a_node_a_stamp_and_a_clock = 255 ∷ 255 ∷ 255 ∷ 255 ∷ 255 ∷ 255 ∷ 4294967295 ∷ []

module _ (fs : List (List ℕ)) where
  abbrev pub field : ℕ → List ℕ
  field i = get_or fs i []

  abbrev pub number : ℕ → ℕ
  number i = value_of (field i)

  abbrev pub stamp_from : ℕ → Stamp
  stamp_from i =
      record { month = number i; day = number (i + 1); hour = number (i + 2); minute = number (i + 3); second = number (i + 4) }

  -- "`command MONTH DAY HOUR MINUTE SECOND FORM WORD WORD ..`: no word at all is allowed"; "A packet has at most 256 words"
  unfoldable pub command_ok : Bool
  command_ok = numbers_ok a_stamp fs && is_form (field 5) && leb (length (drop 6 fs)) most_words && every word_ok (drop 6 fs)

  abbrev pub packet_said : List ℕ
  packet_said = map word_of (drop 6 fs)

  -- "`check NODE MONTH DAY HOUR MINUTE SECOND CLOCK`"
  unfoldable pub check_ok : Bool
  check_ok = numbers_ok a_node_a_stamp_and_a_clock fs && eqb (length fs) 7

  -- "`arrive NODE ID BYTES`"; "an ID has at most 16 bytes, a plaque at most 2,047"
  unfoldable pub arrive_ok : Bool
  arrive_ok = numbers_ok a_node fs && eqb (length fs) 3 && bytes_ok longest_id (field 1) && bytes_ok longest_plaque (field 2)

  -- "`leave NODE`"
  unfoldable pub leave_ok : Bool
  leave_ok = numbers_ok a_node fs && eqb (length fs) 1

  -- "`collect NODE FORM`". The output lent has 135 words, room for every answer.
  unfoldable pub collect_ok : Bool
  collect_ok = numbers_ok a_node fs && eqb (length fs) 2 && is_form (field 1)

  -- "`acknowledge NODE NUMBER`"
  unfoldable pub acknowledge_ok : Bool
  acknowledge_ok = numbers_ok a_node_and_number fs && eqb (length fs) 2

  -- "`store FIRST COUNT`: FIRST and FIRST + COUNT within the store, COUNT 1 to 128, else unreadable"
  unfoldable pub store_ok : Bool
  store_ok = numbers_ok a_first_and_a_count fs && eqb (length fs) 2 && (leb 1 (number 1) && leb (number 0 + number 1) full.store)

abbrev pub saying : Bool → Call → Spoken
saying ok c = cond ok (call c) unreadable

-- ---- the table: a call or a look by its first field, and the others
abbrev pub command_said : List (List ℕ) → Spoken
command_said fs = saying (command_ok fs) (command (stamp_from fs 0) (form_of (field fs 5)) (packet_said fs))

abbrev pub check_said : List (List ℕ) → Spoken
check_said fs = saying (check_ok fs) (check (number fs 0) (stamp_from fs 1) (number fs 6))

abbrev pub arrive_said : List (List ℕ) → Spoken
arrive_said fs = saying (arrive_ok fs) (arrive (number fs 0) (bytes_of_hex (field fs 1)) (bytes_of_hex (field fs 2)))

abbrev pub leave_said : List (List ℕ) → Spoken
leave_said fs = saying (leave_ok fs) (leave (number fs 0))

abbrev pub collect_said : List (List ℕ) → Spoken
collect_said fs = saying (collect_ok fs) (collect (form_of (field fs 1)) (number fs 0) 135)

abbrev pub acknowledge_said : List (List ℕ) → Spoken
acknowledge_said fs = saying (acknowledge_ok fs) (acknowledge (number fs 0) (number fs 1))

abbrev pub store_said : List (List ℕ) → Spoken
store_said fs = cond (store_ok fs) (look (number fs 0) (number fs 1)) unreadable

unfoldable pub call_by : List ℕ → List (List ℕ) → Spoken
call_by w fs =
    cond (same w (ascii "command")) (command_said fs)
    (cond (same w (ascii "check")) (check_said fs)
    (cond (same w (ascii "arrive")) (arrive_said fs)
    (cond (same w (ascii "leave")) (leave_said fs)
    (cond (same w (ascii "collect")) (collect_said fs)
    (cond (same w (ascii "acknowledge")) (acknowledge_said fs) (cond (same w (ascii "store")) (store_said fs) unreadable))))))

-- "First of all its length is looked at: a line of more than 4,400 bytes before its line feed is unreadable, whatever it starts with
-- .. Then an empty line, and one whose first byte is `#`, are passed over .. Any other line that is no call of the table, to the byte
-- .., is unreadable."
unfoldable pub spoken : List ℕ → Spoken
spoken line =
    cond (ltb 4400 (length line)) unreadable
    (cond (eqb (length line) 0 || eqb (get_or line 0 0) 35) passed (call_by (get_or (fields line) 0 []) (drop 1 (fields line))))
