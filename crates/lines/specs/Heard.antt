-- What the code says of a line, against what the line says.
-- Assumes nothing.
use Rattle.std.specs.Prelude.{ℕ, ◌≡◌, List, [], length, get_or, drop, Option, Some, None}
use Rattle.std.proofs.lemmas.List.Edits.{sets}
use Rattle.meaning.specs.Call.{command, check, arrive, leave, collect, acknowledge}
use Rattle.dialog.specs.Spoken.{Spoken, passed, unreadable, call, look, call_by}
use Rattle.dialog.specs.Fields.{fields}
use Rattle.lines.specs.declared.Heard.{Heard}

unfoldable pub heard_of : Spoken → Heard
heard_of passed = Heard.Passed
heard_of unreadable = Heard.Unreadable
heard_of (call (command t f ws)) = Heard.Command t f (record { 0 = length ws })
heard_of (call (check n t c)) = Heard.Check n t c
heard_of (call (arrive n id s)) = Heard.Arrive n (record { 0 = length id }) (record { 0 = length s })
heard_of (call (leave n)) = Heard.Leave n
heard_of (call (collect f n k)) = Heard.Collect n f
heard_of (call (acknowledge n h)) = Heard.Acknowledge n h
heard_of (look f c) = Heard.Store f c

-- the same, but none where the line is unreadable
unfoldable pub readable : Spoken → Option Heard
readable passed = Some Heard.Passed
readable unreadable = None
readable (call c) = Some (heard_of (call c))
readable (look f c) = Some (Heard.Store f c)

-- a line that is neither too long nor passed over
abbrev pub call_said : List ℕ → Spoken
call_said line = call_by (get_or (fields line) 0 []) (drop 1 (fields line))

-- what stands in the buffers
unfoldable pub words_in : Spoken → List ℕ
words_in passed = []
words_in unreadable = []
words_in (call (command t f ws)) = ws
words_in (call (check n t c)) = []
words_in (call (arrive n id s)) = []
words_in (call (leave n)) = []
words_in (call (collect f n k)) = []
words_in (call (acknowledge n h)) = []
words_in (look f c) = []

unfoldable pub id_in : Spoken → List ℕ
id_in passed = []
id_in unreadable = []
id_in (call (command t f ws)) = []
id_in (call (check n t c)) = []
id_in (call (arrive n id s)) = id
id_in (call (leave n)) = []
id_in (call (collect f n k)) = []
id_in (call (acknowledge n h)) = []
id_in (look f c) = []

unfoldable pub bytes_in : Spoken → List ℕ
bytes_in passed = []
bytes_in unreadable = []
bytes_in (call (command t f ws)) = []
bytes_in (call (check n t c)) = []
bytes_in (call (arrive n id s)) = s
bytes_in (call (leave n)) = []
bytes_in (call (collect f n k)) = []
bytes_in (call (acknowledge n h)) = []
bytes_in (look f c) = []

-- what is returned, and the three buffers before and after
pub record Leaves (s : Spoken) (r : Option Heard) (words words' id id' bytes bytes' : List ℕ) : Type 0 where
  pub value : r ≡ readable s
  pub words_after : words' ≡ sets words 0 (words_in s)
  pub id_after : id' ≡ sets id 0 (id_in s)
  pub bytes_after : bytes' ≡ sets bytes 0 (bytes_in s)
