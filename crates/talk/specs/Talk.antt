-- What the code promises of a line that is played, against the conversation.
-- Assumes nothing.
use Rattle.std.specs.Prelude.{ℕ, ◌+◌, ◌≤◌, ◌≡◌, List}
use Rattle.meaning.specs.Bench.{Bench}
use Rattle.meaning.specs.Call.{step}
use Rattle.machine.specs.Machine.{Machine, meaning}
use Rattle.promise.specs.Obeyed.{Does}
use Rattle.text.specs.Text.{Put}
use Rattle.dialog.specs.Spoken.{Spoken, passed, unreadable, call, look, spoken}
use Rattle.dialog.specs.Dialog.{longest_answer, reply_to}

-- the machine after a line: "unreadable: the line is no call; nothing has changed"; a look changes nothing; a call is obeyed
unfoldable pub Follows : Bench → Machine → Spoken → Machine → Type 0
Follows b m passed m' = m' ≡ m
Follows b m unreadable m' = m' ≡ m
Follows b m (look f c) m' = m' ≡ m
Follows b m (call c) m' = Does b (step b (meaning b m) c) m (step b (meaning b m) c).said m'

-- a line played on a consistent machine m, its reply written at a place of the output
pub record Plays (b : Bench) (m : Machine) (line old : List ℕ) (to : ℕ) (new : List ℕ) (at : ℕ) (m' : Machine) : Type 0 where
  pub wrote : Put old to (reply_to b (meaning b m) (spoken line)).line new at
  pub follows : Follows b m (spoken line) m'
  pub room : at ≤ to + longest_answer
