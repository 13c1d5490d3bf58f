-- What the code promises of lines on a consistent machine, and of a whole conversation.
-- Assumes nothing.
use Rattle.std.specs.Prelude.{ℕ, ◌*◌, ◌≤◌, ◌≡◌, true, cond, List, [], ◌∷◌, leb, length}
use Rattle.std.proofs.lemmas.List.Edits.{sets}
use Rattle.meaning.specs.Bench.{Bench}
use Rattle.meaning.specs.Gateway.{Gateway}
use Rattle.machine.specs.Machine.{Machine, meaning}
use Rattle.machine.specs.Consistent.{unfit}
use Rattle.text.specs.Text.{Put}
use Rattle.dialog.specs.Spoken.{spoken}
use Rattle.dialog.specs.Dialog.{reply_to, replies, lines_of, conversation, longest_answer}
use Rattle.conversation.specs.declared.Text.{Text}

-- the gateway after the lines
unfoldable pub after_lines : Bench → Gateway → List (List ℕ) → Gateway
after_lines b g [] = g
after_lines b g (l ∷ ls) = after_lines b (reply_to b g (spoken l)).after ls

-- the lines of an input on machine m: their replies at the front of the output, and the machine after them is consistent and means the
-- gateway after them
pub record Speaks (b : Bench) (m : Machine) (input old new : List ℕ) (at : ℕ) (m' : Machine) : Type 0 where
  pub wrote : Put old 0 (replies b (meaning b m) (lines_of input)) new at
  pub fits : at ≤ length old
  pub means : meaning b m' ≡ after_lines b (meaning b m) (lines_of input)
  pub sound : unfit b m' ≡ 0

-- the whole conversation at the front of the output, which has room for it and stays as it was past it; or, if it could be too short,
-- all of it
pub record Converses (input old new : List ℕ) (r : Text) : Type 0 where
  pub says : r ≡ cond (leb (length (lines_of input) * longest_answer) (length old)) (Text.Written (length (conversation input))) Text.TooShort
  pub writes : new ≡ cond (leb (length (lines_of input) * longest_answer) (length old)) (sets old 0 (conversation input)) old
  pub fits : leb (length (lines_of input) * longest_answer) (length old) ≡ true → length (conversation input) ≤ length old
