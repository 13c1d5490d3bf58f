-- A run file opened: the lines that it stands for.
-- Assumes nothing.
use Rattle.std.specs.Prelude.{ℕ, ◌≤◌, ◌≡◌, true, cond, List, [], ◌∷◌, length, drop}
use Rattle.meaning.specs.Bench.{Bench}
use Rattle.meaning.specs.Gateway.{Gateway}
use Rattle.machine.specs.Machine.{Machine, meaning}
use Rattle.machine.specs.Consistent.{unfit}
use Rattle.listing.specs.Lines.{commands_line, broken_line}
use Rattle.listing.specs.Listing.{command_lines, plaque_lines, file_lines, longest_file}
use Rattle.hearing.specs.declared.opening.Walk.{Walk}
use Rattle.hearing.specs.declared.opening.Opened.{Opened}

-- the lines to come
abbrev pub to_come : Bench → List ℕ → Walk → Gateway → List (List ℕ)
to_come b file w g = command_lines b w.left g (drop w.at file)

-- the lines of a file that was opened
unfoldable pub open_lines : Bench → List ℕ → Opened → Gateway → List (List ℕ)
open_lines b file o g = cond o.fine (commands_line o.walk.left ∷ to_come b file o.walk g) (broken_line ∷ [])

-- what stands of a file that was opened: its lines are ls
pub record Stands (b : Bench) (file : List ℕ) (ls : List (List ℕ)) (o : Opened) (m : Machine) : Type 0 where
  pub lines : open_lines b file o (meaning b m) ≡ ls
  pub sound : unfit b m ≡ 0
  pub inside : o.fine ≡ true → o.walk.at ≤ length file
  pub short : o.fine ≡ true → length file ≤ longest_file

abbrev pub Brings : Bench → ℕ → List ℕ → Gateway → Opened → Machine → Type 0
Brings b n file g o m = Stands b file (plaque_lines b n g (drop 2 file)) o m

abbrev pub Opens : Bench → List ℕ → Gateway → Opened → Machine → Type 0
Opens b file g o m = Stands b file (file_lines b g file) o m
