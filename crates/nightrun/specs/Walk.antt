-- What the code's walk over a run file promises: the lines of the listing.
-- Assumes nothing.
use Rattle.std.specs.Prelude.{ℕ, ◌+◌, ◌*◌, ◌≤◌, ◌≡◌, true, cond, List, leb, length}
use Rattle.std.proofs.lemmas.List.Edits.{sets}
use Rattle.meaning.specs.Bench.{Bench}
use Rattle.meaning.specs.Gateway.{Gateway}
use Rattle.text.specs.Text.{Put}
use Rattle.listing.specs.Lines.{flat}
use Rattle.listing.specs.Listing.{listing, longest_file, longest_listing}
use Rattle.nightrun.specs.declared.Listed.{Listed}
use Rattle.hearing.specs.Opened.{to_come}
use Rattle.hearing.specs.declared.opening.Walk.{Walk}

-- the walk is inside a file that is not too long, and the output has room for what is to come: 670 bytes for every 17 of the
-- file, and `broken`
pub record Ready (file : ℕ) (w : Walk) (out to : ℕ) : Type 0 where
  pub inside : w.at ≤ file
  pub short : file ≤ longest_file
  pub long : longest_listing ≤ out
  pub room : 17 * to ≤ 670 * w.at + 255

-- all of them are written
pub record Plays (b : Bench) (file : List ℕ) (w : Walk) (g : Gateway) (old : List ℕ) (to : ℕ) (new : List ℕ) (r : ℕ) : Type 0 where
  pub text : Put old to (flat (to_come b file w g)) new r
  pub fits : r ≤ length old

-- ---- the whole: the listing's bytes at the front of the output, which has room for all of them and stays as it was past them; or, if it
-- could be too short, all of it
pub record Lists (file old new : List ℕ) (r : Listed) : Type 0 where
  pub says : r ≡ cond (leb longest_listing (length old)) (Listed.Written (length (listing file))) Listed.TooShort
  pub writes : new ≡ cond (leb longest_listing (length old)) (sets old 0 (listing file)) old
  pub fits : leb longest_listing (length old) ≡ true → length (listing file) ≤ length old
