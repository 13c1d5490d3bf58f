-- What marking the words of an answer leaves, and what a search for a mark finds.
-- Assumes nothing.
use Rattle.std.specs.Prelude.{ℕ, ◌+◌, ◌≤◌, ◌<◌, ◌≡◌, Bool, true, false, List, length, get_or}

pub record Marked (m m' : List Bool) (p len : ℕ) : Type 0 where
  pub long : length m' ≡ length m
  pub inside : (w : ℕ) → p ≤ w → w < p + len → get_or m' w false ≡ true
  pub below : (w : ℕ) → w < p → get_or m' w false ≡ get_or m w false
  pub above : (w : ℕ) → p + len ≤ w → get_or m' w false ≡ get_or m w false

abbrev pub Free : List Bool → ℕ → ℕ → Type 0
Free m p len = (w : ℕ) → p ≤ w → w < p + len → get_or m w false ≡ false

pub record MarkWithin (m : List Bool) (p len : ℕ) : Type 0 where
  pub place : ℕ
  pub from : p ≤ place
  pub to : place < p + len
  pub marked : get_or m place false ≡ true
