-- "The lowest number that applies is given, but a response being read is checked in the order 4, 5, 6, 7, 9, 3, 10, 11": what it is of a
-- chain of doubts that a number applies, is the first that does, or the lowest.
-- Assumes nothing.
use Rattle.std.specs.Prelude.{ℕ, ◌≤◌, ◌≡◌, Bool, true, false, ◌&&◌, cond, List, [], ◌∷◌, ◌++◌, eqb, leb}
use Rattle.meaning.specs.Refusal.{Doubts, ◌when◌, ◌at◌when◌, ◌or_else◌}
use Rattle.meaning.specs.Call.{Said, refused}

-- a doubt: its number, and whether it applies
pub record Doubt : Type 0 where
  pub number : ℕ
  pub applies : Bool

-- those of a chain, from left to right, and their numbers
unfoldable pub doubts : Doubts → List Doubt
doubts (n when t) = record { number = n; applies = t } ∷ []
doubts (n at k when t) = record { number = n; applies = t } ∷ []
doubts (ds or_else es) = doubts ds ++ doubts es

unfoldable pub numbers : List Doubt → List ℕ
numbers [] = []
numbers (d ∷ ds) = d.number ∷ numbers ds

-- the numbers are k or more, and never fall
unfoldable pub rise : ℕ → List ℕ → Bool
rise k [] = true
rise k (n ∷ ns) = leb k n && rise n ns

-- none of the numbers is 0
unfoldable pub positive : List ℕ → Bool
positive [] = true
positive (n ∷ ns) = leb 1 n && positive ns

-- a number that stands there several times in a row, only once
unfoldable pub once : List ℕ → List ℕ
once [] = []
once (n ∷ []) = n ∷ []
once (n ∷ m ∷ ns) = cond (eqb n m) (once (m ∷ ns)) (n ∷ once (m ∷ ns))

-- n is the number of the first doubt that applies; 0 says that none does
pub data First : ℕ → List Doubt → Type 0 where
  none : First 0 []
  this : (n : ℕ) (ds : List Doubt) → First n (record { number = n; applies = true } ∷ ds)
  next : {n : ℕ} (m : ℕ) {ds : List Doubt} → First n ds → First n (record { number = m; applies = false } ∷ ds)

-- n is the number of a doubt that applies
pub data Applies (n : ℕ) : List Doubt → Type 0 where
  here : (ds : List Doubt) → Applies n (record { number = n; applies = true } ∷ ds)
  later : (d : Doubt) {ds : List Doubt} → Applies n ds → Applies n (d ∷ ds)

-- what is said is by the lowest: a refusal's number applies, and no lower one does; and where one applies, there is a refusal
pub record Lowest (s : Said) (ds : Doubts) : Type 0 where
  pub applies : (k : ℕ) → s ≡ refused k → Applies k (doubts ds)
  pub lowest : (k : ℕ) → s ≡ refused k → (n : ℕ) → Applies n (doubts ds) → k ≤ n
  pub refuses : (n : ℕ) → Applies n (doubts ds) → (k : ℕ) × (s ≡ refused k)
