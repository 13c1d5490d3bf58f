-- Closed cases: words put in and taken out at the front, in the middle and at the end of a small store. Seven words of it are in use, in
-- runs of three, two and two; three words more fill it.
-- Assumes nothing.
use Prim.Native.Nat.{ℕ}
use mathlib.Core.Path.{◌≡◌, refl}
use mathlib.Core.List.{List, [], ◌∷◌}
use lib.Seq.{sets}
use Rattle.moves.specs.Moved.{inserted, removed}

abbrev small : List ℕ
small = 3 ∷ 7 ∷ 7 ∷ 2 ∷ 8 ∷ 2 ∷ 9 ∷ 0 ∷ 0 ∷ 0 ∷ []

abbrev three : List ℕ
three = 4 ∷ 5 ∷ 6 ∷ []

join_front : inserted small 0 7 three ≡ 4 ∷ 5 ∷ 6 ∷ 3 ∷ 7 ∷ 7 ∷ 2 ∷ 8 ∷ 2 ∷ 9 ∷ []
unfolding inserted
join_front = refl

join_middle : inserted small 3 7 three ≡ 3 ∷ 7 ∷ 7 ∷ 4 ∷ 5 ∷ 6 ∷ 2 ∷ 8 ∷ 2 ∷ 9 ∷ []
unfolding inserted
join_middle = refl

join_end : inserted small 7 7 three ≡ 3 ∷ 7 ∷ 7 ∷ 2 ∷ 8 ∷ 2 ∷ 9 ∷ 4 ∷ 5 ∷ 6 ∷ []
unfolding inserted
join_end = refl

-- one word: those behind the end stay
join_one : inserted small 5 7 (1 ∷ []) ≡ 3 ∷ 7 ∷ 7 ∷ 2 ∷ 8 ∷ 1 ∷ 2 ∷ 9 ∷ 0 ∷ 0 ∷ []
unfolding inserted
join_one = refl

take_front : removed small 0 7 3 ≡ 2 ∷ 8 ∷ 2 ∷ 9 ∷ 0 ∷ 0 ∷ 0 ∷ 0 ∷ 0 ∷ 0 ∷ []
unfolding removed
take_front = refl

take_middle : removed small 3 7 2 ≡ 3 ∷ 7 ∷ 7 ∷ 2 ∷ 9 ∷ 0 ∷ 0 ∷ 0 ∷ 0 ∷ 0 ∷ []
unfolding removed
take_middle = refl

take_end : removed small 5 7 2 ≡ 3 ∷ 7 ∷ 7 ∷ 2 ∷ 8 ∷ 0 ∷ 0 ∷ 0 ∷ 0 ∷ 0 ∷ []
unfolding removed
take_end = refl

copied : sets small 2 (1 ∷ 1 ∷ []) ≡ 3 ∷ 7 ∷ 1 ∷ 1 ∷ 8 ∷ 2 ∷ 9 ∷ 0 ∷ 0 ∷ 0 ∷ []
copied = refl
