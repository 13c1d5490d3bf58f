-- Words put in and taken out of a store that ends in zeros.
-- Assumes nothing.
use Rattle.std.proofs.Common.{ℕ, ◌≡◌, ◌∙◌, refl, ap, ◌≤◌, ◌<◌, suc, ◌+◌, ◌-◌, List, [], ◌∷◌, ◌++◌, length, drop, get_or, replicate, set, rules, arith}
use Rattle.std.proofs.lemmas.List.{same_lists, places}
use native.Mathlib.Nat.{add-zero}
use lib.Seq.{sets, get_or-set_other, set_comm}
use Rattle.moves.specs.Moved.{inserted, removed}

-- what lies before words that are copied in, and what lies behind them
pub get_d_before : (d : List ℕ) (to : ℕ) (s : List ℕ) (j : ℕ) → j < to → get_or (sets d to s) j 0 ≡ get_or d j 0
get_d_before d to [] j h = refl
get_d_before d to (x ∷ s) j h =
    get_d_before (set d to x) (suc to) s j (omega arith) ∙ get_or-set_other d to j x 0 (λ e. omega (arith, e, h))

pub get_d_behind : (d : List ℕ) (to : ℕ) (s : List ℕ) (j : ℕ) → to + length s ≤ j → get_or (sets d to s) j 0 ≡ get_or d j 0
get_d_behind d to [] j h = refl
get_d_behind d to (x ∷ s) j h =
    get_d_behind (set d to x) (suc to) s j (omega arith) ∙ get_or-set_other d to j x 0 (λ e. omega (arith, e, h))

-- one word more, at either end
pub put_first : (d : List ℕ) (to i : ℕ) (s : List ℕ) (x : ℕ) → to < i → set (sets d i s) to x ≡ sets (set d to x) i s
put_first d to i [] x h = refl
put_first d to i (y ∷ s) x h =
    put_first (set d i y) to (suc i) s x (omega arith)
    ∙ ap (λ (l : List ℕ). sets l (suc i) s) (set_comm d i to y x (λ e. omega (arith, e, h)))

pub put_next : (d : List ℕ) (to : ℕ) (s : List ℕ) (x : ℕ) → set (sets d to s) (to + length s) x ≡ sets d to (s ++ (x ∷ []))
put_next d to [] x = rw add-zero
put_next d to (y ∷ s) x =
    let e : to + suc (length s) ≡ suc to + length s = omega arith in
    rw e (put_next (set d to y) (suc to) s x)

-- what is put in has the room of as many, what is taken out leaves as many
pub inserted_at : (s x y a : List ℕ) (z : ℕ) → s ≡ x ++ (y ++ replicate (length a + z) 0)
    → inserted s (length x) (length x + length y) a ≡ x ++ (a ++ (y ++ replicate z 0))
unfolding inserted
inserted_at s x y a z e = rw e (same_lists _ _ (search (rules, places)) (λ k d h. grind (arith, places)))

pub removed_at : (s x y a : List ℕ) (z : ℕ) → s ≡ x ++ (a ++ (y ++ replicate z 0))
    → removed s (length x) (length x + (length a + length y)) (length a) ≡ x ++ (y ++ replicate (length a + z) 0)
unfolding removed
removed_at s x y a z e = rw e (same_lists _ _ (search (rules, places)) (λ k d h. grind (arith, places)))

-- all that is in use, taken out
pub removed_all : (s : List ℕ) (n : ℕ) → removed s 0 n n ≡ replicate n 0 ++ drop n s
unfolding removed
removed_all s n = let e : n - (0 + n) ≡ 0 = omega arith in rw e
