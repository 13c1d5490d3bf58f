-- An enum of a length and of "too short", as one number.
-- Assumes nothing.
use Rattle.units.proofs.Common.{◌≡◌, refl, true, false, Bool, cond, ℕ}

-- what stands for a test's two answers is what stands for the answer
pub by_test : {A : Type 0} (f : A → ℕ) (w : ℕ → A) (a : A) → ((n : ℕ) → f (w n) ≡ n) → (t : Bool) (n : ℕ) → f (cond t (w n) a) ≡ cond t n
    (f a)
by_test f w a e true n = e n
by_test f w a e false n = refl
