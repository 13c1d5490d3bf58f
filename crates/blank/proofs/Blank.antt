-- A fresh state, with the store that making it zeroed and plaque memory all 0, is consistent and means a blank gateway.
-- Assumes nothing.
use Rattle.units.proofs.Common.{◌∙◌, ◌≡◌, refl, ap, fun_ext, true, false, Bool, cond, List, [], ◌∷◌, ℕ, ◌-◌, suc, ◌*◌, zero, min, arith}
use Rattle.units.proofs.Common.{leb, length, drop, take, replicate, length-replicate, slice, le-leb}
use borrow.Author.Tests.{leb-false}
use Rattle.units.proofs.Choice.{and-false}
use Rattle.meaning.proofs.Terms.{full, is_reader, fresh}
use Rattle.state.specs.State.{fresh_state}
use Rattle.machine.proofs.Terms.{machine, meaning, region_of, unfit}
use Rattle.state.specs.declared.State.{State}
use Rattle.promise.specs.Runs.{zero_store, fresh_machine}
use Rattle.promise.proofs.Tables.{reader_range}
use Rattle.promise.proofs.Chains.{fresh_fit, fresh_means}
use Rattle.listing.specs.Listing.{blank}

module _ {A : Type 0} (x : A) where
  row : {j k : ℕ} → j ≡ k → replicate j x ≡ replicate k x
  row e = ap (λ (i : ℕ). replicate i x) e

  take_row : (n k : ℕ) → take n (replicate k x) ≡ replicate (min n k) x
  take_row zero k = row {j = 0} {k = min 0 k} (omega arith)
  take_row (suc n) zero = row {j = 0} {k = min (suc n) 0} (omega arith)
  take_row (suc n) (suc k) = ap (λ (l : List A). x ∷ l) (take_row n k) ∙ row {j = suc (min n k)} {k = min (suc n) (suc k)} (omega arith)

  drop_row : (n k : ℕ) → drop n (replicate k x) ≡ replicate (k - n) x
  drop_row zero k = row {j = k} {k = k - 0} (omega arith)
  drop_row (suc n) zero = row {j = 0} {k = 0 - suc n} (omega arith)
  drop_row (suc n) (suc k) = drop_row n k ∙ row {j = k - n} {k = suc k - suc n} (omega arith)

  -- a slice of equal elements, of as many as are there
  slice_row : (f t k j : ℕ) → min t k - f ≡ j → slice f t (replicate k x) ≡ replicate j x
  slice_row f t k j e = ap (drop f) (take_row t k) ∙ drop_row f (min t k) ∙ row e

-- each reader's region of a plaque memory that is all 0
zeros : ℕ → List ℕ
zeros n = replicate n 0

blank_region : (n : ℕ) → region_of full (replicate 16384 0) n ≡ cond (is_reader full n) (replicate 1024 0) []
unfolding region_of zeros
blank_region n = go (is_reader full n) refl
  where
    beyond : (n : ℕ) → is_reader full n ≡ false → min (n * 1024) 16384 - (n - 1) * 1024 ≡ 0
    beyond zero e = refl
    beyond (suc n) e =
        let h = leb-false (suc n) 16 (and-false (leb 1 (suc n)) (leb (suc n) 16) e (le-leb 1 (suc n) (omega arith))) in omega (arith, h)

    go : (t : Bool) → is_reader full n ≡ t → slice ((n - 1) * 1024) (n * 1024) (zeros 16384) ≡ cond t (zeros 1024) []
    go true e = slice_row 0 ((n - 1) * 1024) (n * 1024) 16384 1024 (omega (arith, reader_range full n e))
    go false e = slice_row 0 ((n - 1) * 1024) (n * 1024) 16384 0 (beyond n e)

-- the store that the making of a fresh state leaves, where one of 4,096 words was lent
zeroed : (old store : List ℕ) → length old ≡ 4096 → store ≡ replicate (length old) 0 → store ≡ zero_store
unfolding zero_store zeros
zeroed old store l z = z ∙ ap zeros l

-- from what making it promises
module _ (s : State) (old store : List ℕ) (l : length old ≡ 4096) (p : (s ≡ fresh_state) × (store ≡ replicate (length old) 0)) where
  as_fresh : machine s store (replicate 16384 0) ≡ fresh_machine (replicate 16384 0)
  as_fresh =
      ap (λ (s : State). machine s store (replicate 16384 0)) p.0
      ∙ ap (λ (w : List ℕ). machine fresh_state w (replicate 16384 0)) (zeroed old store l p.1)

  pub blank_fit : unfit full (machine s store (replicate 16384 0)) ≡ 0
  blank_fit = ap (unfit full) as_fresh ∙ fresh_fit (replicate 16384 0) (length-replicate {A = ℕ} 16384 0)

  pub blank_means : meaning full (machine s store (replicate 16384 0)) ≡ blank full
  unfolding blank
  blank_means =
      ap (meaning full) as_fresh
      ∙ fresh_means full (replicate 16384 0)
      ∙ ap fresh (fun_ext blank_region)
