-- Laws of blocks: those before the first in which a byte is found are passed over; and one by its place.
-- Assumes nothing.
use Rattle.units.proofs.Common.{sym, ◌∙◌, ◌≡◌, refl, ap, not, true, false, Bool, List, [], ◌∷◌, ◌++◌, ℕ, ◌≤◌, ◌+◌, ◌*◌, ◌<◌, suc, zero}
use Rattle.units.proofs.Common.{arith, length, drop, get_or, take, drop-drop, take-append-drop, length-take, length-drop, yes_cond}
use Rattle.units.proofs.Common.{or_false, lt-ltb, le-ltb, eq-eqb}
use native.Mathlib.Decide.{dec_lt}
use Rattle.std.specs.List.{position, position_or_len, list_any}
use Rattle.std.specs.Option.{unwrap_or}
use Rattle.std.specs.Simd.{first_chunks}
use Rattle.std.proofs.lemmas.List.Sums.{prefix_len-le-length}
use Rattle.std.proofs.lemmas.List.Folds.{prefix_len-append}

-- the first place, or how many there are
pub place_or_length : {X : Type 0} (p : X → Bool) (xs : List X) → unwrap_or (position p xs) (length xs) ≡ position_or_len p xs
place_or_length p xs = elim (dec_lt (position_or_len p xs) (length xs)) [
  | yes h ↦ rw (lt-ltb (position_or_len p xs) (length xs) h)
  | no h ↦ rw (le-ltb (position_or_len p xs) (length xs) (omega arith)) (omega (arith, prefix_len-le-length (λ x. not (p x)) xs))
]

-- where none is found in the front, the rest says how far it is
none_found : {X : Type 0} (p : X → Bool) (xs : List X) → list_any p xs ≡ false → position_or_len p xs ≡ length xs
none_found p [] e = refl
none_found p (x ∷ xs) e =
    let h = or_false (p x) (list_any p xs) e in
    rw h.0 (omega (arith, none_found p xs h.1))

behind : {X : Type 0} (p : X → Bool) (xs ys : List X) → list_any p xs ≡ false
    → position_or_len p (xs ++ ys) ≡ length xs + position_or_len p ys
behind p xs ys e =
    prefix_len-append (λ x. not (p x)) xs ys
    ∙ yes_cond (position_or_len p xs) (eq-eqb (position_or_len p xs) (length xs) (none_found p xs e))

-- the place by blocks
abbrev by_blocks : (ℕ → Bool) → ℕ → List ℕ → ℕ
by_blocks p k xs = 16 * position_or_len (list_any p) (first_chunks 16 k xs)

-- one block more, with or without a find
block_more : (p : ℕ → Bool) (k : ℕ) (xs : List ℕ) (at m : ℕ) (found : Bool) → 16 ≤ length xs → list_any p (take 16 xs) ≡ found
    → at ≡ by_blocks p (suc k) xs → m ≡ by_blocks p k (drop 16 xs)
    → m + position_or_len p (drop m (drop 16 xs)) ≡ position_or_len p (drop 16 xs)
    → at + position_or_len p (drop at xs) ≡ position_or_len p xs
block_more p k xs at m true h f e n on =
    let here = rw f at e in
    let z : at ≡ 0 = omega arith in
    rw z (omega arith)
block_more p k xs at m false h f e n on =
    let past = rw f at e in
    let z : at ≡ 16 + m = omega arith in
    let there : position_or_len p xs ≡ 16 + position_or_len p (drop 16 xs) =
    ap (position_or_len p) (sym (take-append-drop 16 xs)) ∙ behind p (take 16 xs) (drop 16 xs) f
    ∙ ap (λ l. l + position_or_len p (drop 16 xs)) (omega (arith, length-take 16 xs)) in
    let same : position_or_len p (drop at xs) ≡ position_or_len p (drop m (drop 16 xs)) =
    ap (position_or_len p) (ap (λ j. drop j xs) z ∙ sym (drop-drop m 16 xs)) in
    omega arith

pub passed_over : (p : ℕ → Bool) (k : ℕ) (xs : List ℕ) (at : ℕ) → k * 16 ≤ length xs
    → at ≡ by_blocks p k xs → at + position_or_len p (drop at xs) ≡ position_or_len p xs
passed_over p zero xs at h e = let z : at ≡ 0 = omega arith in rw z (omega arith)
passed_over p (suc k) xs at h e =
    block_more p k xs at (by_blocks p k (drop 16 xs)) (list_any p (take 16 xs)) (omega arith) refl e refl
    (passed_over p k (drop 16 xs) (by_blocks p k (drop 16 xs)) (omega (arith, length-drop 16 xs)) refl)

-- the i-th block
pub block_at : (k i : ℕ) (xs : List ℕ) → i < k → get_or (first_chunks 128 k xs) i [] ≡ take 128 (drop (i * 128) xs)
block_at zero i xs h = absurd (omega arith)
block_at (suc k) zero xs h = refl
block_at (suc k) (suc i) xs h =
    let n : 128 + i * 128 ≡ suc i * 128 = omega arith in
    block_at k i (drop 128 xs) (omega arith) ∙ rw (drop-drop (i * 128) 128 xs, n)
