-- Laws of words and bytes in hexadecimal digits.
-- Assumes nothing.
use Rattle.units.proofs.Common.{sym, ◌∙◌, ◌≡◌, refl, ap, ⊎_elim, inl, inr, ◌⊎◌, true, false, Bool, ◌&&◌, ◌||◌, List, [], ◌∷◌, ℕ, ◌≤◌, ◌-◌}
use Rattle.units.proofs.Common.{◌+◌, ◌<◌, ◌*◌, ◌%◌, ◌/◌, arith, eqb, leb, length, drop, get_or, drop_of_length-le}
use Rattle.units.proofs.Common.{eq-eqb, le-leb, eqb-true, leb-true, lt-leb, every, within, yes_cond, no_cond, yes_or}
use Rattle.units.proofs.Common.{no_or, yes_and, and_true}
use Rattle.meaning.proofs.Terms.{same}
use Rattle.dialog.specs.Fields.{is_digit, is_hex, hex_digit, word_ok, dash, bytes_ok, pairs, bytes_of_hex}
use Rattle.dialog.proofs.FieldLaws.{both, in_range, next}

-- ---- a digit
or_cases : (a b : Bool) → (a || b) ≡ true → (a ≡ true) ⊎ (b ≡ true)
or_cases true b e = inl refl
or_cases false b e = inr e

pub hex_cases : (c : ℕ) → is_hex c ≡ true → ((48 ≤ c) × (c ≤ 57)) ⊎ (((65 ≤ c) × (c ≤ 70)) ⊎ ((97 ≤ c) × (c ≤ 102)))
hex_cases c e =
    ⊎_elim
    (λ u. ⊎_elim (λ d. inl (in_range 48 57 c d)) (λ d. inr (inl (in_range 65 70 c d))) (or_cases (is_digit c) (within 65 70 c) u))
    (λ d. inr (inr (in_range 97 102 c d)))
    (or_cases (is_digit c || within 65 70 c) (within 97 102 c) e)

pub digit_low : (c : ℕ) → c ≤ 57 → hex_digit c ≡ c - 48
digit_low c h = yes_cond _ (le-leb c 57 h)

pub digit_upper : (c : ℕ) → 57 < c → c ≤ 70 → hex_digit c ≡ c - 55
digit_upper c g h = no_cond _ (lt-leb c 57 g) ∙ yes_cond _ (le-leb c 70 h)

pub digit_lower : (c : ℕ) → 70 < c → hex_digit c ≡ c - 87
digit_lower c g = no_cond _ (lt-leb c 57 (omega arith)) ∙ no_cond _ (lt-leb c 70 g)

-- ---- a word
pub word_length : (f : List ℕ) → word_ok f ≡ true → length f ≡ 4
unfolding word_ok
word_length f e = eqb-true (length f) 4 (and_true (eqb (length f) 4) (every is_hex f) e).0

pub word_digits : (f : List ℕ) → word_ok f ≡ true → every is_hex f ≡ true
unfolding word_ok
word_digits f e = (and_true (eqb (length f) 4) (every is_hex f) e).1

-- ---- bytes
pub pairs_next : (xs : List ℕ) (i : ℕ) → i + 1 < length xs
    → pairs (drop i xs) ≡ (hex_digit (get_or xs i 0) * 16 + hex_digit (get_or xs (i + 1) 0)) ∷ pairs (drop (i + 2) xs)
unfolding pairs
pairs_next xs i h =
    let two : i + 1 + 1 ≡ i + 2 = omega arith in
    ap pairs (next xs i 0 (omega arith) ∙ ap (λ (ys : List ℕ). get_or xs i 0 ∷ ys) (next xs (i + 1) 0 h))
    ∙ ap (λ (k : ℕ). (hex_digit (get_or xs i 0) * 16 + hex_digit (get_or xs (i + 1) 0)) ∷ pairs (drop k xs)) two

pub pairs_end : (xs : List ℕ) (i : ℕ) → length xs ≤ i → pairs (drop i xs) ≡ []
unfolding pairs
pairs_end xs i h = ap pairs (drop_of_length-le xs {i = i} h)

pub length_pairs : (xs : List ℕ) → length (pairs xs) ≡ length xs / 2
unfolding pairs
length_pairs [] = refl
length_pairs (c ∷ []) = refl
length_pairs (c ∷ d ∷ cs) = let e = length_pairs cs in omega arith

pub record IsBytes (most : ℕ) (f : List ℕ) : Type 0 where
  pub least : 2 ≤ length f
  pub even : length f % 2 ≡ 0
  pub few : length f ≤ 2 * most
  pub digits : every is_hex f ≡ true

pub of_bytes : (most : ℕ) (f : List ℕ) → same f dash ≡ false → bytes_ok most f ≡ true → IsBytes most f
unfolding bytes_ok
of_bytes most f d e =
    let u : (((leb 2 (length f) && eqb (length f % 2) 0) && leb (length f) (2 * most)) && every is_hex f) ≡ true = sym (no_or d) ∙ e in
    let p = and_true ((leb 2 (length f) && eqb (length f % 2) 0) && leb (length f) (2 * most)) (every is_hex f) u in
    let q = and_true (leb 2 (length f) && eqb (length f % 2) 0) (leb (length f) (2 * most)) p.0 in
    let r = and_true (leb 2 (length f)) (eqb (length f % 2) 0) q.0 in record {
      least = leb-true 2 (length f) r.0;
      even = eqb-true (length f % 2) 0 r.1;
      few = leb-true (length f) (2 * most) q.1;
      digits = p.1;
    }

pub bytes_if : (most : ℕ) (f : List ℕ) → same f dash ≡ false → 2 ≤ length f → length f % 2 ≡ 0 → length f ≤ 2 * most → every is_hex f ≡
    bytes_ok most f
unfolding bytes_ok
bytes_if most f d h e k =
    sym (no_or d ∙ yes_and (both (both (le-leb 2 (length f) h) (eq-eqb (length f % 2) 0 e)) (le-leb (length f) (2 * most) k)))

pub bytes_dash : (most : ℕ) (f : List ℕ) → same f dash ≡ true → bytes_ok most f ≡ true
unfolding bytes_ok
bytes_dash most f d = yes_or _ d

-- what is within a limit is within a larger one
pub bytes_wider : (most wider : ℕ) (f : List ℕ) → most ≤ wider → bytes_ok most f ≡ true → bytes_ok wider f ≡ true
bytes_wider most wider f h e = by_dash (same f dash) refl
  where
    by_dash : (t : Bool) → same f dash ≡ t → bytes_ok wider f ≡ true
    by_dash true d = bytes_dash wider f d
    by_dash false d = let b = of_bytes most f d e in sym (bytes_if wider f d b.least b.even (omega arith)) ∙ b.digits

pub no_bytes : (f : List ℕ) → same f dash ≡ true → bytes_of_hex f ≡ []
unfolding bytes_of_hex
no_bytes f d = yes_cond _ d

pub some_bytes : (f : List ℕ) → same f dash ≡ false → bytes_of_hex f ≡ pairs f
unfolding bytes_of_hex
some_bytes f d = no_cond _ d

pub bytes_few : (most : ℕ) (f : List ℕ) → bytes_ok most f ≡ true → length (bytes_of_hex f) ≤ most
bytes_few most f e = by_dash (same f dash) refl
  where
    by_dash : (t : Bool) → same f dash ≡ t → length (bytes_of_hex f) ≤ most
    by_dash true d = rw (no_bytes f d) (omega arith)
    by_dash false d = let b = of_bytes most f d e in rw (some_bytes f d) (omega (arith, length_pairs f, b.few))
