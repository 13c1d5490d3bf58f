-- Laws of fields and numbers: a list by its first element and the rest, so that a loop's invariant speaks of what is left.
-- Assumes nothing.
use Rattle.units.proofs.Common.{sym, ◌∙◌, ◌≡◌, refl, ap, true, false, Bool, cond, ◌&&◌, false≢true, true≢false, List, [], ◌∷◌, ℕ, ◌≤◌}
use Rattle.units.proofs.Common.{◌+◌, ◌<◌, suc, ◌*◌, zero, ◌^◌, add-one, arith, eqb, leb, length, drop, get_or, drop_of_length-le, drop-cons}
use Rattle.units.proofs.Common.{eq-eqb, ne_eqb, le-leb, leb-true, every, within, yes_cond, no_cond, yes_and, and_true}
use native.Mathlib.Nat.{pow-succ', pow-le-pow_right}
use Rattle.meaning.proofs.Terms.{same}
use Rattle.dialog.specs.Fields.{before, fields, is_digit, value_of, number_ok}

-- ---- answers of tests
pub both : {a b : Bool} → a ≡ true → b ≡ true → (a && b) ≡ true
both p q = yes_and p ∙ q

pub nowise : (a : Bool) → (a ≡ true → ⊥) → a ≡ false
nowise true h = absurd (h refl)
nowise false h = refl

pub and_end : (a : Bool) → (a && true) ≡ a
and_end true = refl
and_end false = refl

pub clash : {a b : Bool} → a ≡ b → a ≡ false → b ≡ true → ⊥
clash e f t = true≢false (sym t ∙ sym e ∙ f)

pub in_range : (a z n : ℕ) → within a z n ≡ true → (a ≤ n) × (n ≤ z)
in_range a z n e = let p = and_true (leb a n) (leb n z) e in (leb-true a n p.0, leb-true n z p.1)

pub is_within : (a z n : ℕ) → a ≤ n → n ≤ z → within a z n ≡ true
is_within a z n h k = both (le-leb a n h) (le-leb n z k)

-- ---- what is left of a list
module _ {A : Type 0} where
  pub next : (xs : List A) (i : ℕ) (d : A) → i < length xs → drop i xs ≡ get_or xs i d ∷ drop (i + 1) xs
  next xs i d h = rw (add-one i) (drop-cons xs i d h)

  pub every_cons : (t : A → Bool) (x : A) (xs : List A) → every t (x ∷ xs) ≡ (t x && every t xs)
  unfolding every
  every_cons t x xs = refl

  pub every_none : (t : A → Bool) → every t [] ≡ true
  unfolding every
  every_none t = refl

  pub every_split : (t : A → Bool) {xs ys : List A} {y : A} → xs ≡ y ∷ ys → every t xs ≡ true → (t y ≡ true) × (every t ys ≡ true)
  every_split t {xs} {ys} {y} e h = and_true (t y) (every t ys) (sym (every_cons t y ys) ∙ sym (ap (every t) e) ∙ h)

  pub every_next : (t : A → Bool) (xs : List A) (i : ℕ) (d : A) → i < length xs → every t (drop i xs) ≡
      (t (get_or xs i d) && every t (drop (i + 1) xs))
  unfolding every
  every_next t xs i d h = ap (every t) (next xs i d h)

  pub every_end : (t : A → Bool) (xs : List A) (i : ℕ) → length xs ≤ i → every t (drop i xs) ≡ true
  unfolding every
  every_end t xs i h = ap (every t) (drop_of_length-le xs {i = i} h)

  pub every_is : (t : A → Bool) (xs : List A) (d : A) → every t xs ≡ true → (i : ℕ) → i < length xs → t (get_or xs i d) ≡ true
  unfolding every
  every_is t [] d e i h = absurd (omega arith)
  every_is t (x ∷ xs) d e zero h = (and_true (t x) (every t xs) e).0
  every_is t (x ∷ xs) d e (suc i) h = every_is t xs d (and_true (t x) (every t xs) e).1 i (omega arith)

-- ---- two lists, byte by byte
pub same_length : (xs ys : List ℕ) → same xs ys ≡ true → length xs ≡ length ys
unfolding same
same_length [] [] e = refl
same_length [] (y ∷ ys) e = absurd (false≢true e)
same_length (x ∷ xs) [] e = absurd (false≢true e)
same_length (x ∷ xs) (y ∷ ys) e = ap suc (same_length xs ys (and_true (eqb x y) (same xs ys) e).1)

pub same_next : (xs ys : List ℕ) (i : ℕ) → i < length xs → i < length ys
    → same (drop i xs) (drop i ys) ≡ (eqb (get_or xs i 0) (get_or ys i 0) && same (drop (i + 1) xs) (drop (i + 1) ys))
unfolding same
same_next xs ys i h k = rw (next xs i 0 h, next ys i 0 k)

pub same_end : (xs ys : List ℕ) (i : ℕ) → length xs ≤ i → length ys ≤ i → same (drop i xs) (drop i ys) ≡ true
unfolding same
same_end xs ys i h k = rw (drop_of_length-le xs {i = i} h, drop_of_length-le ys {i = i} k)

-- ---- fields
before_some : (c : ℕ) (fs : List (List ℕ)) → 1 ≤ length (before c fs)
unfolding before
before_some c [] = omega arith
before_some c (f ∷ fs) = omega arith

cond_some : (t : Bool) (c : ℕ) (fs : List (List ℕ)) → 1 ≤ length (cond t ([] ∷ fs) (before c fs))
cond_some true c fs = omega arith
cond_some false c fs = before_some c fs

pub fields_some : (xs : List ℕ) → 1 ≤ length (fields xs)
unfolding fields
fields_some [] = omega arith
fields_some (c ∷ cs) = cond_some (eqb c 32) c (fields cs)

pub fields_none : fields [] ≡ [] ∷ []
unfolding fields
fields_none = refl

pub fields_blank : (c : ℕ) (cs : List ℕ) → c ≡ 32 → fields (c ∷ cs) ≡ [] ∷ fields cs
unfolding fields
fields_blank c cs e = yes_cond _ (eq-eqb c 32 e)

pub fields_more : (c : ℕ) (cs f : List ℕ) (fs : List (List ℕ)) → (c ≡ 32 → ⊥) → fields cs ≡ f ∷ fs → fields (c ∷ cs) ≡ (c ∷ f) ∷ fs
unfolding fields before
fields_more c cs f fs h e = no_cond _ (ne_eqb c 32 h) ∙ ap (before c) e

-- ---- numbers
-- one digit more is one power of ten more
pub ten_times : (n d i : ℕ) → n < 10 ^ i → d < 10 → n * 10 + d < 10 ^ (i + 1)
ten_times n d i h k = rw (add-one i, pow-succ' 10 i) (omega arith)

-- ten digits fit a machine's 64 bits
pub ten_digits : (n i : ℕ) → n < 10 ^ i → i ≤ 10 → n < 10000000000
ten_digits n i h k = let p : 10 ^ i ≤ 10 ^ 10 = pow-le-pow_right (omega arith) k in omega arith

pub number_is : (most : ℕ) (f : List ℕ) → 1 ≤ length f → length f ≤ 10 → every is_digit f ≡ true → value_of f ≤ most → number_ok most f ≡ true
unfolding number_ok
number_is most f a z e v = both (both (is_within 1 10 (length f) a z) e) (le-leb (value_of f) most v)

pub record IsNumber (most : ℕ) (f : List ℕ) : Type 0 where
  pub least : 1 ≤ length f
  pub short : length f ≤ 10
  pub digits : every is_digit f ≡ true
  pub few : value_of f ≤ most

pub of_number : (most : ℕ) (f : List ℕ) → number_ok most f ≡ true → IsNumber most f
unfolding number_ok
of_number most f e =
    let p = and_true (within 1 10 (length f) && every is_digit f) (leb (value_of f) most) e in
    let q = and_true (within 1 10 (length f)) (every is_digit f) p.0 in
    let r = in_range 1 10 (length f) q.0 in
    record { least = r.0; short = r.1; digits = q.1; few = leb-true (value_of f) most p.1 }
