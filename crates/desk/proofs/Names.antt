-- A name in its 64 bytes: one that is in order, and one made of bytes that came.
-- Assumes nothing.
use Rattle.units.proofs.Common.{◌∙◌, ◌≡◌, refl, ap, true, List, [], ◌∷◌, ◌++◌, ℕ, ◌≤◌, suc, zero, arith, leb, length, drop}
use Rattle.units.proofs.Common.{take, length-drop, replicate, length-append, length-take, take_at, drop_at, le-leb}
use Rattle.units.proofs.Common.{leb-true, every, and_true, length-sets, sets}
use Rattle.units.proofs.PackingLaws.{sets_full}
use Rattle.machine.proofs.Terms.{zeros, name_ok}
use Rattle.state.specs.declared.Name.{Name}
use Rattle.state.proofs.Lists.{both}
use Rattle.desk.specs.Ruled.{title_of}

-- ---- a name in order lies in its bytes, and is short
pub name_inside : (n : Name) → name_ok n ≡ true → length n.bytes ≡ 64 → n.length.0 ≤ length n.bytes
unfolding name_ok
name_inside n o w = let h : n.length.0 ≤ 64 = leb-true _ _ (and_true (leb n.length.0 64) _ o).0 in omega arith

pub name_short : (n : Name) → length n.bytes ≡ 64 → length (title_of n) ≤ 255
name_short n w = rw length-take (omega arith)

-- ---- the bytes of a new name: what came, and zeros behind it
abbrev pub blank : List ℕ
blank = replicate 64 0

none_behind : (n k : ℕ) → zeros (drop n (replicate k 0)) ≡ true
unfolding every
none_behind zero zero = refl
none_behind zero (suc k) = none_behind zero k
none_behind (suc n) zero = refl
none_behind (suc n) (suc k) = none_behind n k

take_own : (c : ℕ) (xs : List ℕ) → take (length (take c xs)) xs ≡ take c xs
take_own zero xs = refl
take_own (suc c) [] = refl
take_own (suc c) (x ∷ xs) = ap (λ (l : List ℕ). x ∷ l) (take_own c xs)

abbrev pub written : ℕ → List ℕ → Name
written n bytes = record { length = record { 0 = n }; bytes = bytes ++ drop n blank }

module _ (n c : ℕ) (xs : List ℕ) {bytes : List ℕ} (short : n ≤ 64) (whole : n ≡ length (take c xs))
    (is : bytes ≡ sets (take n blank) 0 xs) where
  front_long : length bytes ≡ n
  front_long = ap length is ∙ length-sets (take n blank) 0 xs ∙ rw length-take (omega arith)

  pub name_long : length (written n bytes).bytes ≡ 64
  name_long = let l = front_long in simp (length-append, length-drop) (omega arith)

  pub name_ok_lem : name_ok (written n bytes) ≡ true
  unfolding name_ok
  name_ok_lem = both (le-leb n 64 short) (ap zeros (drop_at bytes (drop n blank) n front_long) ∙ none_behind n 64)

  pub title_is : title_of (written n bytes) ≡ take c xs
  title_is =
      let l : length (take n blank) ≡ n = rw length-take (omega arith) in
      let q : length (take c xs) ≤ length xs = rw length-take (omega arith) in
      let h : length (take n blank) ≤ length xs = omega arith in
      let e : bytes ≡ take n xs = is ∙ sets_full xs (take n blank) h ∙ ap (λ (k : ℕ). take k xs) l in
      take_at bytes (drop n blank) n front_long ∙ e ∙ ap (λ (k : ℕ). take k xs) whole ∙ take_own c xs
