-- Writing into one reader's region of the plaque memory.
-- Assumes nothing.
use Rattle.units.proofs.Common.{sym, ◌∙◌, ◌≡◌, refl, ap, subst, inl, inr, ◌⊎◌, true, List, ◌++◌, append_assoc, ℕ, ◌≤◌, ◌-◌, ◌+◌, ◌<◌, suc}
use Rattle.units.proofs.Common.{◌*◌, zero, min, arith, length, drop, get_or, take, length-drop, length-take, get_or-append, length-take-le}
use Rattle.units.proofs.Common.{get_or-drop, paste, slice, get_or-take, ext_get_or, get_or-append-add}
use native.Mathlib.Nat.{mul-le-mul_right}
use lib.Seq.{length-slice, length-paste, length_paste_head}
use Rattle.meaning.proofs.Terms.{Bench, is_reader}
use Rattle.machine.proofs.Terms.{region_of}
use Rattle.std.proofs.lemmas.Bool.{cases_lt}
use Rattle.promise.proofs.Tables.{reader_range}

-- ---- a paste, read
module _ (d : List ℕ) (at : ℕ) (s : List ℕ) (n : ℕ) (hd : at + n ≤ length d) (hs : n ≤ length s) where
  paste_before : (i : ℕ) → i < at → get_or (paste d at s n) i 0 ≡ get_or d i 0
  paste_before i h =
      let l : length (take at d) ≡ at = length-take-le at d (omega arith) in
      ap (λ t. get_or t i 0) (append_assoc (take at d) (take n s) (drop (at + n) d))
      ∙ get_or-append (take at d) (take n s ++ drop (at + n) d) 0 i (omega arith) ∙ get_or-take at d i 0 h

  paste_inside : (j : ℕ) → j < n → get_or (paste d at s n) (at + j) 0 ≡ get_or s j 0
  paste_inside j h =
      let l : length (take at d) ≡ at = length-take-le at d (omega arith) in
      let k : length (take n s) ≡ n = length-take-le n s hs in
      ap (λ t. get_or t (at + j) 0) (append_assoc (take at d) (take n s) (drop (at + n) d))
      ∙ ap (λ (t : ℕ). get_or (take at d ++ (take n s ++ drop (at + n) d)) (t + j) 0) (sym l)
      ∙ get_or-append-add (take at d) (take n s ++ drop (at + n) d) j 0
      ∙ get_or-append (take n s) (drop (at + n) d) 0 j (omega arith) ∙ get_or-take n s j 0 h

  paste_after : (i : ℕ) → at + n ≤ i → get_or (paste d at s n) i 0 ≡ get_or d i 0
  paste_after i h =
      let l : length (take at d ++ take n s) ≡ at + n = length_paste_head d at s n (omega arith) hs in
      let e : at + n + (i - (at + n)) ≡ i = omega arith in
      subst (λ k. get_or (paste d at s n) k 0 ≡ get_or d k 0) e
      (ap (λ (t : ℕ). get_or ((take at d ++ take n s) ++ drop (at + n) d) (t + (i - (at + n))) 0) (sym l)
      ∙ get_or-append-add (take at d ++ take n s) (drop (at + n) d) (i - (at + n)) 0 ∙ get_or-drop (at + n) d (i - (at + n)) 0)

-- ---- a paste, seen in a part of the list
part_at : (l : List ℕ) (f t i : ℕ) → f + i < t → get_or (slice f t l) i 0 ≡ get_or l (f + i) 0
part_at l f t i h = get_or-drop f (take t l) i 0 ∙ get_or-take t l (f + i) 0 h

part_long : (l : List ℕ) (f t : ℕ) → length (slice f t l) ≡ min t (length l) - f
part_long l f t = length-drop f (take t l) ∙ ap (λ (k : ℕ). k - f) (length-take t l)

module _ (d : List ℕ) (a r start : ℕ) (s : List ℕ) (k : ℕ) (inside : a + r ≤ length d) (fits : start + k ≤ r) (has : k ≤ length s) where
  abbrev after : List ℕ
  after = paste d (a + start) s k

  whole : length after ≡ length d
  whole = length-paste d (a + start) s k (omega arith) has

  -- in the part that it lies in
  part_own : slice a (a + r) after ≡ paste (slice a (a + r) d) start s k
  part_own =
      ext_get_or 0 (slice a (a + r) after) (paste (slice a (a + r) d) start s k)
      (own ∙ sym (length-paste (slice a (a + r) d) start s k (omega (arith, old)) has ∙ old))
      (λ i h. let h' : i < r = omega (arith, own) in part_at after a (a + r) i (omega arith) ∙ each i h' (cases_lt i start)
      (cases_lt i (start + k)))
    where
      old : length (slice a (a + r) d) ≡ r
      old = length-slice a (a + r) d inside ∙ omega arith

      own : length (slice a (a + r) after) ≡ r
      own = length-slice a (a + r) after (omega (arith, whole)) ∙ omega arith

      each : (i : ℕ) → i < r → (i < start) ⊎ (start ≤ i) → (i < start + k) ⊎ (start + k ≤ i)
          → get_or after (a + i) 0 ≡ get_or (paste (slice a (a + r) d) start s k) i 0
      each i h (inl p) q =
          paste_before d (a + start) s k (omega arith) has (a + i) (omega arith)
          ∙ sym (paste_before (slice a (a + r) d) start s k (omega (arith, old)) has i p ∙ part_at d a (a + r) i (omega arith))
      each i h (inr p) (inl q) =
          let e : a + start + (i - start) ≡ a + i = omega arith in
          let f : start + (i - start) ≡ i = omega arith in
          let j : i - start < k = omega arith in
          ap (λ t. get_or after t 0) (sym e) ∙ paste_inside d (a + start) s k (omega arith) has (i - start) j
          ∙ sym (ap (λ t. get_or (paste (slice a (a + r) d) start s k) t 0) (sym f) ∙ paste_inside (slice a (a + r) d) start s k
          (omega (arith, old)) has (i - start) j)
      each i h (inr p) (inr q) =
          paste_after d (a + start) s k (omega arith) has (a + i) (omega arith)
          ∙ sym (paste_after (slice a (a + r) d) start s k (omega (arith, old)) has i q ∙ part_at d a (a + r) i (omega arith))

  -- in a part beside it
  part_other : (f t : ℕ) → (t ≤ a) ⊎ (a + r ≤ f) → slice f t after ≡ slice f t d
  part_other f t o =
      ext_get_or 0 (slice f t after) (slice f t d) (part_long after f t ∙ ap (λ (k : ℕ). min t k - f) whole ∙ sym (part_long d f t))
      (λ i h. let h' : f + i < t = omega (arith, part_long after f t) in part_at after f t i h' ∙ each i h' o ∙ sym (part_at d f t i h'))
    where
      each : (i : ℕ) → f + i < t → (t ≤ a) ⊎ (a + r ≤ f) → get_or after (f + i) 0 ≡ get_or d (f + i) 0
      each i h (inl p) = paste_before d (a + start) s k (omega arith) has (f + i) (omega arith)
      each i h (inr p) = paste_after d (a + start) s k (omega arith) has (f + i) (omega arith)

-- ---- the regions
row_end : (n r : ℕ) → 1 ≤ n → n * r ≡ (n - 1) * r + r
row_end zero r h = absurd (omega arith)
row_end (suc n) r h = let e : suc n - 1 ≡ n = omega arith in rw e (omega arith)

apart : (j n : ℕ) → (j ≡ n → ⊥) → (j < n) ⊎ (n < j)
apart j n d = either (cases_lt j n) (cases_lt n j)
  where
    either : (j < n) ⊎ (n ≤ j) → (n < j) ⊎ (j ≤ n) → (j < n) ⊎ (n < j)
    either (inl p) q = inl p
    either (inr p) (inl q) = inr q
    either (inr p) (inr q) = absurd (d (omega arith))

-- memory' is memory but for the region of reader n
pub record Within (b : Bench) (n : ℕ) (memory memory' : List ℕ) : Type 0 where
  pub long : length memory' ≡ length memory
  pub others : (j : ℕ) → (j ≡ n → ⊥) → region_of b memory' j ≡ region_of b memory j

pub untouched : (b : Bench) (n : ℕ) (memory : List ℕ) → Within b n memory memory
untouched b n memory = record { long = refl; others = λ _ _. refl }

module _ (b : Bench) (n : ℕ) (memory : List ℕ) (is : is_reader b n ≡ true) (long : length memory ≡ b.readers * b.region) where
  row : (n * b.region ≡ (n - 1) * b.region + b.region) × ((n - 1) * b.region + b.region ≤ length memory)
  row =
      let i = reader_range b n is in
      let e = row_end n b.region i.0 in
      let h : n * b.region ≤ b.readers * b.region = mul-le-mul_right b.region i.1 in
      (e, omega arith)

  pub region_long : length (region_of b memory n) ≡ b.region
  unfolding region_of
  region_long = let e = row in length-slice ((n - 1) * b.region) (n * b.region) memory (omega arith) ∙ omega arith

  module _ (start : ℕ) (s : List ℕ) (k : ℕ) (fits : start + k ≤ b.region) (has : k ≤ length s) where
    -- its own region takes the bytes
    pub region_paste : region_of b (paste memory ((n - 1) * b.region + start) s k) n ≡ paste (region_of b memory n) start s k
    unfolding region_of
    region_paste =
        let e = row in
        rw e.0 (part_own memory ((n - 1) * b.region) b.region start s k e.1 fits has)

    -- and every other stays
    pub region_other : (j : ℕ) → (j ≡ n → ⊥) → region_of b (paste memory ((n - 1) * b.region + start) s k) j ≡ region_of b memory j
    unfolding region_of
    region_other j d =
        part_other memory ((n - 1) * b.region) b.region start s k row.1 fits has ((j - 1) * b.region) (j * b.region)
        (beside (apart j n d))
      where
        beside : (j < n) ⊎ (n < j) → (j * b.region ≤ (n - 1) * b.region) ⊎ ((n - 1) * b.region + b.region ≤ (j - 1) * b.region)
        beside (inl h) = inl (mul-le-mul_right b.region (omega arith))
        beside (inr h) =
            let q : n * b.region ≤ (j - 1) * b.region = mul-le-mul_right b.region (omega arith) in
            let e = row in inr (omega arith)

    pub pasted : Within b n memory (paste memory ((n - 1) * b.region + start) s k)
    pasted = let e = row in record { long = length-paste memory ((n - 1) * b.region + start) s k (omega arith) has; others = region_other }
