-- Where a node's answers begin: the first at a place, each other behind the one before it. Any store.
-- Assumes nothing.
use Rattle.units.proofs.Common.{◌≡◌, refl, List, ◌∷◌, map, ℕ, ◌≤◌, ◌+◌, ◌<◌, suc, ◌*◌, zero, add-zero, add-one, arith, length, get_or}
use Rattle.units.proofs.Common.{length-map}
use native.Mathlib.Nat.{mul-suc}
use Rattle.meaning.proofs.Terms.{added}
use Rattle.placed.specs.Machine.{answer_at, starts_of, pending_of}
use Rattle.placed.specs.declared.Pending.{Pending}
use Rattle.placed.proofs.Formed.{first_word}

-- the words of so many answers, the first at a place
abbrev pub span : List ℕ → ℕ → ℕ → ℕ
span store k p = added (map (answer_at store) (starts_of store k p))

module _ (store : List ℕ) where
  -- the first answer, and the others behind it
  pub starts_tail : (k p : ℕ) → starts_of store (suc k) p ≡ p ∷ starts_of store k (p + get_or store p 0)
  unfolding starts_of
  starts_tail k p = refl

  pub span_none : (p : ℕ) → span store 0 p ≡ 0
  unfolding starts_of added
  span_none p = refl

  pub span_tail : (k p : ℕ) → span store (suc k) p ≡ get_or store p 0 + span store k (p + get_or store p 0)
  unfolding starts_of added
  span_tail k p = omega (arith, first_word store p)

  pub starts_long : (k p : ℕ) → length (starts_of store k p) ≡ k
  unfolding starts_of
  starts_long zero p = refl
  starts_long (suc k) p = let h : length (starts_of store k (p + get_or store p 0)) ≡ k = starts_long k (p + get_or store p 0) in omega arith

  pub pending_long : (l : Pending) → length (pending_of store l) ≡ l.count
  unfolding pending_of
  pending_long l = rw length-map (starts_long l.count l.place)

  -- one answer more has the words that its first word says, which stands behind the others
  span_suc : (k p : ℕ) → span store (suc k) p ≡ span store k p + get_or store (p + span store k p) 0
  span_suc zero p = rw (span_none p, add-zero) (omega (arith, span_tail zero p, span_none (p + get_or store p 0)))
  span_suc (suc k) p =
      let q : ℕ = p + get_or store p 0 in
      let h : span store (suc k) q ≡ span store k q + get_or store (q + span store k q) 0 = span_suc k q in
      let e : q + span store k q ≡ p + span store (suc k) p = omega (arith, span_tail k p) in
      let t : span store (suc k) q ≡ span store k q + get_or store (p + span store (suc k) p) 0 = rw e at h in
      omega (arith, t, span_tail k p, span_tail (suc k) p)

  pub span_more : (k p : ℕ) → span store (k + 1) p ≡ span store k p + get_or store (p + span store k p) 0
  span_more k p = rw add-one (span_suc k p)

  -- the answer of index k begins behind the words of those before it
  pub starts_at : (n p k : ℕ) → k < n → get_or (starts_of store n p) k 0 ≡ p + span store k p
  unfolding starts_of
  starts_at zero p k h = absurd (omega arith)
  starts_at (suc n) p zero h = rw (span_none, add-zero)
  starts_at (suc n) p (suc k) h =
      let q : ℕ = p + get_or store p 0 in
      let r : get_or (starts_of store n q) k 0 ≡ q + span store k q = starts_at n q k (omega arith) in
      omega (arith, r, span_tail k p)

  -- so many words where each answer has so many
  pub span_least : (c n p : ℕ) → ((k : ℕ) → k < n → c ≤ get_or store (get_or (starts_of store n p) k 0) 0) → c * n ≤ span store n p
  unfolding starts_of
  span_least c zero p h = omega arith
  span_least c (suc n) p h =
      let q : ℕ = p + get_or store p 0 in
      let r : c * n ≤ span store n q = span_least c n q (λ k l. h (suc k) (omega arith)) in
      omega (arith, r, h zero (omega arith), span_tail n p, mul-suc c n)

  -- answers that lie in a store end in it; so do none, at its front
  pub span_end : (k p : ℕ) → (k ≡ 0 → p ≡ 0)
      → ((m : ℕ) → m < k → get_or (starts_of store k p) m 0 + get_or store (get_or (starts_of store k p) m 0) 0 ≤ length store)
      → p + span store k p ≤ length store
  span_end zero p z f = omega (arith, span_none p, z refl)
  span_end (suc k) p z f =
      let e : get_or (starts_of store (suc k) p) k 0 ≡ p + span store k p = starts_at (suc k) p k (omega arith) in
      let g : p + span store k p + get_or store (p + span store k p) 0 ≤ length store = rw e at (f k (omega arith)) in
      omega (arith, g, span_suc k p)
