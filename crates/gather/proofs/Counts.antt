-- Laws of line feeds counted: how many lines so many of them make, and those of the blocks so far.
-- Assumes nothing.
use Rattle.units.proofs.Common.{◌∙◌, ◌≡◌, refl, ap, cond, List, [], ◌∷◌, ℕ, ◌+◌, ◌<◌, suc, zero, ℕ_discrete, arith, eqb}
use Rattle.units.proofs.Common.{length, drop, get_or, take, take-add, eq-eqb, ne_eqb, yes_cond, no_cond}
use Rattle.std.specs.List.{count_by}
use Rattle.std.proofs.lemmas.List.Sums.{sum_by-cons, sum_by-append, sum_by-take-drop}
use Rattle.dialog.specs.Fields.{before}
use Rattle.dialog.specs.Dialog.{lines_of}
use Rattle.gather.proofs.Pieces.{lines_none, lines_feed, lines_more, lines_first}

-- as the contracts say it
abbrev pub feeds_in : List ℕ → ℕ
feeds_in bs = count_by (λ c. eqb c 10) bs

-- ---- one more at a line feed; those of one block more
abbrev one_if : ℕ → ℕ
one_if c = cond (eqb c 10) 1 0

feeds_feed : (c : ℕ) (cs : List ℕ) → c ≡ 10 → feeds_in (c ∷ cs) ≡ feeds_in cs + 1
feeds_feed c cs e = let y : one_if c ≡ 1 = yes_cond 0 (eq-eqb c 10 e) in omega (arith, sum_by-cons one_if c cs)

feeds_more : (c : ℕ) (cs : List ℕ) → (c ≡ 10 → ⊥) → feeds_in (c ∷ cs) ≡ feeds_in cs
feeds_more c cs d = let n : one_if c ≡ 0 = no_cond 1 (ne_eqb c 10 d) in omega (arith, sum_by-cons one_if c cs)

pub block_more : (bs : List ℕ) (at n : ℕ) → feeds_in (take (at + n) bs) ≡ feeds_in (take at bs) + feeds_in (take n (drop at bs))
block_more bs at n = ap feeds_in (take-add at n bs) ∙ sum_by-append one_if (take at bs) (take n (drop at bs))

pub rest_on : (bs : List ℕ) (at : ℕ) → feeds_in (take at bs) + feeds_in (drop at bs) ≡ feeds_in bs
rest_on bs at = sum_by-take-drop one_if bs at

-- ---- how many lines: a byte in front of others makes a line more where it is a line feed
before_some : (c : ℕ) (ls : List (List ℕ)) → 0 < length ls → length (before c ls) ≡ length ls
unfolding before
before_some c [] h = absurd (omega arith)
before_some c (l ∷ ls) h = refl

before_none : (c : ℕ) → length (before c []) ≡ 1
unfolding before
before_none c = refl

lines_next : (c b : ℕ) (bs : List ℕ)
    → length (lines_of (c ∷ b ∷ bs)) + feeds_in (b ∷ bs) ≡ length (lines_of (b ∷ bs)) + feeds_in (c ∷ b ∷ bs)
lines_next c b bs = elim (ℕ_discrete c 10) [
  | yes e ↦ omega (arith, ap length (lines_feed c (b ∷ bs) e), feeds_feed c (b ∷ bs) e)
  | no d ↦
      let some = before_some c (lines_of (b ∷ bs)) (omega (arith, ap length (lines_first (b ∷ bs) (omega arith)))) in
      omega (arith, ap length (lines_more c (b ∷ bs) d), feeds_more c (b ∷ bs) d)
]

-- a line for each line feed, and one more where the last byte is none
lines_count : (k : ℕ) (bs : List ℕ) → length bs ≡ suc k → length (lines_of bs) + feeds_in (get_or bs k 0 ∷ []) ≡ feeds_in bs + 1
lines_count k [] h = absurd (omega arith)
lines_count zero (c ∷ []) h = elim (ℕ_discrete c 10) [
  | yes e ↦ omega (arith, ap length (lines_feed c [] e), ap length lines_none, feeds_feed c [] e)
  | no d ↦ omega (arith, ap length (lines_more c [] d ∙ ap (before c) lines_none), before_none c, feeds_more c [] d)
]
lines_count (suc k) (c ∷ []) h = absurd (omega arith)
lines_count zero (c ∷ b ∷ bs) h = absurd (omega arith)
lines_count (suc k) (c ∷ b ∷ bs) h = omega (arith, lines_next c b bs, lines_count k (b ∷ bs) (omega arith))

pub lines_whole : (k : ℕ) (bs : List ℕ) → length bs ≡ suc k → get_or bs k 0 ≡ 10 → length (lines_of bs) ≡ feeds_in bs
lines_whole k bs h e = omega (arith, lines_count k bs h, feeds_feed (get_or bs k 0) [] e)

pub lines_part : (k : ℕ) (bs : List ℕ) → length bs ≡ suc k → (get_or bs k 0 ≡ 10 → ⊥) → length (lines_of bs) ≡ feeds_in bs + 1
lines_part k bs h d = omega (arith, lines_count k bs h, feeds_more (get_or bs k 0) [] d)
