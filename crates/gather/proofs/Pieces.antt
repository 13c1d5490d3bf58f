-- Laws of lines: where one ends, what is left after it, and one that is cut because it is too long.
-- Assumes nothing.
use Rattle.units.proofs.Common.{sym, ◌∙◌, ◌≡◌, refl, ap, cond, eqb, List, [], ◌∷◌, ℕ, ◌≤◌, ◌-◌, ◌+◌, ◌<◌, suc}
use Rattle.units.proofs.Common.{ℕ_discrete, arith, length, drop, take, length-drop, drop_of_length-le, length-take, take_all}
use Rattle.units.proofs.Common.{drop-drop, eq-eqb, ne_eqb, yes_cond, no_cond}
use native.Mathlib.Decide.{dec_lt}
use Rattle.dialog.specs.Fields.{before}
use Rattle.dialog.specs.Spoken.{spoken}
use Rattle.dialog.specs.Dialog.{lines_of}
use Rattle.dialog.proofs.SpokenLaws.{too_long}
use Rattle.std.specs.List.{position_or_len}
use Rattle.std.proofs.lemmas.List.Recursion.{is_position_or_len}
use Rattle.gather.specs.Pieces.{line_in}

-- ---- a byte more
pub lines_feed : (c : ℕ) (cs : List ℕ) → c ≡ 10 → lines_of (c ∷ cs) ≡ [] ∷ lines_of cs
unfolding lines_of
lines_feed c cs e = yes_cond _ (eq-eqb c 10 e)

pub lines_more : (c : ℕ) (cs : List ℕ) → (c ≡ 10 → ⊥) → lines_of (c ∷ cs) ≡ before c (lines_of cs)
unfolding lines_of
lines_more c cs d = no_cond _ (ne_eqb c 10 d)

one : (c : ℕ) (cs : List ℕ) → length (line_in (c ∷ cs)) ≡ cond (eqb c 10) 0 (1 + length (line_in cs))
unfolding line_in
one c cs = elim (ℕ_discrete c 10) [ yes e ↦ rw (eq-eqb c 10 e) | no d ↦ rw (ne_eqb c 10 d) (omega arith) ]

-- ---- a line is the first bytes, and what is not its end is all
line_first : (bs : List ℕ) → line_in bs ≡ take (length (line_in bs)) bs
unfolding line_in
line_first [] = refl
line_first (c ∷ cs) = elim (ℕ_discrete c 10) [
  | yes e ↦ rw (eq-eqb c 10 e)
  | no d ↦ rw (ne_eqb c 10 d) (ap (λ (x : List ℕ). c ∷ x) (line_first cs))
]

line_short : (bs : List ℕ) → length (line_in bs) ≤ length bs
line_short bs = let e = ap length (line_first bs) ∙ length-take (length (line_in bs)) bs in omega arith

-- and has as many bytes as stand before the first line feed
pub line_place : (bs : List ℕ) → length (line_in bs) ≡ position_or_len (λ c. eqb c 10) bs
unfolding line_in
line_place bs = is_position_or_len (λ (l : List ℕ). length (line_in l)) (λ c. eqb c 10) refl one bs

-- ---- the lines of what is left
pub lines_none : lines_of [] ≡ []
unfolding lines_of
lines_none = refl

pub lines_first : (bs : List ℕ) → 0 < length bs → lines_of bs ≡ line_in bs ∷ lines_of (drop (suc (length (line_in bs))) bs)
unfolding lines_of line_in before
lines_first [] h = absurd (omega arith)
lines_first (c ∷ []) h = elim (ℕ_discrete c 10) [
  | yes e ↦ rw (eq-eqb c 10 e)
  | no d ↦ rw (ne_eqb c 10 d)
]
lines_first (c ∷ b ∷ bs) h = elim (ℕ_discrete c 10) [
  | yes e ↦ rw (eq-eqb c 10 e)
  | no d ↦ rw (ne_eqb c 10 d) (ap (before c) (lines_first (b ∷ bs) (omega arith)))
]

-- ---- at a place of the bytes
module _ (bs : List ℕ) (at : ℕ) where
  pub at_end : length bs ≤ at → line_in (drop at bs) ≡ []
  unfolding line_in
  at_end h = ap line_in (drop_of_length-le bs {i = at} h)

  -- one line more is that at the place, and the others begin past its line feed
  pub lines_on : at < length bs → lines_of (drop at bs) ≡ line_in (drop at bs) ∷ lines_of (drop (at + length (line_in (drop at bs)) + 1) bs)
  lines_on h =
      let n : at + suc (length (line_in (drop at bs))) ≡ at + length (line_in (drop at bs)) + 1 = omega arith in
      lines_first (drop at bs) (omega (arith, length-drop at bs))
      ∙ rw (drop-drop (suc (length (line_in (drop at bs)))) at bs, n)

  -- none is left past the end
  pub lines_end : length bs ≤ at → lines_of (drop at bs) ≡ []
  lines_end h = ap lines_of (drop_of_length-le bs {i = at} h) ∙ lines_none

  -- a line is what stands from its place to its end, and that is no further than that of the bytes
  pub line_part : (end : ℕ) → end ≡ at + length (line_in (drop at bs)) → take (end - at) (drop at bs) ≡ line_in (drop at bs)
  line_part end e = let n : end - at ≡ length (line_in (drop at bs)) = omega arith in rw n (sym (line_first (drop at bs)))

  pub line_within : at ≤ length bs → at + length (line_in (drop at bs)) ≤ length bs
  line_within h = omega (arith, line_short (drop at bs), length-drop at bs)

-- a line that is cut where it is too long anyway says what the whole says
pub cut : (n : ℕ) (l : List ℕ) → 4401 ≤ n → spoken (take n l) ≡ spoken l
cut n l h = elim (dec_lt n (length l)) [
  | yes g ↦ too_long (take n l) (omega (arith, length-take n l)) ∙ sym (too_long l (omega arith))
  | no g ↦ ap spoken (take_all n l (omega arith))
]
