-- The fields from a place of a line on: where a field ends, and whether there is one more.
-- Assumes nothing.
use Rattle.units.proofs.Common.{sym, ◌∙◌, ◌≡◌, ap, true, false, Bool, List, [], ◌∷◌, ℕ, ◌≤◌, ◌-◌, ◌+◌, ◌<◌, suc, zero, ℕ_discrete, arith}
use Rattle.units.proofs.Common.{length, drop, get_or, take, length-drop, drop_of_length-le, length-take-le, le-leb, lt-leb, every, yes_cond}
use Rattle.units.proofs.Common.{no_cond, refl, get_or-drop, add-zero}
use native.Mathlib.Decide.{dec_le}
use Rattle.std.specs.List.{AllWithin, HoldsAt}
use Rattle.dialog.specs.Fields.{fields}
use Rattle.dialog.specs.Spoken.{field}
use Rattle.dialog.proofs.FieldLaws.{clash, next, every_split, fields_some, fields_none, fields_blank, fields_more}
use Rattle.fields.specs.FieldsAt.{fields_from, FieldAt, place_after}

module _ (line : List ℕ) where
  pub from_in : (at : ℕ) → at ≤ length line → fields_from line at ≡ fields (drop at line)
  unfolding fields_from
  from_in at h = yes_cond _ (le-leb at (length line) h)

  pub from_past : (at : ℕ) → length line < at → fields_from line at ≡ []
  unfolding fields_from
  from_past at h = no_cond _ (lt-leb at (length line) h)

  pub from_some : (at : ℕ) → at ≤ length line → 1 ≤ length (fields_from line at)
  from_some at h = rw (from_in at h) (fields_some (drop at line))

  -- at a blank, or at the line's end, the field is empty
  pub none_left : (at : ℕ) (xs : List ℕ) → take (at - at) xs ≡ []
  none_left at xs = let z : at - at ≡ 0 = omega arith in rw z

  pub at_blank : (at : ℕ) → at < length line → get_or line at 0 ≡ 32 → FieldAt line at at
  at_blank at h e = record {
    first = from_in at (omega arith) ∙ ap fields (next line at 0 h) ∙ fields_blank (get_or line at 0) (drop (at + 1) line) e ∙ rw
        (none_left at (drop at line), from_in (at + 1) (omega arith));
    least = omega arith;
    most = omega arith;
  }

  pub at_end : (at : ℕ) → at ≡ length line → FieldAt line at at
  at_end at e = record {
    first = from_in at (omega arith) ∙ ap fields (drop_of_length-le line {i = at} (omega arith)) ∙ fields_none ∙ rw
        (none_left at (drop at line), from_past (at + 1) (omega arith));
    least = omega arith;
    most = omega arith;
  }

  -- a byte that is no blank is the first of its field
  pub one_more : (at r : ℕ) → at < length line → at + 1 ≤ r → take (r - at) (drop at line) ≡ get_or line at 0 ∷ take (r - (at + 1))
      (drop (at + 1) line)
  one_more at r h g = let z : r - at ≡ suc (r - (at + 1)) = omega arith in rw (z, next line at 0 h)

  pub at_other : (at r : ℕ) → at < length line → (get_or line at 0 ≡ 32 → ⊥) → FieldAt line (at + 1) r → FieldAt line at r
  at_other at r h d f =
      let rest : fields (drop (at + 1) line) ≡ take (r - (at + 1)) (drop (at + 1) line) ∷ fields_from line (r + 1) = sym
      (from_in (at + 1) (omega arith)) ∙ f.first in
      record {
        first = from_in at (omega arith) ∙ ap fields (next line at 0 h) ∙ fields_more (get_or line at 0) (drop (at + 1) line) _ _ d rest ∙ rw
            (one_more at r h f.least);
        least = omega arith;
        most = f.most;
      }

  -- where no blank stands before it, the field ends where it ends from there
  no_blank : (n at r : ℕ) → at + n ≤ length line → ((k : ℕ) → k < n → get_or line (at + k) 0 ≡ 32 → ⊥) → FieldAt line (at + n) r
      → FieldAt line at r
  no_blank zero at r s h f = let z : at + 0 ≡ at = omega arith in rw z at f
  no_blank (suc n) at r s h f =
      let z : at + suc n ≡ at + 1 + n = omega arith in
      let later : (k : ℕ) → k < n → get_or line (at + 1 + k) 0 ≡ 32 → ⊥ =
      λ k l. let y : at + 1 + k ≡ at + (k + 1) = omega arith in rw y (h (k + 1) (omega arith)) in
      at_other at r (omega arith) (λ e. h 0 (omega arith) (rw add-zero e)) (no_blank n (at + 1) r (omega arith) later (rw z at f))

  none_among : (at n : ℕ) → AllWithin (λ (c : ℕ). c ≡ 32 → ⊥) (drop at line) 0 n → (k : ℕ) → k < n → get_or line (at + k) 0 ≡ 32 → ⊥
  none_among at n f k h e = f k 0 (omega arith) h (get_or-drop at line k 0 ∙ e)

  pub to_blank : (at n : ℕ) → n < length (drop at line) → HoldsAt (λ (c : ℕ). c ≡ 32) (drop at line) n
      → AllWithin (λ (c : ℕ). c ≡ 32 → ⊥) (drop at line) 0 n → FieldAt line at (at + n)
  to_blank at n h b f =
      let s : at + n < length line = omega (arith, length-drop at line) in
      no_blank n at (at + n) (omega arith) (none_among at n f) (at_blank (at + n) s (sym (get_or-drop at line n 0) ∙ b 0))

  pub to_line_end : (at : ℕ) → at ≤ length line → AllWithin (λ (c : ℕ). c ≡ 32 → ⊥) (drop at line) 0 (length (drop at line))
      → FieldAt line at (length line)
  to_line_end at h f =
      let z : at + length (drop at line) ≡ length line = omega (arith, length-drop at line) in
      no_blank (length (drop at line)) at (length line) (omega arith) (none_among at (length (drop at line)) f) (rw z (at_end (length line) refl))

  -- bytes that pass a test which no blank passes are of one field
  pub through : (t : ℕ → Bool) → t 32 ≡ false → (k at e r : ℕ) → at + k ≡ e → e ≤ length line → every t (take k (drop at line)) ≡ true
      → FieldAt line e r → FieldAt line at r
  through t n zero at e r s h y f = let z : at ≡ e = omega arith in rw z f
  through t n (suc k) at e r s h y f =
      let p = every_split t (ap (take (suc k)) (next line at 0 (omega arith))) y in
      at_other at r (omega arith) (λ b. clash (sym (ap t b)) n p.0) (through t n k (at + 1) e r (omega arith) h p.1 f)

  -- ---- the place after a field
  pub after_field : (at r : ℕ) → FieldAt line at r → place_after line at ≡ r + 1
  unfolding place_after
  after_field at r f =
      let in-line : at ≤ length line = omega (arith, f.least, f.most) in
      let there : r - at ≤ length (drop at line) = omega (arith, f.most, length-drop at line) in
      let long : length (field (fields_from line at) 0) ≡ r - at =
      ap (λ (fs : List (List ℕ)). length (field fs 0)) f.first ∙ length-take-le (r - at) (drop at line) there in
      yes_cond at (le-leb at (length line) in-line) ∙ omega (arith, long, f.least)

  pub after_past : (at : ℕ) → length line < at → place_after line at ≡ at
  unfolding place_after
  after_past at h = no_cond _ (lt-leb at (length line) h)

  -- every field ends somewhere: at a blank, or with the line
  pub ends : (k at : ℕ) → at + k ≡ length line → (r : ℕ) × FieldAt line at r × (r < length line → get_or line r 0 ≡ 32)
  ends zero at e = (at, at_end at (omega arith), λ h. absurd (omega arith))
  ends (suc k) at e = elim (ℕ_discrete (get_or line at 0) 32) [
    | yes b ↦ (at, at_blank at (omega arith) b, λ h. b)
    | no d ↦ let (r, f, b) = ends k (at + 1) (omega arith) in (r, at_other at r (omega arith) d f, b)
  ]

  -- so what stands from there on is the rest
  pub after_rest : (at : ℕ) → fields_from line (place_after line at) ≡ drop 1 (fields_from line at)
  after_rest at = elim (dec_le at (length line)) [
    | yes h ↦
        let (r, f, b) = ends (length line - at) at (omega arith) in
        ap (fields_from line) (after_field at r f) ∙ sym (ap (drop 1) f.first)
    | no h ↦
        let e : fields_from line at ≡ [] = from_past at (omega arith) in
        ap (fields_from line) (after_past at (omega arith)) ∙ e ∙ sym (ap (drop 1) e)
  ]

pub ruleset places = (from_past, after_field, after_past)
