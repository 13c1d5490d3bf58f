-- The listing, one command further, broken or at its end.
-- Assumes nothing.
use Rattle.units.proofs.Common.{◌∙◌, ◌≡◌, ap, true, false, List, [], ◌∷◌, ◌++◌, ℕ, ◌+◌, ◌<◌, suc, ◌*◌, zero, arith, length, drop}
use Rattle.units.proofs.Common.{drop-drop, eq-eqb, ne_eqb, yes_cond, no_cond}
use Rattle.meaning.proofs.Terms.{Bench, Gateway}
use Rattle.listing.specs.Records.{command_whole, command_length, command_size}
use Rattle.listing.specs.Lines.{broken_line, flat}
use Rattle.listing.specs.Listing.{turned, command_lines}

-- a line, then the others
pub flat_more : {l : List ℕ} {ls ms : List (List ℕ)} → l ∷ ms ≡ ls → l ++ flat ms ≡ flat ls
unfolding flat
flat_more e = ap flat e

module _ (b : Bench) (g : Gateway) (file : List ℕ) (at : ℕ) where
  pub command_on : (k then z : ℕ) → k ≡ then + 1 → command_whole (drop at file) ≡ true → z ≡ 2 * command_length (drop at file)
      → command_lines b k g (drop at file)
      ≡ (turned b g (drop at file)).line ∷ command_lines b then (turned b g (drop at file)).after (drop (at + 5 + z) file)
  unfolding command_lines
  command_on k then z h w e =
      let t = turned b g (drop at file) in
      let a : at + command_size (drop at file) ≡ at + 5 + z = omega (arith, e) in
      let d : k ≡ suc then = omega arith in
      rw d
      (yes_cond (broken_line ∷ []) w
      ∙ ap (λ (z : List ℕ). t.line ∷ command_lines b then t.after z)
      (drop-drop (command_size (drop at file)) at file ∙ ap (λ (z : ℕ). drop z file) a))

module _ (b : Bench) (g : Gateway) (bs : List ℕ) where
  pub command_off : (k : ℕ) → 0 < k → command_whole bs ≡ false → command_lines b k g bs ≡ broken_line ∷ []
  unfolding command_lines
  command_off zero h w = absurd (omega arith)
  command_off (suc k) h w = no_cond _ w

  pub commands_end : (k : ℕ) → k ≡ 0 → length bs ≡ 0 → command_lines b k g bs ≡ []
  unfolding command_lines
  commands_end zero h e = yes_cond (broken_line ∷ []) (eq-eqb (length bs) 0 e)
  commands_end (suc k) h e = absurd (omega (arith, h))

  pub commands_left : (k : ℕ) → k ≡ 0 → 0 < length bs → command_lines b k g bs ≡ broken_line ∷ []
  unfolding command_lines
  commands_left zero h e = no_cond [] (ne_eqb (length bs) 0 (λ q. omega (arith, e, q)))
  commands_left (suc k) h e = absurd (omega (arith, h))
