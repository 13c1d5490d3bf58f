-- The line of an answer that is handed over: how it begins, and its words, with word 00 in front where the form has it.
-- Assumes nothing.
use Rattle.units.proofs.Common.{sym, ◌∙◌, ◌≡◌, refl, ap, true, false, List, [], ◌∷◌, ◌++◌, ℕ, ◌≤◌, ◌+◌, ◌<◌, ◌^◌, arith, length, word}
use Rattle.units.proofs.Common.{yes_cond, no_cond}
use Rattle.units.specs.declared.Form.{Form}
use Rattle.meaning.proofs.Terms.{bears, shown}
use Rattle.text.specs.Text.{ascii, Put, hex_of, decimal_of, words_line}
use Rattle.text.proofs.Writing.{put_then, put_length, put_as, decimal_short}
use Rattle.dialog.specs.Dialog.{collected_line}

-- what stands before the words
pub record Begun (number : ℕ) (old : List ℕ) (at : ℕ) (new : List ℕ) (r : ℕ) : Type 0 where
  pub near : r ≤ at + 16
  pub long : length new ≡ length old
  pub goes : {new' : List ℕ} {r' : ℕ} (ws : List ℕ) → Put new r (words_line ws) new' r' → Put old at (collected_line number ws) new' r'

pub begun : {o o₁ o₂ o₃ : List ℕ} {at r₁ r₂ r₃ number : ℕ} → number < 10 ^ 5 → Put o at (ascii "collected ") o₁ r₁
    → Put o₁ r₁ (decimal_of number) o₂ r₂ → Put o₂ r₂ (32 ∷ []) o₃ r₃ → Begun number o at o₃ r₃
unfolding collected_line
begun {number = number} h p q s = record {
  near = omega (arith, decimal_short 4 number h, p.next, q.next, s.next);
  long = put_length s ∙ put_length q ∙ put_length p;
  goes = λ ws w. put_then p (put_then q (put_then s w));
}

-- word 00 is a word before others
headed : (h : ℕ) (ws : List ℕ) → 1 ≤ length ws → words_line (h ∷ ws) ≡ hex_of h ++ (32 ∷ words_line ws)
unfolding words_line
headed h [] l = absurd (omega arith)
headed h (w ∷ ws) l = refl

module _ {number at r : ℕ} {old new : List ℕ} (b : Begun number old at new r) (f : Form) (n : ℕ) (ws : List ℕ) where
  pub collected_headed : bears f n ≡ true → {h : ℕ} → h ≡ word 0xFF n → 1 ≤ length ws → {n₁ n₂ n₃ : List ℕ} {r₁ r₂ r₃ : ℕ}
      → Put new r (hex_of h) n₁ r₁ → Put n₁ r₁ (32 ∷ []) n₂ r₂ → Put n₂ r₂ (words_line ws) n₃ r₃
      → Put old at (collected_line number (shown f n ws)) n₃ r₃
  unfolding shown
  collected_headed e {h} w l p q s =
      b.goes (shown f n ws)
      (put_as (sym (headed h ws l) ∙ ap (λ (k : ℕ). words_line (k ∷ ws)) w ∙ ap words_line (sym (yes_cond ws e))) (put_then p (put_then q s)))

  pub collected_bare : bears f n ≡ false → {n₁ : List ℕ} {r₁ : ℕ} → Put new r (words_line ws) n₁ r₁
      → Put old at (collected_line number (shown f n ws)) n₁ r₁
  unfolding shown
  collected_bare e p = b.goes (shown f n ws) (put_as (ap words_line (sym (no_cond (word 0xFF n ∷ ws) e))) p)
