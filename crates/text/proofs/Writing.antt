-- Laws of writing: one text after another, how long a text is, and the turns of the loops.
-- Assumes nothing.
use Rattle.units.proofs.Common.{sym, ◌∙◌, ◌≡◌, refl, ap, subst, true, cond, List, [], ◌∷◌, ◌++◌, ℕ, ◌≤◌, ◌-◌, ◌+◌, ◌<◌, suc, ◌*◌, zero}
use Rattle.units.proofs.Common.{◌%◌, ◌^◌, ◌/◌, add-one, ℕ_discrete, arith, ltb, length, drop, get_or, take, set, length-append, length-take}
use Rattle.units.proofs.Common.{sets, append-nil, append_assoc, drop-drop, slice, take_at, drop_at, drop-cons, sets-eq, le-ltb, lt-ltb}
use Rattle.units.proofs.Common.{yes_cond, no_cond}
use native.Mathlib.Nat.{pow-succ', mod-eq_of_lt, add-mul-mod_self_left}
use lib.Seq.{length-sets, set-set}
use borrow.Rule.Slice.PartMut.{put_mid}
use Rattle.units.proofs.PackingLaws.{sets_append}
use Rattle.text.specs.Text.{Put, digit_of, hex_of, byte_hex_of, bytes_hex_of, decimal_within, decimal_of, words_line}

-- what is still to be written after a text gives the whole
put_rest : {o o₁ t : List ℕ} {at r : ℕ} (rest : List ℕ) → Put o at t o₁ r → sets o₁ r rest ≡ sets o at (t ++ rest)
put_rest {o} {o₁} {t} {at} {r} rest p =
    ap (λ (x : List ℕ). sets x r rest) p.wrote
    ∙ ap (λ (k : ℕ). sets (sets o at t) k rest) p.next
    ∙ sym (sets_append o at t rest)

-- a turn of a loop: after a text the rest is still to be written
pub put_turn : {o o₁ t whole : List ℕ} {to r : ℕ} (left rest : List ℕ) → Put o to t o₁ r → left ≡ t ++ rest → sets o to left ≡ whole → sets
    o₁ r rest ≡ whole
put_turn {o} {o₁} {t} {whole} {to} left rest p e w = put_rest rest p ∙ ap (sets o to) (sym e) ∙ w

-- the loop's end: nothing is left
pub put_done : {o₀ o whole : List ℕ} {at to : ℕ} (left : List ℕ) → to ≡ at + length whole → left ≡ [] → sets o to left ≡ sets o₀ at whole →
    Put o₀ at whole o to
put_done {o₀} {o} {whole} {at} {to} left n e w = record { next = n; wrote = sym (ap (sets o to) e) ∙ w }

-- one text after another
pub put_then : {o o₁ o₂ t u : List ℕ} {at r₁ r₂ : ℕ} → Put o at t o₁ r₁ → Put o₁ r₁ u o₂ r₂ → Put o at (t ++ u) o₂ r₂
put_then {o} {o₁} {o₂} {t} {u} p q = record {
  next = q.next ∙ omega (arith, p.next, length-append t u);
  wrote = q.wrote ∙ put_rest u p;
}

pub put_length : {o n t : List ℕ} {at r : ℕ} → Put o at t n r → length n ≡ length o
put_length p = ap length p.wrote ∙ simp length-sets

-- what was written stands there
pub put_there : {old text new : List ℕ} {at r : ℕ} → Put old at text new r → at + length text ≤ length old → slice at r new ≡ text
put_there {old} {text} {new} {at} {r} p h =
    let front : length (take at old) ≡ at = simp length-take (omega (arith, h)) in
    let t : take r new ≡ take at old ++ text =
    ap (take r) (p.wrote ∙ sets-eq text old at h)
    ∙ take_at (take at old ++ text) (drop (at + length text) old) r (simp length-append (omega (arith, front, p.next))) in
    ap (drop at) t ∙ drop_at (take at old) text at front

-- the same text by another name
pub put_as : {o n t u : List ℕ} {at r : ℕ} → t ≡ u → Put o at t n r → Put o at u n r
put_as {o} {n} {t} {u} {at} {r} e p = subst (λ (x : List ℕ). Put o at x n r) e p

-- a digit without a branch: the quotient is 1 from 10 on, and 0 below
pub digit_is : (d : ℕ) → d < 16 → 48 + d + (d + 6) / 16 * 7 ≡ digit_of d
digit_is d h =
    elim (ℕ_discrete ((d + 6) / 16) 0) [
      | yes e ↦ let n : 48 + d + (d + 6) / 16 * 7 ≡ 48 + d = omega arith in n ∙ sym (yes_cond _ (lt-ltb d 10 (omega arith)))
      | no e ↦ let n : 48 + d + (d + 6) / 16 * 7 ≡ 55 + d = omega arith in n ∙ sym (no_cond _ (le-ltb d 10 (omega arith)))
    ]

pub digit_small : (d : ℕ) → d < 16 → digit_of d < 256
digit_small d h = rw (← (digit_is d h)) (omega arith)

-- the lowest of the numbers below m that one number holds
pub lowest : (m : ℕ) {n k : ℕ} (h : ℕ) → n ≡ k + m * h → k < m → n % m ≡ k
lowest m {n} {k} h e l = ap (λ (x : ℕ). x % m) e ∙ add-mul-mod_self_left k m h ∙ mod-eq_of_lt l

-- what is copied into a part of an output is written there
pub copied : (a k : ℕ) (x : List ℕ) {ys text : List ℕ} → ys ≡ text → k ≡ length text → a + k ≤ length x → put_mid a k x ys ≡ sets x a text
copied a k x {ys} {text} e n h =
    rw (e, n, drop-drop (length text) a x, ← append_assoc) (sym (sets-eq text x a (omega arith)))

-- lengths
pub length_hex : (w : ℕ) → length (hex_of w) ≡ 4
unfolding hex_of
length_hex w = refl

pub length_byte_hex : (b : ℕ) → length (byte_hex_of b) ≡ 2
unfolding byte_hex_of
length_byte_hex b = refl

pub length_bytes : (bs : List ℕ) → length (bytes_hex_of bs) ≡ 2 * length bs
unfolding bytes_hex_of
length_bytes [] = refl
length_bytes (b ∷ bs) = simp length-append (omega (arith, length_byte_hex b, length_bytes bs))

pub length_words : (ws : List ℕ) → length (words_line ws) ≡ 5 * length ws
unfolding words_line
length_words [] = refl
length_words (w ∷ ws) = simp length-append (omega (arith, length_hex w, length_words ws))

-- decimals: one digit; and the digits before the last, then the last
pub decimal_one : (n : ℕ) → n < 10 → decimal_of n ≡ (48 + n) ∷ []
unfolding decimal_of decimal_within
decimal_one zero h = refl
decimal_one (suc n) h = yes_cond _ (lt-ltb (suc n) 10 h)

-- a bound that suffices says no more than another
within_enough : (j k n : ℕ) → n ≤ j → n ≤ k → decimal_within j n ≡ decimal_within k n
unfolding decimal_within
within_enough zero zero n h g = refl
within_enough zero (suc k) n h g = sym (yes_cond _ (lt-ltb n 10 (omega arith)))
within_enough (suc j) zero n h g = yes_cond _ (lt-ltb n 10 (omega arith))
within_enough (suc j) (suc k) n h g =
    elim (ℕ_discrete (n / 10) 0) [
      | yes e ↦ let l : ltb n 10 ≡ true = lt-ltb n 10 (omega arith) in yes_cond _ l ∙ sym (yes_cond _ l)
      | no d ↦
          ap (λ (x : List ℕ). cond (ltb n 10) ((48 + n) ∷ []) (x ++ ((48 + n % 10) ∷ [])))
          (within_enough j k (n / 10) (omega arith) (omega arith))
    ]

pub decimal_more : (n : ℕ) → 10 ≤ n → decimal_of n ≡ decimal_of (n / 10) ++ ((48 + n % 10) ∷ [])
unfolding decimal_of decimal_within
decimal_more zero h = absurd (omega arith)
decimal_more (suc n) h =
    no_cond _ (le-ltb (suc n) 10 h)
    ∙ ap (λ (x : List ℕ). x ++ ((48 + suc n % 10) ∷ [])) (within_enough n (suc n / 10) (suc n / 10) (omega arith) (omega arith))

-- a number below 10 ^ (k + 1) has at most k + 1 digits
pub decimal_short : (k n : ℕ) → n < 10 ^ suc k → length (decimal_of n) ≤ suc k
decimal_short zero n h = omega (arith, ap length (decimal_one n (omega arith)))
decimal_short (suc k) n h =
    elim (ℕ_discrete (n / 10) 0) [
      | yes e ↦ omega (arith, ap length (decimal_one n (omega arith)))
      | no d ↦
          let s = decimal_short k (n / 10) (omega (arith, pow-succ' 10 (suc k))) in
          rw (decimal_more n (omega arith)) (simp length-append (omega arith))
    ]

-- any that a word says has at most five
pub decimal_five : (n : ℕ) → n < 10 ^ 5 → length (decimal_of n) ≤ 5
decimal_five n h = decimal_short 4 n h

-- the turns of the loops: the text of what is left is that of its first element, then that of the rest
pub text_next : (xs : List ℕ) (i : ℕ) → i < length xs → drop i xs ≡ get_or xs i 0 ∷ drop (i + 1) xs
text_next xs i h = rw (add-one i) (drop-cons xs i 0 h)

-- the text of one byte more
pub bytes_more : (bs : List ℕ) (i : ℕ) → i < length bs
    → bytes_hex_of (take (i + 1) bs) ≡ bytes_hex_of (take i bs) ++ byte_hex_of (get_or bs i 0)
unfolding bytes_hex_of
bytes_more [] i h = absurd (omega arith)
bytes_more (b ∷ bs) zero h = append-nil (byte_hex_of b)
bytes_more (b ∷ bs) (suc i) h =
    let more = rw (add-one i) at (bytes_more bs i (omega arith)) in
    rw (add-one (suc i), append_assoc) (ap (λ (x : List ℕ). byte_hex_of b ++ x) more)

-- words, a blank after each: a line of words before its last byte is set
unfoldable pub spaced : List ℕ → List ℕ
spaced [] = []
spaced (w ∷ ws) = (hex_of w ++ (32 ∷ [])) ++ spaced ws

pub length_spaced : (ws : List ℕ) → length (spaced ws) ≡ 5 * length ws
unfolding spaced
length_spaced [] = refl
length_spaced (w ∷ ws) = simp length-append (omega (arith, length_hex w, length_spaced ws))

pub words_more : (ws : List ℕ) (i : ℕ) → i < length ws
    → spaced (take (i + 1) ws) ≡ spaced (take i ws) ++ (hex_of (get_or ws i 0) ++ (32 ∷ []))
unfolding spaced hex_of
words_more [] i h = absurd (omega arith)
words_more (w ∷ ws) zero h = append-nil (hex_of w ++ (32 ∷ []))
words_more (w ∷ ws) (suc i) h =
    let more = rw (add-one i) at (words_more ws i (omega arith)) in
    rw (add-one (suc i), append_assoc) (ap (λ (x : List ℕ). (hex_of w ++ (32 ∷ [])) ++ x) more)

line_fed : (ws o : List ℕ) (at k : ℕ) → 0 < length ws → k + 1 ≡ at + 5 * length ws
    → set (sets o at (spaced ws)) k 10 ≡ sets o at (words_line ws)
unfolding spaced hex_of words_line
line_fed [] o at k h e = absurd (omega arith)
line_fed (w ∷ []) o at k h e =
    let p : k ≡ suc (suc (suc (suc at))) = omega arith in
    rw (p, set-set)
line_fed (w ∷ v ∷ ws) o at k h e =
    line_fed (v ∷ ws) (sets o at (hex_of w ++ (32 ∷ []))) (suc (suc (suc (suc (suc at))))) k (omega arith) (omega arith)

-- a line feed in the last blank's place
pub words_done : {o₀ o : List ℕ} {at to : ℕ} (ws : List ℕ) → 0 < length ws
    → Put o₀ at (spaced ws) o to → Put o₀ at (words_line ws) (set o (to - 1) 10) to
words_done {o₀} {o} {at} {to} ws h p =
    let n = length_spaced ws in record {
      next = omega (arith, p.next, length_words ws);
      wrote = ap (λ (x : List ℕ). set x (to - 1) 10) p.wrote ∙ line_fed ws o₀ at (to - 1) h (omega (arith, p.next));
    }

-- of no words there is nothing to write
pub no_words : (ws : List ℕ) → length ws ≡ 0 → spaced ws ≡ words_line ws
unfolding spaced words_line
no_words [] e = refl
no_words (w ∷ ws) e = absurd (omega arith)
