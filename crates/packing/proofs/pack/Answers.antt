-- A turn puts one word more. There is no more room, or no byte more, or the odd byte's word joins them; `filled` and `put_last` say that
-- this is all.
-- Assumes nothing.
use Rattle.units.proofs.Common.{sym, ◌∙◌, ◌≡◌, refl, ap, ℕ, ◌+◌, ◌<◌, ◌*◌, ◌/◌, ◌≤◌, suc, zero, List, [], ◌∷◌, arith, length, get_or, min}
use Rattle.units.proofs.Common.{get_or-drop, ltb-true, ltb-false, word}
use Rattle.std.specs.Int.{w16, from_be_bytes}
use Rattle.std.specs.Simd.{first_chunks}
use Rattle.units.specs.Packing.{packed}
use Rattle.units.proofs.PackingLaws.{length_packed, odd_packed, put_next, filled, put_last}
use Rattle.packing.proofs.pack.Goals as goal
use Rattle.packing.proofs.pack.Goals.{else-odd-lt1-via-then-odd-lt1, else-odd-lt1-via-else-odd-lt1+else-odd-lt2}
use Rattle.packing.proofs.pack.Goals.{else-odd-lt1-via-in-len1+else-n-out}

-- a pair of bytes is a word
pair_at : (bs : List ℕ) (k i : ℕ) → i < k → k + k ≤ length bs
    → from_be_bytes w16 (get_or (first_chunks 2 k bs) i []) ≡ get_or (packed bs) i 0
pair_at bs zero i h n = absurd (omega arith)
pair_at [] (suc k) i h n = absurd (omega arith)
pair_at (x ∷ []) (suc k) i h n = absurd (omega arith)
pair_at (x ∷ y ∷ bs) (suc k) zero h n = refl
pair_at (x ∷ y ∷ bs) (suc k) (suc i) h n = pair_at bs k i (omega arith) (omega arith)

-- whatever the code writes for the pair's place
pair_by : {x : ℕ} {ps : List (List ℕ)} (bs : List ℕ) (k j i : ℕ) → x ≡ from_be_bytes w16 (get_or ps j [])
    → ps ≡ first_chunks 2 k bs → j ≡ i → i < k → k + k ≤ length bs → x ≡ get_or (packed bs) i 0
pair_by bs k j i w f e h n = w ∙ rw (f, e) (pair_at bs k i h n)

pub loop-i-preserved : goal.loop-i-preserved
loop-i-preserved c =
    let a = c.args in
    let i = c.loop-i.i in
    let e = length_packed a.bytes.now in
    put_next a.out.now (packed a.bytes.now) i (i + 1) c.loop-i.invariant
    (pair_by a.bytes.now (length a.bytes.now / 2) _ i c.from_be_bytes.ensures c.as_chunks.ensures.front (omega arith) (omega arith)
    (omega arith)) refl (omega arith) (omega arith)

-- the odd byte's word
pub returns-then-n-out : goal.returns-then-n-out
returns-then-n-out c =
    let a = c.args in
    let bs = a.bytes.now in
    let i = c.loop-i.i in
    let q : c.min-n.result ≡ i = omega arith in
    let b : get_or c.as_chunks.result.1.now 0 0 ≡ get_or bs (i + i) 0 =
    ap (λ l. get_or l 0 0) c.as_chunks.ensures.back ∙ get_or-drop (length bs / 2 * 2) bs 0 0
    ∙ ap (λ k. get_or bs k 0) (omega arith) in
    let e = length_packed bs in
    rw q (put_last (packed bs) a.out.now i c.loop-i.invariant
    (c.from_be_bytes-2.ensures ∙ ap (λ x. word x 0) b ∙ sym (odd_packed bs i (omega arith))) (omega arith))

-- no more room, or no byte more
pub returns-else-odd-lt1 : goal.returns-else-odd-lt1
returns-else-odd-lt1 c =
    let a = c.args in
    let bs = a.bytes.now in
    let e = length_packed bs in
    let all : c.loop-i.i ≡ min (length (packed bs)) (length a.out.now) =
    elim c.else-odd-lt1.branch [
      | else-odd-lt1-via-then-odd-lt1 w ↦ omega (arith, ltb-true)
      | else-odd-lt1-via-else-odd-lt1+else-odd-lt2 w ↦ omega (arith, ltb-false)
      | else-odd-lt1-via-in-len1+else-n-out w ↦ omega arith
    ] in
    c.loop-i.invariant ∙ filled (packed bs) a.out.now c.loop-i.i all
