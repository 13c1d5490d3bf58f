-- A call that is refused by what it says is refused with a number of at most 11.
-- Assumes nothing.
use Rattle.units.proofs.Common.{◌≡◌, refl, true, false, Bool, cond, ◌&&◌, ℕ, ◌≤◌, arith, eqb, leb, leb-true, and_true}
use Rattle.meaning.proofs.Terms.{Doubts, ◌when◌, ◌or_else◌, refusal, full, frame_doubts, who_doubts, limit_doubts, unused_doubts, row_doubts}
use Rattle.meaning.proofs.Terms.{command_doubts, Call, command, check, arrive, leave, collect, acknowledge, asked, judged}
use Rattle.meaning.specs.Refusal.{◌at◌when◌}

-- no number of a chain is above k
unfoldable most : ℕ → Doubts → Bool
most k (n when t) = leb n k
most k (n at j when t) = leb n k
most k (ds or_else es) = most k ds && most k es

either : {k x y : ℕ} (t : Bool) → x ≤ k → y ≤ k → cond t x y ≤ k
either true p q = p
either false p q = q

refusal_most : (k : ℕ) (ds : Doubts) → most k ds ≡ true → refusal ds ≤ k
unfolding most refusal
refusal_most k (n when t) h = either t (leb-true n k h) (omega arith)
refusal_most k (n at j when t) h = either t (leb-true n k h) (omega arith)
refusal_most k (ds or_else es) h =
    let p = and_true (most k ds) (most k es) h in
    either (eqb (refusal ds) 0) (refusal_most k es p.1) (refusal_most k ds p.0)

pub judged_most : (c : Call) → judged full c ≤ 11
unfolding judged asked most command_doubts frame_doubts row_doubts who_doubts limit_doubts unused_doubts
judged_most (command t f ws) = refusal_most 11 (asked full (command t f ws)) refl
judged_most (check n t clock) = refusal_most 11 (asked full (check n t clock)) refl
judged_most (arrive n id s) = refusal_most 11 (asked full (arrive n id s)) refl
judged_most (leave n) = refusal_most 11 (asked full (leave n)) refl
judged_most (collect f n k) = refusal_most 11 (asked full (collect f n k)) refl
judged_most (acknowledge n h) = refusal_most 11 (asked full (acknowledge n h)) refl
