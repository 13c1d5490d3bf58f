-- The third demand's first half in its own numbers, those of the bench `full`: "no node holds over 804 words of pending answers, and none
-- is refused for room while its held words plus the new answer are at most 134." (Its second half is `strike_out`.)
-- Assumes nothing.
use Rattle.units.proofs.Common.{◌≡◌, List, ℕ, ◌≤◌, ◌+◌, ◌<◌, arith}
use Rattle.meaning.proofs.Terms.{full, word_no, Gateway, fresh, held, share_of, Call, Try, refused, tried, step, run}
use Rattle.demands.specs.Sound.{full_sound}
use Rattle.demands.proofs.Room.{bounds_run}
use Rattle.demands.proofs.Numbers.{never_within_run}

pub never_over : (memory : ℕ → List ℕ) (cs : List Call) (n : ℕ) → held ((run full (fresh memory) cs).nodes n) ≤ 804
never_over memory cs n = omega (arith, (bounds_run full full_sound memory cs).bounded n)

pub never_refused : (memory : ℕ → List ℕ) (cs : List Call) (c : Call) → (step full (run full (fresh memory) cs) c).said ≡ refused 13
    → (n : ℕ) × (h : Gateway) × (w : List ℕ) × (tried full (run full (fresh memory) cs) c ≡ Try.due n h w) ×
    (134 < held (h.nodes n) + word_no 1 w)
unfolding share_of
never_refused memory cs c e = let (n, h, w, q, r) = never_within_run full full_sound memory cs c e in (n, h, w, q, omega arith)
