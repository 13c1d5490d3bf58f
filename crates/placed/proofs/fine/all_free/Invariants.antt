-- No word from the place to w is marked.
-- Assumes nothing.
use Rattle.units.proofs.Common.{◌≡◌, false, ℕ, ◌≤◌, ◌-◌, ◌<◌, get_or}
use Rattle.placed.proofs.fine.all_free.Given as goal

abbrev pub invariant-loop-w : goal.invariant-loop-w
invariant-loop-w l = (l.place ≤ l.w) × (l.w ≤ l.end) × ((v : ℕ) → l.place ≤ v → v < l.w → get_or l.used v false ≡ false)

abbrev pub decreases-loop-w : goal.decreases-loop-w
decreases-loop-w l = l.end - l.w
