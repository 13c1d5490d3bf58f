-- The array has as many bytes as it was made with, by the law of `replicate` and not by counting them.
-- Assumes nothing.
use Rattle.units.proofs.Common.{sym, ◌≡◌, List, ℕ, ◌≤◌, arith, length, replicate, length-replicate}
use Rattle.console.proofs.play.Goals as goal

most : (xs : List ℕ) (n : ℕ) → length xs ≡ n → n ≤ length xs
most xs n e = omega (arith, e)

pub slice_bounds-play_into-end : goal.slice_bounds-play_into-end
slice_bounds-play_into-end c = sym (length-replicate {A = ℕ} 4456259 0)

pub play_into-requires : goal.play_into-requires
play_into-requires c = most (replicate 4456259 0) 4456259 (length-replicate {A = ℕ} 4456259 0)
