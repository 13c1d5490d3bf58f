-- Words copied over others, put in between them, and taken out.
-- Assumes nothing.
use Rattle.std.specs.Prelude.{ℕ, ◌+◌, ◌-◌, List, ◌++◌, length, take, drop, replicate}

-- ws with new words put in at a place: those from there to end move up, over what lay behind them
unfoldable pub inserted : List ℕ → ℕ → ℕ → List ℕ → List ℕ
inserted ws at end new = take at ws ++ (new ++ (take (end - at) (drop at ws) ++ drop (end + length new) ws))

-- ws without so many words at a place: those behind them, to end, move down, and zeros come in behind
unfoldable pub removed : List ℕ → ℕ → ℕ → ℕ → List ℕ
removed ws at end k = take at ws ++ (take (end - (at + k)) (drop (at + k) ws) ++ (replicate k 0 ++ drop end ws))
