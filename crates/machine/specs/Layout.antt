-- Request E8: "each node's answers together: node 1's from the front, oldest first, then node 2's, to 16, then 32's, with no gaps"; "Words
-- after the last answer are 0".
-- Assumes nothing.
use Rattle.std.specs.Prelude.{ℕ, zero, suc, ◌-◌, List, [], ◌∷◌, ◌++◌, length, get_or, take, drop, replicate}
use Rattle.meaning.specs.Gateway.{Node}

-- ---- answers laid: those of a node oldest first, each directly behind the one before, and the nodes' in their order
unfoldable pub laid : List (List ℕ) → List ℕ
laid [] = []
laid (a ∷ as') = a ++ laid as'

unfoldable pub all_laid : List Node → List ℕ
all_laid [] = []
all_laid (m ∷ ms) = laid m.pending ++ all_laid ms

-- the store of so many words that holds the answers of these nodes: there is one
unfoldable pub store_of : ℕ → List Node → List ℕ
store_of size ms = all_laid ms ++ replicate (size - length (all_laid ms)) 0

-- ---- and read from the front: an answer has as many words as its first word, its Overall Length, says
abbrev pub front : List ℕ → List ℕ
front ws = take (get_or ws 0 0) ws

abbrev pub behind : List ℕ → List ℕ
behind ws = drop (get_or ws 0 0) ws

-- so many answers, and the words behind them
unfoldable pub cuts : ℕ → List ℕ → List (List ℕ)
cuts zero ws = []
cuts (suc k) ws = front ws ∷ cuts k (behind ws)

unfoldable pub past : ℕ → List ℕ → List ℕ
past zero ws = ws
past (suc k) ws = past k (behind ws)
