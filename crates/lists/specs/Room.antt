-- Document 01, "Room", of the held words of all nodes as one list; and where answers begin, by the same list.
-- Assumes nothing.
use Rattle.std.specs.Prelude.{ℕ, ◌+◌, Bool, ◌&&◌, List, [], ◌∷◌, leb, get_or, take, set}
use Rattle.meaning.specs.Bench.{Bench}
use Rattle.machine.specs.Consistent.{charges_of}

-- an answer of so many words has room at the node of index i, where the nodes hold hs
unfoldable pub room_for : Bench → List ℕ → ℕ → ℕ → Bool
room_for b hs i words =
    leb (get_or hs i 0 + words) b.limit && leb (charges_of b.share (set hs i (get_or hs i 0 + words))) b.store

-- ---- the answers of a node begin behind the words of the nodes before it
unfoldable pub sum : List ℕ → ℕ
sum [] = 0
sum (h ∷ hs) = h + sum hs

abbrev pub place_of : List ℕ → ℕ → ℕ
place_of hs i = sum (take i hs)
