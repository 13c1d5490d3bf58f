-- A list that can be walked: each of its answers is in order as one of the node at an index. And the words that lists count.
-- Assumes nothing.
use Rattle.std.specs.Prelude.{ℕ, ◌<◌, ◌≡◌, true, List, map, get_or}
use Rattle.meaning.specs.Bench.{Bench}
use Rattle.placed.specs.Machine.{places_of}
use Rattle.placed.specs.Consistent.{ok_answer}
use Rattle.placed.specs.declared.Pending.{Pending}
use Rattle.placed.specs.declared.Node.{Node}

abbrev pub InStore : Bench → List ℕ → ℕ → Pending → Type 0
InStore b store i l = (k : ℕ) → k < l.count → ok_answer b store i (get_or (places_of store l) k 0) ≡ true

-- the held words of each node, as its list counts them
abbrev pub words_of : List Node → List ℕ
words_of ns = map (λ n. n.list.words.0) ns
