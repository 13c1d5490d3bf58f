-- Document 01, "Room" and "Refusal numbers", for a state with places: 1, "store or plaque memory of another length"; 2, "state not
-- consistent". Where the answers lie is judged here; readers, name and bounds as without places.
-- Assumes nothing.
use Rattle.std.specs.Prelude.{ℕ, suc, ◌+◌, max, min, Bool, true, not, ◌&&◌, cond, List, [], ◌∷◌, ◌++◌, map, leb, ltb, eqb, length, get_or}
use Rattle.units.specs.Count.{every}
use Rattle.meaning.specs.Refusal.{Doubts, ◌when◌, ◌or_else◌, refusal}
use Rattle.meaning.specs.Bench.{Bench, node_count, memory_size}
use Rattle.meaning.specs.Response.{well_formed}
use Rattle.meaning.specs.Room.{added}
use Rattle.machine.specs.Consistent.{node_at, bounded, reader_ok, name_ok}
use Rattle.placed.specs.Machine.{Machine, answer_at, places_of, pending_of}
use Rattle.placed.specs.declared.Node.{Node}
use Rattle.placed.specs.declared.State.{State}

-- ---- "every pending answer a well-formed register-form response of its node inside the store"
unfoldable pub ok_answer : Bench → List ℕ → ℕ → ℕ → Bool
ok_answer b store i p = leb (p + get_or store p 0) (length store) && well_formed b (node_at b i) (answer_at store p)

-- ---- "no two sharing a word"
unfoldable pub overlap : List ℕ → ℕ → ℕ → Bool
overlap store p q = ltb (max p q) (min (p + get_or store p 0) (q + get_or store q 0))

-- the answer at p shares no word with any of those at qs
unfoldable pub clear_of : List ℕ → List ℕ → ℕ → Bool
clear_of store [] p = true
clear_of store (q ∷ qs) p = not (overlap store q p) && clear_of store qs p

-- the pending answers, as index of the node and place, of nodes whose first has index i
unfoldable pub spots : List ℕ → ℕ → List Node → List (ℕ × ℕ)
spots store i [] = []
spots store i (n ∷ ns) = map (λ p. (i, p)) (places_of store n.list) ++ spots store (suc i) ns

-- each is in order and shares no word with an earlier one; `past` are the places of these, the last first
unfoldable pub in_order : Bench → List ℕ → List ℕ → List (ℕ × ℕ) → Bool
in_order b store past [] = true
in_order b store past (x ∷ xs) =
    ok_answer b store x.0 x.1 && (clear_of store past x.1 && in_order b store (x.1 ∷ past) xs)

unfoldable pub fine_lists : Bench → List ℕ → List Node → Bool
fine_lists b store ns = in_order b store [] (spots store 0 ns)

-- ---- "both bounds met"
-- the held words of each node
unfoldable pub helds_of : List ℕ → List Node → List ℕ
helds_of store ns = map (λ n. added (pending_of store n.list)) ns

-- a node's count of them is right
unfoldable pub count_right : List ℕ → Node → Bool
count_right store n = eqb n.list.words.0 (added (pending_of store n.list))

-- ---- "0 in each field that has no meaning now": the place of a list that has no answer
unfoldable pub list_clear : Node → Bool
list_clear n = cond (eqb n.list.count 0) (eqb n.list.place 0) true

unfoldable pub lists_ok : Bench → List ℕ → List Node → Bool
lists_ok b store ns = fine_lists b store ns && (every (count_right store) ns && (bounded b (helds_of store ns) && every list_clear ns))

-- ---- "every other field within the limits here"
unfoldable pub node_ok : Node → Bool
node_ok n = leb 1 n.handover

-- the arrays have the lengths that the code's types give them
unfoldable pub arrays : Bench → State → Bool
arrays b s = eqb (length s.name.bytes) 64 && (eqb (length s.readers) b.readers && eqb (length s.nodes) (node_count b))

unfoldable pub consistent : Bench → Machine → Bool
consistent b m =
    lists_ok b m.store m.state.nodes
    && (every node_ok m.state.nodes
    && (every (reader_ok b) m.state.readers && (name_ok m.state.name && arrays b m.state)))

-- ---- refusals 1 and 2
unfoldable pub lengths : Bench → Machine → Bool
lengths b m = eqb (length m.store) b.store && eqb (length m.memory) (memory_size b)

unfoldable pub lent : Bench → Machine → Doubts
lent b m = 1 when not (lengths b m) or_else 2 when not (consistent b m)

-- the refusal by what is lent, 0 for none
unfoldable pub unfit : Bench → Machine → ℕ
unfit b m = refusal (lent b m)
