-- The layout as one walk through the store, which the code takes: law `line-is` says that it is the definition of `Consistent`.
-- Assumes nothing.
use Rattle.std.specs.Prelude.{ℕ, suc, Bool, false, ◌&&◌, List, [], ◌∷◌, eqb}
use Rattle.units.specs.Count.{every}
use Rattle.meaning.specs.Bench.{Bench}
use Rattle.meaning.specs.Response.{well_formed}
use Rattle.meaning.specs.Room.{added}
use Rattle.machine.specs.Layout.{front, cuts, past}
use Rattle.machine.specs.Consistent.{node_at, zeros}
use Rattle.state.specs.declared.node.Node.{Node}

-- a response of the node at index i stands at the front of the words
unfoldable pub ok_answer : Bench → ℕ → List ℕ → Bool
ok_answer b i ws = well_formed b (node_at b i) (front ws)

-- from words on, with the nodes whose first has index i and the words that each of them holds
unfoldable pub in_line : Bench → ℕ → List ℕ → List Node → List ℕ → Bool
in_line b i ws [] [] = zeros ws
in_line b i ws [] (h ∷ hs) = false
in_line b i ws (n ∷ ns) [] = false
in_line b i ws (n ∷ ns) (h ∷ hs) =
    every (well_formed b (node_at b i)) (cuts n.answers ws)
    && (eqb h (added (cuts n.answers ws)) && in_line b (suc i) (past n.answers ws) ns hs)
