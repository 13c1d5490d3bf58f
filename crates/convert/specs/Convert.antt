-- Request E8: "a converter each way keeps the meaning". The layout of before is that of `placed`, the one without gaps that of `state`.
-- Assumes nothing.
use Rattle.std.specs.Prelude.{ℕ, ◌+◌, ◌-◌, ◌≤◌, ◌<◌, cond, List, [], ◌∷◌, ◌++◌, map, eqb, length, take, drop, get_or, replicate}
use Rattle.units.specs.declared.Words.{Words}
use Rattle.machine.specs.Machine as N
use Rattle.state.specs.declared.node.Node.{Node}
use Rattle.state.specs.declared.State.{State}
use Rattle.placed.specs.State.{fresh_node}
use Rattle.placed.specs.Machine as P
use Rattle.placed.specs.declared.Node as O
use Rattle.placed.specs.declared.State as S

-- ---- to the layout without gaps: nodes lose their places ..
abbrev pub new_node : O.Node → Node
new_node n = record { instance = n.instance; handover = n.handover; answers = n.list.count }

abbrev pub held_by : O.Node → Words
held_by n = n.list.words

abbrev pub new_state : S.State → State
new_state s = record { name = s.name; readers = s.readers; nodes = map new_node s.nodes; held = map held_by s.nodes }

-- .. and the words of their lists lie one after the other, with zeros behind
unfoldable pub runs_of : List ℕ → List O.Node → List ℕ
runs_of store [] = []
runs_of store (n ∷ ns) = take n.list.words.0 (drop n.list.place store) ++ runs_of store ns

unfoldable pub new_store : List ℕ → List O.Node → List ℕ
new_store store ns = runs_of store ns ++ replicate (length store - length (runs_of store ns)) 0

abbrev pub new_machine : P.Machine → N.Machine
new_machine m = N.machine (new_state m.state) (new_store m.store m.state.nodes) m.memory

-- ---- to the layout with places: each list gets the place that the other layout gives, 0 where it is empty; the store stays. The nodes
-- and the words that they hold are given from a place of the store on
unfoldable pub old_nodes : ℕ → List Node → List Words → List O.Node
old_nodes to [] hs = []
old_nodes to (n ∷ ns) [] = []
old_nodes to (n ∷ ns) (h ∷ hs) =
    record {
      instance = n.instance;
      handover = n.handover;
      list = record { count = n.answers; place = cond (eqb n.answers 0) 0 to; words = h };
    }
    ∷ old_nodes (to + h.0) ns hs

abbrev pub old_state : State → S.State
old_state s = record { name = s.name; readers = s.readers; nodes = old_nodes 0 s.nodes s.held }

abbrev pub old_machine : N.Machine → P.Machine
old_machine m = P.machine (old_state m.state) m.store m.memory

-- ---- what code needs to know of lists with places: they lie inside a store of so many words, and a word can count their answers
abbrev pub EachInside : ℕ → List O.Node → Type 0
EachInside most ns = (k : ℕ) → k < length ns → (get_or ns k fresh_node).list.place + (get_or ns k fresh_node).list.words.0 ≤ most

abbrev pub Few : List O.Node → Type 0
Few ns = (k : ℕ) → k < length ns → (get_or ns k fresh_node).list.count ≤ 65535
