-- What a converter is given, with places, and the gateway that it means: document 01's layout of the store, before request E8.
-- Assumes nothing.
use Rattle.std.specs.Prelude.{ℕ, zero, suc, ◌+◌, List, [], ◌∷◌, map, get_or, take, drop}
use Rattle.meaning.specs.Bench.{Bench, is_node}
use Rattle.meaning.specs.Gateway as M
use Rattle.meaning.specs.Gateway.{Gateway}
use Rattle.machine.specs.Machine.{node_slot, seen, plain, readers_of}
use Rattle.placed.specs.declared.Pending.{Pending}
use Rattle.placed.specs.declared.Node.{Node}
use Rattle.placed.specs.declared.State.{State}

-- the state, the words of the lent answer store, the bytes of the lent plaque memory
pub record Machine : Type 0 where
  pub state : State
  pub store : List ℕ
  pub memory : List ℕ

abbrev pub machine : State → List ℕ → List ℕ → Machine
machine s store memory = record { state = s; store = store; memory = memory }

-- ---- pending answers
-- the answer that begins at a place of the store: as many words as its first word, its Overall Length, says
unfoldable pub answer_at : List ℕ → ℕ → List ℕ
answer_at store p = take (get_or store p 0) (drop p store)

-- where so many answers begin: the first at a place, each other behind the one before it
unfoldable pub starts_of : List ℕ → ℕ → ℕ → List ℕ
starts_of store zero p = []
starts_of store (suc k) p = p ∷ starts_of store k (p + get_or store p 0)

abbrev pub places_of : List ℕ → Pending → List ℕ
places_of store l = starts_of store l.count l.place

unfoldable pub pending_of : List ℕ → Pending → List (List ℕ)
pending_of store l = map (answer_at store) (places_of store l)

unfoldable pub node_of : List ℕ → Node → M.Node
node_of store n = record { count = n.instance; handover = n.handover; pending = pending_of store n.list }

-- ---- the gateway: readers and name as without places
unfoldable pub nodes_of : Bench → List ℕ → List Node → ℕ → M.Node
nodes_of b store ns = seen (is_node b) (node_slot b) plain (map (node_of store) ns)

unfoldable pub meaning : Bench → Machine → Gateway
meaning b m = record {
  name = take m.state.name.length.0 m.state.name.bytes;
  nodes = nodes_of b m.store m.state.nodes;
  reader = readers_of b m.memory m.state.readers;
}
