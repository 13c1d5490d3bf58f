-- What a change of the lists promises: by the meaning. The layout is one, so that this fixes state and store to the last word (law
-- `one-content` of `state`).
-- Assumes nothing.
use Rattle.std.specs.Prelude.{ℕ, ◌<◌, ◌≡◌, true, List, length, get_or, set}
use Rattle.units.specs.declared.Words.{Words}
use Rattle.meaning.specs.Bench.{Bench}
use Rattle.meaning.specs.Gateway as M
use Rattle.meaning.specs.Gateway.{joined, taken}
use Rattle.meaning.specs.Response.{well_formed}
use Rattle.machine.specs.Machine.{nodes_in, plain}
use Rattle.machine.specs.Consistent.{node_at, counts, lists_ok}
use Rattle.state.specs.declared.node.Node.{Node}
use Rattle.state.specs.declared.State.{State}
use Rattle.lists.specs.Room.{room_for}

-- a state with other lists
abbrev pub with_lists : State → List Node → List Words → State
with_lists s ns hs = record { name = s.name; readers = s.readers; nodes = ns; held = hs }

-- lists in order, in a store of the bench's length
pub record Sound (b : Bench) (store : List ℕ) (s : State) : Type 0 where
  pub size : length store ≡ b.store
  pub lists : lists_ok b store s.nodes s.held ≡ true

-- after a change the lists are in order and mean the nodes ms; nothing else of the state is another
pub record Listed (b : Bench) (store store' : List ℕ) (s s' : State) (ms : List M.Node) : Type 0 where
  pub lists : lists_ok b store' s'.nodes s'.held ≡ true
  pub nodes : nodes_in store' s'.nodes ≡ ms
  pub rest : s' ≡ with_lists s s'.nodes s'.held
  pub long : length store' ≡ length store

-- ---- an answer joins the list of the node at index i: at its end, and the node has counted it
abbrev pub joined_at : List M.Node → ℕ → List ℕ → List M.Node
joined_at ms i a = set ms i (joined a (get_or ms i plain))

-- one that may: of that node, with room
pub record Joinable (b : Bench) (store : List ℕ) (s : State) (i : ℕ) (a : List ℕ) : Type 0 where
  pub sound : Sound b store s
  pub index : i < length s.nodes
  pub answer : well_formed b (node_at b i) a ≡ true
  pub room : room_for b (counts s.held) i (length a) ≡ true

-- ---- the oldest answer leaves it
abbrev pub taken_at : List M.Node → ℕ → List M.Node
taken_at ms i = set ms i (taken (get_or ms i plain))
