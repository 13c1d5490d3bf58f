-- The oldest answer of a node handed over, on the parts of the state that its list has: what then holds of every machine with these parts.
-- Assumes nothing.
use Rattle.std.specs.Prelude.{ℕ, ◌<◌, ◌≡◌, true, List, get_or, set}
use Rattle.units.specs.declared.Words.{Words}
use Rattle.meaning.specs.Bench.{Bench, is_node}
use Rattle.meaning.specs.Call.{acknowledge, step}
use Rattle.state.specs.State.{fresh_node}
use Rattle.machine.specs.Machine.{machine, meaning, node_slot}
use Rattle.machine.specs.Consistent.{unfit}
use Rattle.state.specs.declared.node.Node.{Node}
use Rattle.state.specs.declared.State.{State}
use Rattle.store.specs.Changes.{with_lists}
use Rattle.promise.specs.Obeyed.{said_of, Does}
use Rattle.handover.specs.declared.Listed.{Listed}

-- the node at an index, and the words that all nodes hold, of a state
pub record Slot (i : ℕ) (own : Node) (held : List Words) (s : State) : Type 0 where
  pub node : get_or s.nodes i fresh_node ≡ own
  pub helds : s.held ≡ held

-- they are parts of a consistent machine, and an answer waits there
pub record Waits (b : Bench) (i : ℕ) (own : Node) (held : List Words) (store : List ℕ) : Type 0 where
  pub number : ℕ
  pub is : is_node b number ≡ true
  pub at : node_slot b number ≡ i
  pub state : State
  pub memory : List ℕ
  pub slot : Slot i own held state
  pub fit : unfit b (machine state store memory) ≡ 0
  pub some : 0 < own.answers

-- .. whether or not an answer waits
pub record Listable (b : Bench) (i : ℕ) (own : Node) (held : List Words) (store : List ℕ) : Type 0 where
  pub number : ℕ
  pub is : is_node b number ≡ true
  pub at : node_slot b number ≡ i
  pub state : State
  pub memory : List ℕ
  pub slot : Slot i own held state
  pub fit : unfit b (machine state store memory) ≡ 0

-- the state with what a call made of them
abbrev pub listed : State → ℕ → Listed → State
listed s i r = with_lists s (set s.nodes i r.node) r.held

-- on every such machine the meaning's step of an acknowledgement is brought about
abbrev pub Acknowledges : Bench → ℕ → ℕ → Node → List Words → List ℕ → Listed → List ℕ → Type 0
Acknowledges b number i own held store r store' =
    (n : ℕ) → is_node b n ≡ true → node_slot b n ≡ i → (s : State) (memory : List ℕ) → Slot i own held s → unfit b (machine s store memory) ≡
    0
    → Does b (step b (meaning b (machine s store memory)) (acknowledge n number)) (machine s store memory) (said_of r.reply)
    (machine (listed s i r) store' memory)
