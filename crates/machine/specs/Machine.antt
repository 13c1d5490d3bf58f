-- What a call is given and leaves, and the gateway that it means.
-- Assumes nothing.
use Rattle.std.specs.Prelude.{ℕ, ◌-◌, ◌*◌, Bool, cond, List, [], ◌∷◌, eqb, get_or, take}
use Rattle.std.proofs.Math.Seq.{slice}
use Rattle.meaning.specs.Bench.{Bench, hub, is_reader, is_node}
use Rattle.meaning.specs.Gateway as M
use Rattle.meaning.specs.Gateway.{Gateway, Field, empty, plaque, Mode, off, on}
use Rattle.state.specs.State.{fresh_reader}
use Rattle.state.specs.Reports.{report_of}
use Rattle.machine.specs.Layout.{cuts, past}
use Rattle.state.specs.declared.reader as R
use Rattle.state.specs.declared.node.Node.{Node}
use Rattle.state.specs.declared.State.{State}

-- the state, the words of the lent answer store, the bytes of the lent plaque memory
pub record Machine : Type 0 where
  pub state : State
  pub store : List ℕ
  pub memory : List ℕ

abbrev pub machine : State → List ℕ → List ℕ → Machine
machine s store memory = record { state = s; store = store; memory = memory }

-- ---- nodes: their answers lie in the store one behind the other, node by node
abbrev pub node_of : Node → List (List ℕ) → M.Node
node_of n as' = record { count = n.instance; handover = n.handover; pending = as' }

unfoldable pub nodes_in : List ℕ → List Node → List M.Node
nodes_in ws [] = []
nodes_in ws (n ∷ ns) = node_of n (cuts n.answers ws) ∷ nodes_in (past n.answers ws) ns

-- ---- readers
unfoldable pub field_of : R.Plaque.Plaque → Field
field_of p = cond p.present (plaque p.id p.length.0) empty

unfoldable pub mode_of : R.Reading.Reading → R.Report.Report → Mode
mode_of r rep = cond (eqb r.size.0 0) off (on r.start r.size.0 r.delay (report_of rep))

-- "plaque memory .. per reader in node order": empty for what is no reader
unfoldable pub region_of : Bench → List ℕ → ℕ → List ℕ
region_of b memory n = slice ((n - 1) * b.region) (n * b.region) memory

unfoldable pub reader_of : R.Reader.Reader → List ℕ → M.Reader
reader_of r region = record { field = field_of r.plaque; mode = mode_of r.reading r.report; region = region }

-- ---- the arrays, by node: readers are nodes 1 on, and the gateway's own node is the last
abbrev pub reader_slot : ℕ → ℕ
reader_slot n = n - 1

abbrev pub node_slot : Bench → ℕ → ℕ
node_slot b n = cond (eqb n hub) b.readers (n - 1)

-- what stands at a node's slot; d for what is no such node
unfoldable pub seen : {A : Type 0} → (ℕ → Bool) → (ℕ → ℕ) → A → List A → ℕ → A
seen ok slot d l n = cond (ok n) (get_or l (slot n) d) d

abbrev pub plain : M.Node
plain = record { count = 0; handover = 1; pending = [] }

unfoldable pub nodes_of : Bench → List ℕ → List Node → ℕ → M.Node
nodes_of b store ns = seen (is_node b) (node_slot b) plain (nodes_in store ns)

unfoldable pub readers_of : Bench → List ℕ → List R.Reader.Reader → ℕ → M.Reader
readers_of b memory rs n = reader_of (seen (is_reader b) reader_slot fresh_reader rs n) (region_of b memory n)

unfoldable pub meaning : Bench → Machine → Gateway
meaning b m = record {
  name = take m.state.name.length.0 m.state.name.bytes;
  nodes = nodes_of b m.store m.state.nodes;
  reader = readers_of b m.memory m.state.readers;
}
