-- A decided call settled, on the parts that it was given: what then holds of every machine that they are the parts of.
-- Assumes nothing.
use Rattle.std.specs.Prelude.{ℕ, ◌-◌, ◌*◌, ◌≡◌, true, List, get_or, set}
use Rattle.std.proofs.Math.Seq.{paste}
use Rattle.units.specs.declared.Words.{Words}
use Rattle.meaning.specs.Bench.{Bench, hub, is_reader}
use Rattle.meaning.specs.Gateway.{Gateway, set_reader}
use Rattle.meaning.specs.Call.{Outcome, from_desk, lifted, settled}
use Rattle.state.specs.State.{fresh_reader, fresh_node}
use Rattle.machine.specs.Machine.{machine, meaning, region_of}
use Rattle.machine.specs.Consistent.{unfit}
use Rattle.state.specs.declared.node.Node.{Node}
use Rattle.state.specs.declared.reader.Reader.{Reader}
use Rattle.state.specs.declared.Name.{Name}
use Rattle.state.specs.declared.State.{State}
use Rattle.promise.specs.Obeyed.{said_of, Does}
use Rattle.promise.specs.declared.Reply.{Reply}
use Rattle.decided.specs.Decided as O
use Rattle.decided.specs.declared.Change.{Change}
use Rattle.decided.specs.declared.Decided.{Decided}
use Rattle.desk.specs.Ruled as D
use Rattle.desk.specs.declared.Ruled.{Ruled}
use Rattle.settle.specs.declared.Seated.{Seated}
use Rattle.settle.specs.declared.Housed.{Housed}

-- ---- at the reader of node n
-- its node, its reader, and the words that all nodes hold, of a state
pub record Seat (n : ℕ) (own : Node) (x : Reader) (held : List Words) (s : State) : Type 0 where
  pub node : get_or s.nodes (n - 1) fresh_node ≡ own
  pub reader : get_or s.readers (n - 1) fresh_reader ≡ x
  pub helds : s.held ≡ held

-- the state with what a call made of them
abbrev pub seated : State → ℕ → Seated → State
seated s n r = record
    { name = s.name; readers = set s.readers (n - 1) r.reader; nodes = set s.nodes (n - 1) r.node; held = r.held }

-- they are parts of a consistent machine
pub record Seatable (b : Bench) (n : ℕ) (own : Node) (x : Reader) (held : List Words) (store memory : List ℕ) : Type 0 where
  pub is : is_reader b n ≡ true
  pub state : State
  pub seat : Seat n own x held state
  pub fit : unfit b (machine state store memory) ≡ 0

-- on every such machine the meaning's outcome o is brought about
abbrev pub Seats : Bench → (Gateway → Outcome) → ℕ → Node → Reader → List Words → List ℕ → List ℕ → Seated → List ℕ → List ℕ → Type 0
Seats b o n own x held store memory r store' memory' =
    (s : State) → Seat n own x held s → unfit b (machine s store memory) ≡ 0
    → Does b (o (meaning b (machine s store memory))) (machine s store memory) (said_of r.reply) (machine (seated s n r) store' memory')

-- ---- .. by the decision d, whatever the plaque memory and the command's data words are: the call that settles it takes neither
abbrev pub seating : Bench → ℕ → Decided → List ℕ → List ℕ → List ℕ → Gateway → Outcome
seating b n d ws answer memory g = settled b g (lifted (set_reader n) n g (O.decided d ws (region_of b memory n) answer))

-- the plaque memory after it: the region is altered where an answer was queued
unfoldable pub memory_after : Bench → ℕ → Reply → Change → List ℕ → List ℕ → List ℕ
memory_after b n (Reply.Refused k) c ws memory = memory
memory_after b n Reply.Done c ws memory = memory
memory_after b n Reply.Quiet c ws memory = memory
memory_after b n Reply.Queued c ws memory = paste memory ((n - 1) * b.region) (O.altered c ws (region_of b memory n)) b.region

abbrev pub Settles : Bench → ℕ → Node → Reader → List Words → Decided → List ℕ → List ℕ → Seated → List ℕ → Type 0
Settles b n own x held d answer store r store' =
    (ws memory : List ℕ) → O.Suits d.change ws b.region
    → Seats b (seating b n d ws answer memory) n own x held store memory r store' (memory_after b n r.reply d.change ws memory)

-- ---- at the gateway's own node: all nodes, the words that they hold, the name
pub record House (nodes : List Node) (held : List Words) (name : Name) (s : State) : Type 0 where
  pub all : s.nodes ≡ nodes
  pub helds : s.held ≡ held
  pub title : s.name ≡ name

abbrev pub housed : State → Housed → State
housed s r = record { name = r.name; readers = s.readers; nodes = r.nodes; held = r.held }

-- whatever the plaque memory is: no call of the gateway's own takes it
pub record Houseable (b : Bench) (nodes : List Node) (held : List Words) (name : Name) (store : List ℕ) : Type 0 where
  pub state : State
  pub memory : List ℕ
  pub house : House nodes held name state
  pub fit : unfit b (machine state store memory) ≡ 0

abbrev pub Houses : Bench → (Gateway → Outcome) → List Node → List Words → Name → List ℕ → Housed → List ℕ → Type 0
Houses b o nodes held name store r store' =
    (s : State) (memory : List ℕ) → House nodes held name s → unfit b (machine s store memory) ≡ 0
    → Does b (o (meaning b (machine s store memory))) (machine s store memory) (said_of r.reply) (machine (housed s r) store' memory)

-- by the decision d
abbrev pub housing : Bench → Ruled → List ℕ → Gateway → Outcome
housing b d answer g = settled b g (lifted from_desk hub g (D.decided d answer))
