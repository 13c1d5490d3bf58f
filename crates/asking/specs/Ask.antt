-- What the code promises of a command of the night, against its turn in the listing: on the parts of the state that the command may change,
-- and of every machine that they are the parts of.
-- Assumes nothing.
use Rattle.std.specs.Prelude.{ℕ, ◌*◌, ◌≤◌, ◌≡◌, true, List, [], ◌∷◌, length, set}
use Rattle.units.specs.declared.Words.{Words}
use Rattle.units.specs.declared.Form.TheVariants.{Register}
use Rattle.units.specs.declared.stamp.Stamp.{Stamp}
use Rattle.meaning.specs.Bench.{Bench, is_node}
use Rattle.meaning.specs.Packet.{overall}
use Rattle.meaning.specs.Gateway.{Gateway, set_node, taken}
use Rattle.meaning.specs.Call.{command, judged, command_in, kind_in}
use Rattle.meaning.specs.declared.table.Kind.{Kind}
use Rattle.meaning.specs.declared.packet.Command.{Command}
use Rattle.machine.specs.Machine.{Machine, machine, meaning, node_slot}
use Rattle.machine.specs.Consistent.{unfit}
use Rattle.state.specs.declared.node.Node.{Node}
use Rattle.state.specs.declared.reader.Reader.{Reader}
use Rattle.state.specs.declared.Name.{Name}
use Rattle.state.specs.declared.State.{State}
use Rattle.store.specs.Changes.{with_lists}
use Rattle.settle.specs.Settled.{Seat, seated, House, housed}
use Rattle.handover.specs.Handed.{Slot}
use Rattle.text.specs.Text.{Put, words_line}
use Rattle.listing.specs.Listing.{Turn, turn}
use Rattle.asking.specs.declared.Handed.{Handed}
use Rattle.asking.specs.declared.ReaderTurn.{ReaderTurn}
use Rattle.asking.specs.declared.HubTurn.{HubTurn}

-- the words of the longest answer, which has 255 bytes of data, and the bytes of its line
abbrev pub longest : ℕ
longest = overall 255

abbrev pub longest_line : ℕ
longest_line = 5 * longest

-- no answer is pending anywhere
abbrev pub NonePending : Gateway → Type 0
NonePending g = (n : ℕ) → (g.nodes n).pending ≡ []

-- a consistent machine on which an answer of node n waits
pub record Waiting (b : Bench) (n : ℕ) (m : Machine) : Type 0 where
  pub sound : unfit b m ≡ 0
  pub node : is_node b n ≡ true
  pub some : 1 ≤ length ((meaning b m).nodes n).pending

-- ---- the oldest answer of node n, at index i, handed over: its line stands in the output, and the machine after it means the gateway
-- without it
pub record Hands (b : Bench) (n i : ℕ) (s : State) (store store' memory old : List ℕ) (to : ℕ) (new : List ℕ) (r : Handed) : Type 0 where
  pub oldest : List ℕ
  pub others : List (List ℕ)
  pub pending : ((meaning b (machine s store memory)).nodes n).pending ≡ oldest ∷ others
  pub few : length oldest ≤ longest
  pub line : Put old to (words_line oldest) new r.at
  pub fit : unfit b (machine (with_lists s (set s.nodes i r.node) r.held) store' memory) ≡ 0
  pub means : meaning b (machine (with_lists s (set s.nodes i r.node) r.held) store' memory)
      ≡ set_node n (taken ((meaning b (machine s store memory)).nodes n)) (meaning b (machine s store memory))

-- on every consistent machine that the node at index i and the words that all nodes hold are parts of
abbrev pub HandsOver : Bench → ℕ → Node → List Words → List ℕ → List ℕ → List ℕ → ℕ → List ℕ → Handed → Type 0
HandsOver b i own held store store' old to new r =
    (n : ℕ) → is_node b n ≡ true → node_slot b n ≡ i
    → (s : State) (memory : List ℕ) → Slot i own held s → unfit b (machine s store memory) ≡ 0
    → Hands b n i s store store' memory old to new r

-- ---- a command
-- a packet that is accepted, as code hands on what it says
pub record Accepts (b : Bench) (t : Stamp) (ws : List ℕ) (k : Kind) (m : Command) : Type 0 where
  pub fine : judged b (command t Register ws) ≡ 0
  pub kind : k ≡ kind_in b Register ws
  pub what : m ≡ command_in Register ws

-- a turn of the listing, played: its line stands in the output, and the machine after it is consistent and means the gateway after it
pub record Plays (b : Bench) (o : Turn) (m : Machine) (old : List ℕ) (to : ℕ) (new : List ℕ) (at : ℕ) : Type 0 where
  pub line : Put old to o.line new at
  pub after : meaning b m ≡ o.after
  pub sound : unfit b m ≡ 0
  pub room : length o.line ≤ longest_line

-- at the reader of node n: its node, its reader, and the words that all nodes hold
abbrev pub SeatPlays : Bench → Stamp → List ℕ → ℕ → Node → Reader → List Words → List ℕ → List ℕ → ReaderTurn
    → List ℕ → List ℕ → List ℕ → ℕ → List ℕ → Type 0
SeatPlays b t ws n own x held store memory r store' memory' old to new =
    (s : State) → Seat n own x held s → unfit b (machine s store memory) ≡ 0
    → Plays b (turn b (meaning b (machine s store memory)) t ws) (machine (seated s n r.seat) store' memory') old to new r.at

-- at the gateway's own node: all nodes, the words that they hold, the name
abbrev pub HousePlays : Bench → Stamp → List ℕ → List Node → List Words → Name → List ℕ → HubTurn → List ℕ → List ℕ → ℕ → List ℕ → Type 0
HousePlays b t ws nodes held name store r store' old to new =
    (s : State) (memory : List ℕ) → House nodes held name s → unfit b (machine s store memory) ≡ 0
    → Plays b (turn b (meaning b (machine s store memory)) t ws) (machine (housed s r.house) store' memory) old to new r.at
