-- What its own list, its reader, the gateway or nobody makes of a line that was aimed, on parts of the state.
-- Assumes nothing.
use Rattle.std.specs.Prelude.{ℕ, ◌+◌, ◌≤◌, ◌≡◌, true, List, [], length, take, set}
use Rattle.std.proofs.Math.Seq.{slice}
use Rattle.units.specs.declared.Form.{Form}
use Rattle.units.specs.declared.Words.{Words}
use Rattle.meaning.specs.Bench.{Bench, is_node}
use Rattle.meaning.specs.Call.{Call, command, check, arrive, leave, collect, acknowledge, judged, command_in, kind_in, step}
use Rattle.machine.specs.Machine.{Machine, machine, meaning, node_slot}
use Rattle.machine.specs.Consistent.{unfit}
use Rattle.state.specs.declared.node.Node.{Node}
use Rattle.state.specs.declared.State.{State}
use Rattle.store.specs.Changes.{with_lists}
use Rattle.promise.specs.Obeyed.{Does}
use Rattle.handover.specs.Handed.{Slot}
use Rattle.text.specs.Text.{Put}
use Rattle.listing.specs.Lines.{refused_line}
use Rattle.dialog.specs.Dialog.{unreadable_line, said_line, store_line, longest_answer}
use Rattle.aiming.specs.declared.Aside.{Aside}
use Rattle.aiming.specs.declared.Want.{Want}
use Rattle.aiming.specs.declared.Order.{Order}
use Rattle.aiming.specs.declared.Ask.{Ask}
use Rattle.talk.specs.declared.ListTold.{ListTold}

-- ---- for nobody: what is said, by the words of the store
unfoldable pub aside_line : Aside → List ℕ → List ℕ
aside_line Aside.Passed store = []
aside_line Aside.Unreadable store = unreadable_line
aside_line (Aside.Refused k) store = refused_line k
aside_line (Aside.Look first count) store = store_line (slice first (first + count) store)

-- a look is within a store of so many words, and a line has room for it
unfoldable pub Lies : Aside → ℕ → Type 0
Lies Aside.Passed store = Unit {0}
Lies Aside.Unreadable store = Unit {0}
Lies (Aside.Refused k) store = Unit {0}
Lies (Aside.Look first count) store = (first + count ≤ store) × (count ≤ 128)

-- ---- for a reader: the call at node n, with what stands in the buffers
unfoldable pub asked : ℕ → Ask → List ℕ → List ℕ → List ℕ → Call
asked n (Ask.Command o) ws id bytes = command o.stamp o.form (take o.words.0 ws)
asked n (Ask.Check t clock) ws id bytes = check n t clock
asked n (Ask.Arrive i k) ws id bytes = arrive n (take i.0 id) (take k.0 bytes)
asked n Ask.Leave ws id bytes = leave n

-- an accepted packet, as code hands on what it says
pub record Orders (b : Bench) (ws : List ℕ) (o : Order) : Type 0 where
  pub long : o.words.0 ≤ length ws
  pub fine : judged b (command o.stamp o.form (take o.words.0 ws)) ≡ 0
  pub kind : o.kind ≡ kind_in b o.form (take o.words.0 ws)
  pub what : o.what ≡ command_in o.form (take o.words.0 ws)

-- a call that is not refused by what it says
unfoldable pub Asks : Bench → ℕ → Ask → List ℕ → List ℕ → List ℕ → Type 0
Asks b n (Ask.Command o) ws id bytes = Orders b ws o × (o.what.node ≡ n)
Asks b n (Ask.Check t clock) ws id bytes = judged b (check n t clock) ≡ 0
Asks b n (Ask.Arrive i k) ws id bytes =
    (i.0 ≤ length id) × (k.0 ≤ length bytes) × (judged b (arrive n (take i.0 id) (take k.0 bytes)) ≡ 0)
Asks b n Ask.Leave ws id bytes = judged b (leave n) ≡ 0

-- ---- for a list: 135 words are room for every answer, with word 00
unfoldable pub wanted : ℕ → Want → Call
wanted n (Want.Collect f) = collect f n 135
wanted n (Want.Acknowledge h) = acknowledge n h

-- a call on machine m: brought about, and what is said of it stands in the output
pub record Tells (b : Bench) (c : Call) (m : Machine) (old : List ℕ) (to : ℕ) (new : List ℕ) (at : ℕ) (m' : Machine) : Type 0 where
  pub does : Does b (step b (meaning b m) c) m (step b (meaning b m) c).said m'
  pub wrote : Put old to (said_line (step b (meaning b m) c).said) new at
  pub room : at ≤ to + longest_answer

-- on every consistent machine that the node at index i and the words that all nodes hold are parts of
abbrev pub Shows : Bench → Form → ℕ → ℕ → Node → List Words → List ℕ → List ℕ → ℕ → List ℕ → ℕ → Type 0
Shows b f n i own held store old to new at =
    is_node b n ≡ true → node_slot b n ≡ i → (s : State) (memory : List ℕ) → Slot i own held s → unfit b (machine s store memory) ≡ 0
    → Tells b (collect f n 135) (machine s store memory) old to new at (machine s store memory)

abbrev pub TellsAt : Bench → Want → ℕ → ℕ → Node → List Words → List ℕ → List ℕ → List ℕ → ℕ → List ℕ → ListTold → Type 0
TellsAt b want n i own held store store' old to new r =
    is_node b n ≡ true → node_slot b n ≡ i → (s : State) (memory : List ℕ) → Slot i own held s → unfit b (machine s store memory) ≡ 0
    → Tells b (wanted n want) (machine s store memory) old to new r.at
    (machine (with_lists s (set s.nodes i r.node) r.held) store' memory)
