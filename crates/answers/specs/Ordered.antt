-- What its own node makes of an accepted command or a field check, room judged; and what an accepted command brings that the code rests on.
-- Assumes nothing.
use Rattle.std.specs.Prelude.{ℕ, ◌+◌, ◌≤◌, ◌≡◌, List, length, take}
use Rattle.units.specs.Packing.{bytes_of}
use Rattle.units.specs.declared.stamp.Stamp.{Stamp}
use Rattle.meaning.specs.Bench.{Bench, hub}
use Rattle.meaning.specs.Gateway.{Gateway, set_reader}
use Rattle.meaning.specs.Table.{row_of, carried}
use Rattle.meaning.specs.Call.{Outcome, from_desk, lifted, settled, obeyed, looked, governed}
use Rattle.meaning.specs.declared.table.OnPlaque.TheVariants.{Fill, Read, Write, ReadId, Search}
use Rattle.meaning.specs.declared.table.Kind.{Kind}
use Rattle.meaning.specs.declared.table.Kind.TheVariants as K
use Rattle.meaning.specs.declared.packet.Command.{Command}

-- the data bytes that a command carries, of its data words
unfoldable pub load_of : Bench → Command → List ℕ → List ℕ
load_of b m words = take (carried (row_of b m.command) m) (bytes_of words)

unfoldable pub ordered : Bench → Gateway → Stamp → Kind → Command → List ℕ → Outcome
ordered b g t k m bs =
    settled b g (lifted (set_reader m.node) m.node g (obeyed m.node (g.nodes m.node) t k m bs (g.reader m.node)))

-- .. at the gateway's own node
unfoldable pub heeding : Bench → Gateway → Stamp → Kind → List ℕ → Outcome
heeding b g t k bs = settled b g (lifted from_desk hub g (governed (g.nodes hub) g.name t k bs))

-- a field check of reader n
unfoldable pub looking : Bench → Gateway → ℕ → Stamp → ℕ → Outcome
looking b g n t clock =
    settled b g (lifted (set_reader n) n g (looked n (g.nodes n) t clock (g.reader n) (g.reader n).field (g.reader n).mode))

-- limits that an accepted packet has kept, as far as the code rests on them
unfoldable pub Ready : Bench → Kind → Command → List ℕ → Type 0
Ready b (K.Plaque Fill) m words = 1 ≤ length (load_of b m words)
Ready b (K.Plaque Read) m words = m.size ≤ 255
Ready b (K.Plaque Write) m words = (m.size ≤ 255) × (m.size ≡ length (load_of b m words))
Ready b (K.Plaque ReadId) m words = Unit
Ready b (K.Plaque Search) m words = Unit
Ready b K.Continuous m words =
    (m.size ≤ 255) × (m.word4 ≤ 60) × (m.start + m.size ≤ b.region) × (m.size ≡ 0 → (m.start ≡ 0) × (m.word4 ≡ 0))
Ready b K.ResetReader m words = Unit
Ready b (K.Gateway k) m words = Unit
Ready b K.Unknown m words = Unit
