-- Document 01, "Room" and "Refusal numbers": 1, "store or plaque memory of another length"; 2, "state not consistent".
-- Assumes nothing.
use Rattle.std.specs.Prelude.{ℕ, suc, ◌+◌, max, Bool, true, not, ◌&&◌, cond, List, [], ◌∷◌, map, leb, ltb, eqb, length, drop}
use Rattle.units.specs.Count.{every, within}
use Rattle.units.specs.declared.Words.{Words}
use Rattle.meaning.specs.Refusal.{Doubts, ◌when◌, ◌or_else◌, refusal}
use Rattle.meaning.specs.Bench.{Bench, hub, node_count, memory_size}
use Rattle.meaning.specs.Call.{same}
use Rattle.meaning.specs.Gateway as M
use Rattle.meaning.specs.Response.{well_formed}
use Rattle.meaning.specs.Room.{held}
use Rattle.machine.specs.Layout.{store_of}
use Rattle.machine.specs.Machine.{Machine, nodes_in}
use Rattle.state.specs.declared.reader as R
use Rattle.state.specs.declared.node.Node.{Node}
use Rattle.state.specs.declared.Name.{Name}
use Rattle.state.specs.declared.State.{State}

-- ---- request E8, "Refusals: 2 also for a state or store that breaks this layout": all nodes' answers, node by node, oldest first, and
-- then
-- zeros, are the store. So no answer reaches past its end, and no two share a word
unfoldable pub in_layout : List ℕ → List M.Node → Bool
in_layout store ms = same store (store_of (length store) ms)

-- ---- "every pending answer a well-formed register-form response of its node inside the store"
-- the node that stands at an index of the nodes
abbrev pub node_at : Bench → ℕ → ℕ
node_at b i = cond (ltb i b.readers) (i + 1) hub

-- of nodes whose first has index i
unfoldable pub formed : Bench → ℕ → List M.Node → Bool
formed b i [] = true
formed b i (m ∷ ms) = every (well_formed b (node_at b i)) m.pending && formed b (suc i) ms

-- ---- "both bounds met", by the held words of each node
unfoldable pub charges_of : ℕ → List ℕ → ℕ
charges_of share [] = 0
charges_of share (h ∷ hs) = max share h + charges_of share hs

unfoldable pub bounded : Bench → List ℕ → Bool
bounded b hs = every (λ h. leb h b.limit) hs && leb (charges_of b.share hs) b.store

-- ---- the lists, by what they mean; the state counts each node's held words, and counts them right
-- word counts as numbers
abbrev pub counts : List Words → List ℕ
counts hs = map (λ h. h.0) hs

unfoldable pub listed : Bench → List ℕ → List Words → List M.Node → Bool
listed b store hs ms =
    in_layout store ms && (formed b 0 ms && (same (counts hs) (map held ms) && bounded b (map held ms)))

unfoldable pub lists_ok : Bench → List ℕ → List Node → List Words → Bool
lists_ok b store ns hs = listed b store hs (nodes_in store ns)

-- ---- "0 in each field that has no meaning now"
abbrev pub zeros : List ℕ → Bool
zeros l = every (λ x. eqb x 0) l

-- ---- "every other field within the limits here"
unfoldable pub node_ok : Node → Bool
node_ok n = leb 1 n.handover

unfoldable pub plaque_ok : Bench → R.Plaque.Plaque → Bool
plaque_ok b p = eqb (length p.id) 8 && cond p.present (within 1 b.region p.length.0) (eqb p.length.0 0 && zeros p.id)

-- "reading off, when no report is kept either"
unfoldable pub reading_ok : Bench → R.Reading.Reading → Bool → Bool
reading_ok b r kept =
    cond (eqb r.size.0 0) (eqb r.start 0 && (eqb r.delay 0 && not kept))
    (leb r.size.0 255 && (leb (r.start + r.size.0) b.region && leb r.delay 60))

unfoldable pub report_ok : R.Report.Report → Bool
report_ok r = eqb (length r.id) 8 && cond r.kept true (zeros r.id && eqb r.clock 0)

unfoldable pub reader_ok : Bench → R.Reader.Reader → Bool
reader_ok b r = plaque_ok b r.plaque && (reading_ok b r.reading r.report.kept && report_ok r.report)

unfoldable pub name_ok : Name → Bool
name_ok n = leb n.length.0 64 && zeros (drop n.length.0 n.bytes)

-- the arrays have the lengths that the code's types give them
unfoldable pub arrays : Bench → State → Bool
arrays b s =
    eqb (length s.name.bytes) 64
    && (eqb (length s.readers) b.readers && (eqb (length s.nodes) (node_count b) && eqb (length s.held) (node_count b)))

unfoldable pub consistent : Bench → Machine → Bool
consistent b m =
    lists_ok b m.store m.state.nodes m.state.held
    && (every node_ok m.state.nodes
    && (every (reader_ok b) m.state.readers && (name_ok m.state.name && arrays b m.state)))

-- ---- refusals 1 and 2
unfoldable pub lengths : Bench → Machine → Bool
lengths b m = eqb (length m.store) b.store && eqb (length m.memory) (memory_size b)

unfoldable pub lent : Bench → Machine → Doubts
lent b m = 1 when not (lengths b m) or_else 2 when not (consistent b m)

-- the refusal by what is lent, 0 for none
unfoldable pub unfit : Bench → Machine → ℕ
unfit b m = refusal (lent b m)
