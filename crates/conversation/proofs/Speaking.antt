-- A line played at its own list, at its reader or at the gateway: its parts are taken out of a consistent machine, and put back.
-- Assumes nothing.
use Rattle.units.proofs.Common.{sym, ◌∙◌, ◌≡◌, refl, true, cond, List, ℕ, ◌≤◌, ◌-◌, ◌+◌, ◌<◌, arith, get_or, set, yes_cond}
use Rattle.meaning.proofs.Terms.{full, is_reader, is_node, Call, step}
use Rattle.meaning.specs.Bench.{node_count}
use Rattle.machine.proofs.Terms.{Machine, machine, node_slot, unfit}
use Rattle.machine.proofs.Read.{blank}
use Rattle.promise.specs.Obeyed.{said_of}
use Rattle.promise.proofs.Tables.{node_inside}
use Rattle.answers.proofs.Indices.{blank_reader}
use Rattle.store.specs.Changes.{with_lists}
use Rattle.settle.specs.Settled.{Seats, Houses, housed}
use Rattle.settle.specs.declared.Seated.{Seated}
use Rattle.settle.specs.declared.Housed.{Housed}
use Rattle.obey.proofs.Taking.{seats_here, houses_here}
use Rattle.handover.specs.Handed.{Slot, Listable}
use Rattle.handover.proofs.Served.{found}
use Rattle.text.specs.Text.{Put}
use Rattle.dialog.specs.Spoken as D
use Rattle.dialog.specs.Dialog.{said_line, longest_answer}
use Rattle.talk.specs.Talk.{Plays}
use Rattle.talk.specs.Parts.{wanted, TellsAt}
use Rattle.aiming.specs.declared.Want.{Want}
use Rattle.talk.specs.declared.ListTold.{ListTold}
use Rattle.talk.proofs.Talking.{plays_call}

module _ (m : Machine) (fit : unfit full m ≡ 0) where
  -- ---- at the list of node n, whose index the code has looked up
  module _ (n i : ℕ) (is : is_node full n ≡ true) (e : i ≡ cond (is_node full n) (node_slot full n) (node_count full)) where
    slot_is : node_slot full n ≡ i
    slot_is = sym (e ∙ yes_cond (node_count full) is)

    pub list_inside : i < node_count full
    list_inside = omega (arith, slot_is, node_inside full n (node_count full) is refl)

    slot : Slot i (get_or m.state.nodes i blank) m.state.held m.state
    slot = record { node = (found m fit n i e list_inside).at; helds = refl }

    pub list_needs : Listable full i (get_or m.state.nodes i blank) m.state.held m.store
    list_needs = record { number = n; is = is; at = slot_is; state = m.state; memory = m.memory; slot = slot; fit = fit }

    pub list_plays : {line old new store' : List ℕ} {to : ℕ} (w : Want) (r : ListTold) → D.spoken line ≡ D.call (wanted n w)
        → TellsAt full w n i (get_or m.state.nodes i blank) m.state.held m.store store' old to new r
        → Plays full m line old to new r.at (machine (with_lists m.state (set m.state.nodes i r.node) r.held) store'
        m.memory)
    list_plays w r s t = let u = t is slot_is m.state m.memory slot fit in plays_call (wanted n w) s u.does u.wrote u.room

  -- ---- a call at the reader of node n, at index i
  pub reader_plays : (n i : ℕ) (is : is_reader full n ≡ true) (at : i ≡ n - 1) (c : Call) {line old new store' memory' : List ℕ} {to end : ℕ}
      (r : Seated)
      → D.spoken line ≡ D.call c
      → Seats full (λ g. step full g c) n (get_or m.state.nodes i blank) (get_or m.state.readers i blank_reader) m.state.held
      m.store
      m.memory r store' memory'
      → Put old to (said_line (said_of r.reply)) new end → end ≤ to + longest_answer
      → Plays full m line old to new end (machine (record {
        name = m.state.name;
        readers = set m.state.readers i r.reader;
        nodes = set m.state.nodes i r.node;
        held = r.held;
      }) store' memory')
  reader_plays n i is at c r s d p h = plays_call c s (seats_here m fit n i is at (λ g. step full g c) r d refl) p h

  -- ---- a command of the gateway's own
  pub hub_plays : (c : Call) {line old new store' : List ℕ} {to end : ℕ} (r : Housed) → D.spoken line ≡ D.call c
      → Houses full (λ g. step full g c) m.state.nodes m.state.held m.state.name m.store r store'
      → Put old to (said_line (said_of r.reply)) new end → end ≤ to + longest_answer
      → Plays full m line old to new end (machine (housed m.state r) store' m.memory)
  hub_plays c r s d p h = plays_call c s (houses_here m fit (λ g. step full g c) r d) p h
