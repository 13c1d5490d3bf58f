-- The oldest answer of a list, and an acknowledgement of it: on any machine whose parts were given.
-- Assumes nothing.
use Rattle.units.proofs.Common.{sym, ◌∙◌, ◌≡◌, refl, true, List, ◌∷◌, ℕ, ◌<◌, arith, get_or, set, set-get_or}
use Rattle.units.specs.declared.Words.{Words}
use Rattle.meaning.specs.Bench.{node_count}
use Rattle.meaning.proofs.Terms.{full, is_node, set_node, taken, acknowledge, Said, refused, answered, done, step}
use Rattle.machine.proofs.Terms.{fresh_node, taken_node, Machine, machine, meaning, node_slot, counts, unfit}
use Rattle.state.specs.declared.node.Node.{Node}
use Rattle.state.specs.declared.State.{State}
use Rattle.machine.proofs.Read.{blank, node_any}
use Rattle.lists.specs.Room.{place_of}
use Rattle.store.specs.Changes.{with_lists}
use Rattle.store.specs.Swept.{Takeable, Takes}
use Rattle.promise.specs.Obeyed.{Does, Obeyed}
use Rattle.promise.proofs.Parts.{parts, Means}
use Rattle.promise.proofs.Tables.{node_inside}
use Rattle.promise.proofs.Oldest.{oldest, oldest_first, taken_changed, acked_14, acked_15, acked_0}
use Rattle.handover.specs.Handed.{Slot}
use Rattle.handover.proofs.Served.{Found, Stands, stands, takeable, taken_listed, by_fit}

module _ {i : ℕ} {own : Node} {held : List Words} (s : State) (store memory : List ℕ) (fit : unfit full (machine s store memory) ≡ 0)
    (n : ℕ) (is : is_node full n ≡ true) (at : node_slot full n ≡ i) (a : Slot i own held s) (some : 0 < own.answers) where
  abbrev m : Machine
  m = machine s store memory

  pub inside : i < node_count full
  inside = omega (arith, at, node_inside full n (node_count full) is refl)

  pub here : Found m n i
  here = record { is = is; slot = at; at = sym (node_any s.nodes i (omega (arith, inside, (parts full m fit).each_node))) }

  own_is : get_or s.nodes i blank ≡ own
  own_is = sym here.at ∙ a.node

  pub waits : 0 < (get_or s.nodes i blank).answers
  waits = rw own_is some

  -- it stands at the node's place
  abbrev pub first : List ℕ
  first = oldest full m fit n i here.is here.slot (get_or s.nodes i blank) here.at waits

  pub lies : (place : ℕ) → place ≡ place_of (counts held) i → Stands m place first
  lies place e = stands m fit n i here waits place (rw a.helds e)

  pub slot_takeable : Takeable full held i store
  slot_takeable = rw (← a.helds) (takeable m fit n i here waits)

  pub first_is : (ws : List (List ℕ)) × (((meaning full m).nodes n).pending ≡ first ∷ ws)
  first_is = oldest_first full m fit n i here.is here.slot (get_or s.nodes i blank) here.at waits

  -- taken away
  pub slot_taken : {store' : List ℕ} {hs : List Words} {x : Node} → Takes full held i store store' hs → x ≡ taken_node own
      → Means full (machine (with_lists s (set s.nodes i x) hs) store' memory)
      (set_node n (taken ((meaning full m).nodes n)) (meaning full m))
  slot_taken {store'} t y =
      taken_changed full m fit n i here.is here.slot (get_or s.nodes i blank) here.at waits store' _
      (taken_listed m fit n i here waits (rw a.helds t) (rw own_is y))

-- ---- the parts put back as they were
pub slot_back : {i : ℕ} {own : Node} {held : List Words} (s : State) → Slot i own held s → with_lists s (set s.nodes i own) held ≡ s
slot_back {i} s a = rw (← a.node, ← a.helds, set-get_or s.nodes i fresh_node)

-- ---- an acknowledgement there, by what it returns
module _ {i : ℕ} {own : Node} {held : List Words} (s : State) (store memory : List ℕ) (fit : unfit full (machine s store memory) ≡ 0)
    (n : ℕ) (is : is_node full n ≡ true) (at : node_slot full n ≡ i) (a : Slot i own held s) (number : ℕ) where
  abbrev Acked : Said → State → List ℕ → Type 0
  Acked said s' store' =
      Does full (step full (meaning full (machine s store memory)) (acknowledge n number)) (machine s store memory) said
      (machine s' store' memory)

  refusing : (k : ℕ) → Obeyed full (acknowledge n number) (machine s store memory) (refused k) (machine s store memory)
      → Acked (refused k) (with_lists s (set s.nodes i own) held) store
  refusing k d = rw (slot_back s a) (by_fit full (machine s store memory) fit (acknowledge n number) (refused k) _ d)

  pub acks_14 : own.answers ≡ 0 → Acked (refused 14) (with_lists s (set s.nodes i own) held) store
  acks_14 e = refusing 14 (acked_14 full (machine s store memory) fit n number i is at own a.node e)

  module _ (some : 0 < own.answers) where
    pub acks_15 : (number ≡ own.handover → ⊥) → Acked (refused 15) (with_lists s (set s.nodes i own) held) store
    acks_15 d = refusing 15 (acked_15 full (machine s store memory) fit n number i is at own a.node some d)

    pub acks_0 : number ≡ own.handover → {store' : List ℕ} {hs : List Words} {x : Node} → Takes full held i store store' hs
        → x ≡ taken_node own
        → Acked (answered done) (with_lists s (set s.nodes i x) hs) store'
    acks_0 e t y =
        by_fit full (machine s store memory) fit (acknowledge n number) (answered done) _
        (acked_0 full (machine s store memory) fit n number i is at own a.node some e _ _
        (taken_listed (machine s store memory) fit n i (here s store memory fit n is at a some) (waits s store memory fit n is at a some)
        (rw a.helds t) (rw (own_is s store memory fit n is at a some) y)))
