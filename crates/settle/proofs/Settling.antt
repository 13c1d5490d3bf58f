-- The seam, once for every call: an answer that is due, whatever the effect, is refused by 13 on any machine, or joins its node's list.
-- Assumes nothing.
use Rattle.units.proofs.Common.{sym, ◌∙◌, ◌≡◌, refl, ap, subst, true, false, List, ℕ, ◌≤◌, ◌<◌, arith, leb, length, get_or, set, length-map}
use Rattle.units.proofs.Common.{get_or-map, leb-true, every, and_true}
use Rattle.units.specs.declared.Words.{Words}
use Rattle.meaning.specs.Bench.{node_count}
use Rattle.meaning.proofs.Terms.{full, is_node, well_formed, Gateway, join, fits, refused, queued, Try, settled}
use Rattle.demands.specs.Sound.{full_sound}
use Rattle.machine.proofs.Terms.{joined_node, nothing, Machine, machine, meaning, node_slot, node_at, bounded, counts, unfit}
use Rattle.state.proofs.Lists.{every_get}
use Rattle.machine.proofs.Formed.{formed_most}
use Rattle.machine.proofs.Read.{blank}
use Rattle.lists.specs.Room.{room_for}
use Rattle.store.specs.Changes.{with_lists, Sound}
use Rattle.store.specs.Swept.{held_more, store_more, Enlistable}
use Rattle.store.proofs.Promised as P
use Rattle.promise.specs.Obeyed.{Does}
use Rattle.promise.proofs.Parts.{parts, Means}
use Rattle.promise.proofs.Tables.{node_inside}
use Rattle.promise.proofs.Dues.{due_13, due_queued, room_due, joins}

-- ---- an answer w of node n, due in the gateway h; m₁ is the machine with the effect, and means h
module _ (m : Machine) (n i : ℕ) (is : is_node full n ≡ true) (slot : node_slot full n ≡ i) (h : Gateway) (w : List ℕ)
    (formed : well_formed full (node_at full i) w ≡ true) (m₁ : Machine) (e : Means full m₁ h) where
  room_is : fits full n (join n w h) ≡ room_for full (counts m₁.state.held) i (length w)
  room_is = room_due full full_sound n i is slot w formed m₁ h e.fit (ap (λ (g : Gateway). g.nodes) e.means)

  pub due_refused : room_for full (counts m₁.state.held) i (length w) ≡ false
      → Does full (settled full (meaning full m) (Try.due n h w)) m (refused 13) m
  due_refused f = due_13 full m n h w (room_is ∙ f) m refl

  -- that machine with the answer joined
  abbrev pub enlisted : Machine
  enlisted =
      machine
      (with_lists m₁.state (set m₁.state.nodes i (joined_node (get_or m₁.state.nodes i blank)))
      (held_more m₁.state.held i (length w)))
      (store_more m₁.state.held i w m₁.store) m₁.memory

  pub due_joined : room_for full (counts m₁.state.held) i (length w) ≡ true
      → Does full (settled full (meaning full m) (Try.due n h w)) m queued enlisted
  due_joined f =
      let p = parts full m₁ e.fit in
      let ok : Sound full m₁.store m₁.state = record { size = p.store; lists = p.lists } in
      let j : i < length m₁.state.nodes = subst (λ (k : ℕ). k < length m₁.state.nodes) slot
      (node_inside full n _ is p.each_node) in
      let a = P.join full m₁.store m₁.state ok i j w (record { sound = ok; index = j; answer = formed; room = f })
      (length m₁.state.held) (p.each_held ∙ sym p.each_node) in
      due_queued full m n h w (room_is ∙ f) enlisted (joins full full_sound n i is slot w formed m₁ h e _ _ a.after)

-- what the code rests on to enlist it
pub sound : (m : Machine) → unfit full m ≡ 0 → Sound full m.store m.state
sound m fit = let p = parts full m fit in record { size = p.store; lists = p.lists }

bounds : (m : Machine) → unfit full m ≡ 0 → bounded full (counts m.state.held) ≡ true
bounds m fit = let k = P.packed_sound full m.store m.state (sound m fit) in rw k.helds k.bounds

few : (m : Machine) → unfit full m ≡ 0 → (i : ℕ) → i < node_count full → (get_or m.state.nodes i blank).answers < 65535
unfolding bounded
few m fit i h =
    let p = parts full m fit in
    let o = and_true (every (λ h. leb h full.limit) (counts m.state.held)) _ (bounds m fit) in
    let l : length (counts m.state.held) ≡ node_count full = length-map m.state.held (λ (w : Words). w.0) ∙ p.each_held in
    let b : get_or (counts m.state.held) i 0 ≤ full.limit =
    leb-true _ _ (every_get (λ h. leb h full.limit) (counts m.state.held) i 0 o.0 (omega arith)) in
    let g : get_or (counts m.state.held) i 0 ≡ (get_or m.state.held i nothing).0 = get_or-map (λ (w : Words). w.0) m.state.held i
    nothing in
    let a = P.answers_held full m.store m.state (sound m fit) i (omega (arith, p.each_node)) in
    omega arith

-- m has the lists before a sweep, m₁ after it
pub enlistable : (m m₁ : Machine) → unfit full m ≡ 0 → unfit full m₁ ≡ 0 → (i : ℕ) → i < node_count full → (w : List ℕ)
    → well_formed full (node_at full i) w ≡ true → Enlistable full m.state.held i (get_or m₁.state.nodes i blank) (length w)
    (length m.store)
enlistable m m₁ fit fit₁ i h w formed = record {
  size = (parts full m fit).store;
  bounds = bounds m fit;
  index = h;
  few = few m₁ fit₁ i h;
  short = formed_most full (node_at full i) w formed;
}
