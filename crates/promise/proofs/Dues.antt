-- An answer that is due: it joins its node's list where it has room, and where not the call is refused by 13. Once for all commands and
-- the field check, whatever the effect is on: the machine with it is given.
-- Assumes nothing.
use Rattle.units.proofs.Common.{sym, ◌∙◌, ◌≡◌, refl, ap, true, false, List, ℕ, length}
use Rattle.meaning.proofs.Terms.{Bench, is_node, well_formed, Gateway, join, charges, fits, refused, queued, Try, roomed, settled}
use Rattle.meaning.specs.Gateway as M
use Rattle.demands.specs.Sound.{Sound}
use Rattle.machine.proofs.Terms.{Machine, machine, meaning, node_slot, nodes_in, node_at, counts, unfit}
use Rattle.state.specs.declared.State.{State}
use Rattle.machine.proofs.Formed.{formed_says}
use Rattle.lists.specs.Room.{room_for}
use Rattle.store.specs.Changes.{Listed, joined_at}
use Rattle.promise.specs.Obeyed.{is_refusal, Does}
use Rattle.promise.proofs.Parts.{parts, Means}
use Rattle.promise.proofs.Promises.{does_refused, does_said}
use Rattle.promise.proofs.Rooms.{room_same, added_changed}

-- an answer w joined at the node of index i
abbrev pub Added : Bench → List ℕ → List ℕ → State → State → ℕ → List ℕ → Type 0
Added b store store' s s' i w = Listed b store store' s s' (joined_at (nodes_in store s.nodes) i w)

-- ---- the answer w of node n, due in the gateway h after the effect
fits_nodes : (b : Bench) (n : ℕ) (w : List ℕ) (g h : Gateway) → g.nodes ≡ h.nodes → fits b n (join n w g) ≡ fits b n (join n w h)
unfolding fits charges
fits_nodes b n w g h e = ap (λ (f : ℕ → M.Node). fits b n (join n w (record { name = g.name; nodes = f; reader = g.reader }))) e

module _ (b : Bench) (m : Machine) (n : ℕ) (h : Gateway) (w : List ℕ) where
  pub due_13 : fits b n (join n w h) ≡ false → (m' : Machine) → m' ≡ m → Does b (settled b (meaning b m) (Try.due n h w)) m (refused 13) m'
  unfolding settled roomed
  due_13 f m' e = rw (e, f) (does_refused b m 13)

  pub due_queued : fits b n (join n w h) ≡ true → (m' : Machine) → Means b m' (join n w h)
      → Does b (settled b (meaning b m) (Try.due n h w)) m queued m'
  unfolding settled roomed is_refusal
  due_queued f m' e = rw f (does_said b m queued (join n w h) m' refl e)

-- the machine m₁ has the effect, and the answer was queued at a state with its nodes
module _ (b : Bench) (ok : Sound b) (n i : ℕ) (is : is_node b n ≡ true) (slot : node_slot b n ≡ i) (w : List ℕ)
    (formed : well_formed b (node_at b i) w ≡ true) where
  pub room_due : (m₁ : Machine) (h : Gateway) → unfit b m₁ ≡ 0 → (meaning b m₁).nodes ≡ h.nodes
      → fits b n (join n w h) ≡ room_for b (counts m₁.state.held) i (length w)
  room_due m₁ h u e =
      sym (fits_nodes b n w (meaning b m₁) h e) ∙ room_same b m₁ n w is (parts b m₁ u) ok (formed_says b _ w formed)
      ∙ ap (λ (j : ℕ). room_for b (counts m₁.state.held) j (length w)) slot

  pub joins : (m₁ : Machine) (h : Gateway) → Means b m₁ h → (store' : List ℕ) (s' : State) → Added b m₁.store store' m₁.state s' i w
      → Means b (machine s' store' m₁.memory) (join n w h)
  joins m₁ h e store' s' a =
      rw (← e.means) (added_changed b m₁ n w is (parts b m₁ e.fit) store' s' (rw slot a))
