-- What was decided at the gateway's own node, put back into any machine that the parts are of, is the outcome that the definition settles.
-- Assumes nothing.
use Rattle.units.proofs.Common.{sym, ◌∙◌, ◌≡◌, refl, ap, subst, true, false, Bool, List, [], ◌∷◌, map, ℕ, arith, length, get_or, take, set}
use Rattle.units.specs.declared.Words.{Words}
use Rattle.meaning.proofs.Terms.{full, hub, well_formed, Gateway, Sweep, swept, sweep, Said, refused, queued, Local, Try, Desk, from_desk}
use Rattle.meaning.proofs.Terms.{lifted, settled}
use Rattle.meaning.specs.Gateway.{set_name}
use Rattle.machine.proofs.Terms.{Machine, machine, meaning, node_at, counts, unfit}
use Rattle.state.specs.declared.node.Node.{Node}
use Rattle.state.specs.declared.Name.{Name}
use Rattle.state.specs.declared.State.{State}
use Rattle.machine.proofs.Read.{blank}
use Rattle.lists.specs.Room.{room_for}
use Rattle.store.specs.Changes.{with_lists}
use Rattle.store.specs.Swept.{broom_of, swept_node, swept_words, swept_store, Enlistable, Enlists}
use Rattle.store.specs.declared.Enlisted.{Enlisted}
use Rattle.store.specs.declared.Broom.{Broom}
use Rattle.store.specs.declared.Broom.TheVariants as B
use Rattle.store.proofs.Changed.{Empties, clear_empties, reset_empties}
use Rattle.store.proofs.Promised as P
use Rattle.promise.specs.Obeyed.{said_of, Does}
use Rattle.promise.specs.declared.Reply.{Reply}
use Rattle.promise.proofs.Parts.{parts, Means}
use Rattle.promise.proofs.Tables.{node_hub}
use Rattle.promise.proofs.Nodes.{with_name, name_changed, nodes_swept}
use Rattle.promise.proofs.Promises.{AtHub, refusing}
use Rattle.answers.specs.Decided.{told, Formed}
use Rattle.answers.specs.declared.Verdict.{Verdict}
use Rattle.answers.specs.declared.Verdict.TheVariants as W
use Rattle.desk.specs.Ruled.{title_of, desk_of}
use Rattle.desk.specs.Ruled as D
use Rattle.desk.specs.declared.Ruled.{Ruled}
use Rattle.settle.specs.declared.Housed.{Housed}
use Rattle.settle.specs.Settled.{House, Houseable, Houses, housing}
use Rattle.settle.proofs.Settling.{sound, due_refused, due_joined, enlisted, enlistable}

-- ---- the gateway's own call
map_same : {A : Type 0} (f : A → A) → ((x : A) → f x ≡ x) → (l : List A) → map f l ≡ l
map_same f h [] = refl
map_same f h (x ∷ l) = rw (h x, map_same f h l)

module _ (m : Machine) (fit : unfit full m ≡ 0) where
  -- the machine with its lists swept
  abbrev pub swept_by : Broom → Machine
  swept_by z =
      machine (with_lists m.state (map (swept_node z) m.state.nodes) (swept_words z m.state.held))
      (swept_store z m.state.held m.store) m.memory

  emptied_means : {z : Sweep} {f : Node → Node} → Empties z f
      → Means full (machine (with_lists m.state (map f m.state.nodes) (swept_words B.Clear m.state.held))
      (swept_store B.Clear m.state.held m.store) m.memory) (sweep z (meaning full m))
  unfolding swept_words swept_store
  emptied_means e =
      let p = parts full m fit in
      nodes_swept full m p _ e.blank _ _ (P.empties full m.store m.state (sound m fit) (length m.state.held)
      (p.each_held ∙ sym p.each_node) e)

  pub swept_means : (z : Broom) → Means full (swept_by z) (sweep (broom_of z) (meaning full m))
  unfolding swept_node swept_words swept_store broom_of swept
  swept_means B.Nothing =
      subst (λ (ns : List Node). Means full (machine (with_lists m.state ns m.state.held) m.store m.memory) (meaning full m))
      (sym (map_same (swept_node B.Nothing) (λ _. refl) m.state.nodes)) (record { fit = fit; means = refl })
  swept_means B.Clear = emptied_means clear_empties
  swept_means B.Reset = emptied_means reset_empties

  module _ {answer : List ℕ} {d : Ruled} (s : D.Settles full d answer) where
    -- the machine with the effect
    abbrev pub governed_by : Machine
    governed_by = machine (with_name (swept_by d.broom).state d.name) (swept_by d.broom).store m.memory

    pub governed_means : Means full governed_by (from_desk (desk_of d) (meaning full m))
    unfolding from_desk
    governed_means =
        let e = swept_means d.broom in
        subst (λ (g : Gateway). Means full governed_by (set_name (title_of d.name) g)) e.means
        (name_changed full _ d.name e.fit s.in_order s.wide (title_of d.name) refl)

    pub governed_refused : {k : ℕ} → d.verdict ≡ W.Refused k → AtHub full m (D.decided d answer) (refused k) m
    unfolding told
    governed_refused {k} v = refusing full m from_desk hub (ap (λ (v : Verdict). told v (desk_of d) (take d.words.0 answer)) v)

    module _ (v : d.verdict ≡ W.Due) where
      abbrev words : List ℕ
      words = take d.words.0 answer

      pub governed_formed : well_formed full (node_at full full.readers) words ≡ true
      unfolding Formed
      governed_formed = subst (λ (v : Verdict). Formed full hub v words) v s.formed

      hub_due : (a : Said) (m' : Machine)
          → Does full (settled full (meaning full m) (Try.due hub (from_desk (desk_of d) (meaning full m)) words)) m a m'
          → AtHub full m (D.decided d answer) a m'
      unfolding told lifted
      hub_due a m' k = subst (λ (l : Local Desk). AtHub full m l a m') (ap (λ (v : Verdict). told v (desk_of d) words) (sym v)) k

      pub governed_13 : room_for full (counts (swept_words d.broom m.state.held)) full.readers (length words) ≡ false
          → AtHub full m (D.decided d answer) (refused 13) m
      governed_13 f = hub_due _ _ (due_refused m hub full.readers
          (node_hub full) refl _ words governed_formed governed_by governed_means f)

      pub governed_queued : room_for full (counts (swept_words d.broom m.state.held)) full.readers (length words) ≡ true
          → AtHub full m (D.decided d answer) queued
          (enlisted m hub full.readers (node_hub full) refl _ words governed_formed governed_by governed_means)
      governed_queued f = hub_due _ _ (due_joined m hub full.readers
          (node_hub full) refl _ words governed_formed governed_by governed_means f)

-- ---- as `house` promises it
pub house_enlistable : {nodes : List Node} {held : List Words} {name : Name} {store answer : List ℕ} {d : Ruled}
    → Houseable full nodes held name store → D.Settles full d answer → d.verdict ≡ W.Due
    → {ns : List Node} → ns ≡ map (swept_node d.broom) nodes
    → Enlistable full held full.readers (get_or ns full.readers blank) (length (take d.words.0 answer)) (length store)
house_enlistable {nodes} {held} {name} {store} {answer} {d} a o v {ns} e =
    let m : Machine = machine a.state store a.memory in
    let z : Broom = d.broom in
    let g = enlistable m (swept_by m a.fit z) a.fit (swept_means m a.fit z).fit full.readers (omega arith)
    (take d.words.0 answer)
    (governed_formed m a.fit o v) in
    rw (e, ← a.house.all, ← a.house.helds) g

module _ (nodes : List Node) (held : List Words) (name : Name) (store answer : List ℕ) {d : Ruled} (o : D.Settles full d answer) where
  abbrev Held : Housed → List ℕ → Type 0
  Held r store' = Houses full (housing full d answer) nodes held name store r store'

  pub houses_refused : {k : ℕ} → d.verdict ≡ W.Refused k → Held (record
      { nodes = nodes; held = held; name = name; reply = Reply.Refused k }) store
  unfolding said_of
  houses_refused v s memory a fit = rw (← a.all, ← a.helds, ← a.title) (governed_refused (machine s store memory) fit o v)

  module _ (v : d.verdict ≡ W.Due) {ns : List Node} (swept-is : ns ≡ map (swept_node d.broom) nodes) {store' : List ℕ} {q : Enlisted}
      (e : Enlists full d.broom held full.readers (get_or ns full.readers blank) (take d.words.0 answer) store store' q) where
    abbrev w : List ℕ
    w = take d.words.0 answer

    room_of : {t : Bool} → q.ok ≡ t → (s : State) → House nodes held name s
        → room_for full (counts (swept_words d.broom s.held)) full.readers (length w) ≡ t
    room_of f s a = rw a.helds (sym e.room ∙ f)

    pub houses_13 : q.ok ≡ false → Held (record { nodes = nodes; held = held; name = name; reply = Reply.Refused 13 }) store'
    unfolding said_of
    houses_13 f s memory a fit =
        rw ((e.no f).2, ← a.all, ← a.helds, ← a.title) (governed_13 (machine s store memory) fit o v (room_of f s a))

    pub houses_queued : q.ok ≡ true → Held (record {
      nodes = set ns full.readers
          q.node;
      held = q.held;
      name = d.name;
      reply = Reply.Queued;
    })
        store'
    unfolding said_of
    houses_queued f s memory a fit =
        rw ((e.yes f).2, (e.yes f).1, (e.yes f).0, swept-is, ← a.all, ← a.helds)
        (governed_queued (machine s store memory) fit o v (room_of f s a))
