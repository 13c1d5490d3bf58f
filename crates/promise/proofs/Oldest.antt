-- Acknowledge and collect, of the machine: a law for each way that the code returns.
-- Assumes nothing.
use Rattle.units.proofs.Common.{sym, ◌∙◌, ◌≡◌, refl, ap, true, false, Bool, cond, not, true≢false, List, [], ◌∷◌, ℕ, ◌≤◌, ◌+◌, ◌<◌}
use Rattle.units.proofs.Common.{arith, eqb, length, get_or, eq-eqb, ne_eqb, le-leb, eqb-true, lt-leb, word}
use Rattle.units.proofs.Common.{yes_cond, no_cond}
use Rattle.units.specs.declared.Form.{Form}
use Rattle.meaning.proofs.Terms.{Bench, is_node, bears, shown, set_node, taken, collect, acknowledge, Said, refused, answered, done, handed}
use Rattle.meaning.proofs.Terms.{Outcome, step, asked, judged}
use Rattle.meaning.specs.Gateway as M
use Rattle.meaning.proofs.Chain.{this}
use Rattle.machine.proofs.Terms.{fresh_node, Machine, machine, meaning, node_slot, nodes_in, plain, unfit}
use Rattle.state.specs.declared.node.Node.{Node}
use Rattle.state.specs.declared.State.{State}
use Rattle.machine.proofs.Read.{node_for, node_for_lem}
use lib.Seq.{sets}
use Rattle.store.specs.Changes.{Sound, Listed, taken_at}
use Rattle.store.proofs.Promised.{Take, taking}
use Rattle.promise.specs.Obeyed.{is_refusal, Does, expected, Obeyed, replied, written, Collects}
use Rattle.promise.specs.declared.Handout.{Handout}
use Rattle.promise.proofs.Parts.{parts, Means}
use Rattle.promise.proofs.Tables.{node_inside, node_at}
use Rattle.promise.proofs.Nodes.{numbered, onward_ok, node_changed}
use Rattle.promise.proofs.Promises.{saying, turning, obeying}
use Rattle.promise.proofs.Steps.{refused_by, acknowledge_14, acknowledge_15, acknowledge_0, collect_7, collect_14, collect_16}
use Rattle.promise.proofs.Steps.{collect_0, collect_keeps}

-- ---- node n, which stands at index i as x
module _ (b : Bench) (m : Machine) (fits : unfit b m ≡ 0) (n i : ℕ) (is : is_node b n ≡ true) (slot : node_slot b n ≡ i)
    (x : Node) (at : get_or m.state.nodes i fresh_node ≡ x) where
  abbrev ms : List M.Node
  ms = nodes_in m.store m.state.nodes

  pub node_is : (meaning b m).nodes n ≡ get_or ms i plain
  node_is = node_at b m n is ∙ ap (λ (j : ℕ). get_or ms j plain) slot

  -- it counts what it means
  node_counts : x ≡ node_for ((meaning b m).nodes n)
  node_counts = sym at ∙ node_for_lem m.store m.state.nodes i ∙ ap node_for (sym node_is)

  pub handover_is : ((meaning b m).nodes n).handover ≡ x.handover
  handover_is = ap (λ (y : Node). y.handover) (sym node_counts)

  pub count_is : ((meaning b m).nodes n).count ≡ x.instance
  count_is = ap (λ (y : Node). y.instance) (sym node_counts)

  pub pending_long : length ((meaning b m).nodes n).pending ≡ x.answers
  pending_long = ap (λ (y : Node). y.answers) (sym node_counts)

  pub pending_none : x.answers ≡ 0 → ((meaning b m).nodes n).pending ≡ []
  pending_none e = no_length ((meaning b m).nodes n).pending (pending_long ∙ e)
    where
      no_length : (as' : List (List ℕ)) → length as' ≡ 0 → as' ≡ []
      no_length [] h = refl
      no_length (a ∷ r) h = absurd (omega arith)

  pub index_inside : i < length m.state.nodes
  index_inside = rw (← slot) (node_inside b n (length m.state.nodes) is (parts b m fits).each_node)

  pub lists_sound : Sound b m.store m.state
  lists_sound = let p = parts b m fits in record { size = p.store; lists = p.lists }

  module _ (some : 0 < x.answers) where
    -- its oldest answer, and the store without it
    pub takes : Take b m.store m.state lists_sound i index_inside (b.readers + 1)
    takes =
        taking b m.store m.state lists_sound i index_inside (rw at some) _ (sym (parts b m fits).each_node)

    abbrev pub oldest : List ℕ
    oldest = takes.oldest

    pub oldest_first : (ws : List (List ℕ)) × (((meaning b m).nodes n).pending ≡ oldest ∷ ws)
    oldest_first = (takes.others, ap (λ (y : M.Node). y.pending) node_is ∙ takes.pending)

    -- without it
    pub taken_changed : (store' : List ℕ) (s' : State) → Listed b m.store store' m.state s' (taken_at ms i)
        → Means b (machine s' store' m.memory) (set_node n (taken ((meaning b m).nodes n)) (meaning b m))
    unfolding taken numbered
    taken_changed store' s' a =
        node_changed b m (parts b m fits) n is (taken ((meaning b m).nodes n)) (onward_ok ((meaning b m).nodes n).handover) store' s'
        (rw (slot, node_is) a)

-- ---- acknowledge
module _ (b : Bench) (m : Machine) (fits : unfit b m ≡ 0) (n h : ℕ) where
  pub acked_7 : is_node b n ≡ false → Obeyed b (acknowledge n h) m (refused 7) m
  unfolding judged asked
  acked_7 r = refused_by b m (acknowledge n h) fits 7 (this 7 (ap not r)) (λ z. omega arith)

  module _ (i : ℕ) (is : is_node b n ≡ true) (slot : node_slot b n ≡ i) (x : Node) (at : get_or m.state.nodes i fresh_node ≡ x) where
    pub acked_14 : x.answers ≡ 0 → Obeyed b (acknowledge n h) m (refused 14) m
    acked_14 e = turning b m (acknowledge n h) fits 14 (acknowledge_14 b (meaning b m) n h is (pending_none b m fits n i is slot x at e))

    pub acked_15 : 0 < x.answers → (h ≡ x.handover → ⊥) → Obeyed b (acknowledge n h) m (refused 15) m
    acked_15 some d =
        let w = oldest_first b m fits n i is slot x at some in
        turning b m (acknowledge n h) fits 15
        (acknowledge_15 b (meaning b m) n h is _ w.0 w.1 (rw (handover_is b m fits n i is slot x at) (ne_eqb h x.handover d)))

    pub acked_0 : 0 < x.answers → h ≡ x.handover → (store' : List ℕ) (s' : State)
        → Listed b m.store store' m.state s' (taken_at (nodes_in m.store m.state.nodes) i)
        → Obeyed b (acknowledge n h) m (answered done) (machine s' store' m.memory)
    unfolding is_refusal
    acked_0 some e store' s' a =
        let w = oldest_first b m fits n i is slot x at some in
        obeying b m (acknowledge n h) fits (answered done) _ _ refl
        (acknowledge_0 b (meaning b m) n h is _ w.0 w.1 (rw (handover_is b m fits n i is slot x at) (eq-eqb h x.handover e)))
        (taken_changed b m fits n i is slot x at some store' s' a)

-- ---- collect: it is obeyed by a machine that stays as it is
module _ (b : Bench) (m : Machine) (f : Form) (n room : ℕ) where
  pub collect_obeyed : Obeyed b (collect f n room) m (expected b (collect f n room) m).said m
  unfolding expected is_refusal
  collect_obeyed = by_fit (eqb (unfit b m) 0) refl
    where
      by_fit : (t : Bool) → eqb (unfit b m) 0 ≡ t
          → (let o = cond t (step b (meaning b m) (collect f n room)) (saying (refused (unfit b m)) (meaning b m)) in Does b o m o.said
          m)
      by_fit true e = record {
        says = refl;
        refusal = λ _. refl;
        sound = λ _. eqb-true (unfit b m) 0 e;
        means = λ _. sym (collect_keeps b (meaning b m) f n room);
      }
      by_fit false e = record { says = refl; refusal = λ _. refl; sound = λ z. absurd (true≢false z); means = λ _. refl }

  collects : (s : Said) (r : Handout) (out out' : List ℕ) → (expected b (collect f n room) m).said ≡ s → r ≡ replied s → out' ≡ written s out
      → Collects b (collect f n room) m r out out'
  collects s r out out' e p q = record {
    reply = p ∙ ap replied (sym e);
    output = q ∙ ap (λ (z : Said). written z out) (sym e);
    obeyed = collect_obeyed;
  }

  module _ (fits : unfit b m ≡ 0) where
    said_is : (s : Said) → step b (meaning b m) (collect f n room) ≡ saying s (meaning b m) → (expected b (collect f n room) m).said ≡ s
    unfolding expected
    said_is s e = ap (λ (o : Outcome). o.said) (yes_cond _ (eq-eqb _ _ fits) ∙ e)

    refusing : (k : ℕ) (out : List ℕ) → step b (meaning b m) (collect f n room) ≡ saying (refused k) (meaning b m)
        → Collects b (collect f n room) m (Handout.Refused k) out out
    unfolding replied written
    refusing k out e = collects (refused k) (Handout.Refused k) out out (said_is (refused k) e) refl refl

    pub collected_7 : (out : List ℕ) → is_node b n ≡ false → Collects b (collect f n room) m (Handout.Refused 7) out out
    collected_7 out r = refusing 7 out (collect_7 b (meaning b m) f n room r)

    module _ (i : ℕ) (is : is_node b n ≡ true) (slot : node_slot b n ≡ i) (x : Node) (at : get_or m.state.nodes i fresh_node ≡ x) where
      pub collected_14 : (out : List ℕ) → x.answers ≡ 0 → Collects b (collect f n room) m (Handout.Refused 14) out out
      collected_14 out e = refusing 14 out (collect_14 b (meaning b m) f n room is (pending_none b m fits n i is slot x at e))

      -- v is the oldest answer in the form asked for
      module _ (some : 0 < x.answers) (v : List ℕ) (e : shown f n (oldest b m fits n i is slot x at some) ≡ v) where
        pub collected_16 : (out : List ℕ) → room < length v → Collects b (collect f n room) m (Handout.Refused 16) out out
        collected_16 out h =
            let w = oldest_first b m fits n i is slot x at some in
            refusing 16 out
            (collect_16 b (meaning b m) f n room is _ w.0 w.1 (rw e (lt-leb (length v) room h)))

        pub collected_0 : length v ≤ room → (out out' : List ℕ) → out' ≡ sets out 0 v → (k : ℕ) → k ≡ length v
            → Collects b (collect f n room) m (Handout.Handed (record { 0 = k }) x.handover) out out'
        unfolding replied written
        collected_0 h out out' q k j =
            let w = oldest_first b m fits n i is slot x at some in
            let s : Said = answered (handed v x.handover) in
            let c : step b (meaning b m) (collect f n room) ≡ saying s (meaning b m) =
            collect_0 b (meaning b m) f n room is _ w.0 w.1 (rw e (le-leb (length v) room h))
            ∙ cc (e, handover_is b m fits n i is slot x at) in
            collects s (Handout.Handed (record { 0 = k }) x.handover) out out' (said_is s c)
            (ap (λ (u : ℕ). Handout.Handed (record { 0 = u }) x.handover) j) q

-- ---- an answer as it is shown, and written to the front of an output
pub shown_headed : (f : Form) (n : ℕ) (w : List ℕ) → bears f n ≡ true → shown f n w ≡ word 0xFF n ∷ w
unfolding shown
shown_headed f n w e = yes_cond w e

pub shown_bare : (f : Form) (n : ℕ) (w : List ℕ) → bears f n ≡ false → shown f n w ≡ w
unfolding shown
shown_bare f n w e = no_cond (word 0xFF n ∷ w) e
