-- A call at a node, as the code decides it: the node's slot, and a promise without refusals 1 and 2.
-- Assumes nothing.
use Rattle.units.proofs.Common.{sym, ◌∙◌, ◌≡◌, refl, ap, subst, true, false, Bool, cond, List, ℕ, ◌≤◌, ◌+◌, ◌<◌, arith, length, drop, get_or}
use Rattle.units.proofs.Common.{take, set, get_or-drop, eq-eqb, yes_cond, no_cond}
use Rattle.meaning.specs.Bench.{node_count}
use Rattle.meaning.proofs.Terms.{Bench, full, is_node, Call, Said, refused, Outcome, step, overall}
use Rattle.machine.proofs.Terms.{Machine, node_slot, nodes_in, meaning, fresh_node, taken_node, counts, unfit}
use Rattle.state.specs.declared.node.Node.{Node}
use Rattle.store.specs.Changes.{with_lists, Listed, taken_at}
use Rattle.store.specs.Swept.{Takeable, Takes}
use Rattle.units.specs.declared.Words.{Words}
use Rattle.machine.proofs.Read.{blank, node_any}
use Rattle.promise.specs.Obeyed.{said_of, Does, Obeyed, expected, Makes}
use Rattle.promise.specs.declared.Reply.{Reply}
use Rattle.promise.specs.declared.Called.{Called}
use Rattle.lists.specs.Room.{place_of}
use Rattle.promise.proofs.Parts.{parts}
use Rattle.promise.proofs.Oldest.{takes, oldest}
use Rattle.promise.proofs.Tables.{node_inside}

-- ---- the slot that is found for a node, 17 for none
module _ (n i : ℕ) (e : i ≡ cond (is_node full n) (node_slot full n) (node_count full)) where
  pub slot_out : node_count full ≤ i → is_node full n ≡ false
  slot_out h = by (is_node full n) refl
    where
      by : (t : Bool) → is_node full n ≡ t → is_node full n ≡ false
      by true p = let k = node_inside full n (node_count full) p refl in let q : i ≡ node_slot full n = e ∙ yes_cond
          (node_count full) p in absurd (omega arith)
      by false p = p

  slot_in : i < node_count full → (is_node full n ≡ true) × (node_slot full n ≡ i)
  slot_in h = by (is_node full n) refl
    where
      by : (t : Bool) → is_node full n ≡ t → (is_node full n ≡ true) × (node_slot full n ≡ i)
      by true p = (p, sym (e ∙ yes_cond (node_count full) p))
      by false p = let q : i ≡ node_count full = e ∙ no_cond (node_slot full n) p in absurd (omega arith)

-- a node with a slot: what the code reads there is what stands there
pub record Found (m : Machine) (n i : ℕ) : Type 0 where
  pub is : is_node full n ≡ true
  pub slot : node_slot full n ≡ i
  pub at : get_or m.state.nodes i fresh_node ≡ get_or m.state.nodes i blank

pub found : (m : Machine) → unfit full m ≡ 0 → (n i : ℕ) → i ≡ cond (is_node full n) (node_slot full n)
    (node_count full) → i < node_count full → Found m n i
found m fits n i e h =
    let p = slot_in n i e h in
    record { is = p.0; slot = p.1; at = sym (node_any m.state.nodes i (omega (arith, (parts full m fits).each_node))) }

-- ---- the oldest answer of a node, which stands at its place: the code reads there how many words it has
pub record Stands (m : Machine) (place : ℕ) (w : List ℕ) : Type 0 where
  pub says : get_or m.store place 0 ≡ length w
  pub words : take (get_or m.store place 0) (drop place m.store) ≡ w
  pub least : 6 ≤ length w
  pub most : length w ≤ overall 255
  pub inside : place + length w ≤ length m.store

pub stands : (m : Machine) (fits : unfit full m ≡ 0) (n i : ℕ) (f : Found m n i) (some : 0 < (get_or m.state.nodes i blank).answers)
    (place : ℕ)
    → place ≡ place_of (counts m.state.held) i → Stands m place (oldest full m fits n i f.is f.slot _ f.at some)
stands m fits n i f some place e =
    let k = takes full m fits n i f.is f.slot (get_or m.state.nodes i blank) f.at some in
    let g : get_or (drop place m.store) 0 0 ≡ get_or m.store place 0 = get_or-drop place m.store 0 0 ∙ ap
    (λ (j : ℕ). get_or m.store j 0) (omega arith) in
    let w : take (get_or (drop place m.store) 0 0) (drop place m.store) ≡ k.oldest = rw e k.stands in
    record {
      says = rw e k.says;
      words = rw g at w;
      least = k.least;
      most = k.most;
      inside = omega (arith, k.before, k.inside);
    }

-- ---- .. taken away
module _ (m : Machine) (fits : unfit full m ≡ 0) (n i : ℕ) (f : Found m n i) (some : 0 < (get_or m.state.nodes i blank).answers) where
  pub takeable : Takeable full m.state.held i m.store
  takeable =
      let k = takes full m fits n i f.is f.slot (get_or m.state.nodes i blank) f.at some in
      record {
        index = omega (arith, f.slot, node_inside full n (node_count full) f.is refl);
        least = omega (arith, k.says, k.least);
        own = omega (arith, k.says, k.own);
        before = omega (arith, k.says, k.before);
        inside = k.inside;
      }

  pub taken_listed : {store' : List ℕ} {hs : List Words} {x : Node} → Takes full m.state.held i m.store store' hs
      → x ≡ taken_node (get_or m.state.nodes i blank)
      → Listed full m.store store' m.state (with_lists m.state (set m.state.nodes i x) hs)
      (taken_at (nodes_in m.store m.state.nodes) i)
  taken_listed t e = rw (e, t.held, t.words) (takes full m fits n i f.is f.slot (get_or m.state.nodes i blank) f.at
      some).after

-- ---- the promise on a machine that has neither refusal
module _ (b : Bench) (m : Machine) (fits : unfit b m ≡ 0) (c : Call) where
  pub by_fit : (s : Said) (m' : Machine) → Obeyed b c m s m' → Does b (step b (meaning b m) c) m s m'
  unfolding expected
  by_fit s m' d = subst (λ (o : Outcome). Does b o m s m') (yes_cond _ (eq-eqb _ _ fits)) d

  pub refusing : (k : ℕ) (r : Called) → r ≡ record { reply = Reply.Refused k; state = m.state } → Obeyed b c m (refused k) m
      → Makes b (λ g. step b g c) m.state m.store m.memory r m.store m.memory
  unfolding said_of
  refusing k r e d = rw e (by_fit (refused k) m d)
