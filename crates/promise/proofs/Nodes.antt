-- The lists changed, and nothing else: one node's, as an answer joins or leaves, or all of them; and the name changed.
-- Assumes nothing.
use Rattle.units.proofs.Common.{rules, sym, ◌∙◌, ◌≡◌, refl, ap, subst, true, false, Bool, cond, ◌&&◌, List, [], ◌∷◌, map, ℕ, ◌+◌, arith}
use Rattle.units.proofs.Common.{eqb, leb, length, take, set, length-set, length-map, le-leb, every, and_true}
use Rattle.units.specs.declared.Words.{Words}
use Rattle.meaning.proofs.Terms.{Bench, is_node, Gateway, set_node, onward, Sweep, clearing, resetting, none, emptied, swept, sweep, held}
use Rattle.meaning.specs.Gateway as M
use Rattle.meaning.specs.Gateway.{set_name}
use Rattle.machine.proofs.Terms.{Machine, machine, meaning, seen, node_slot, nodes_in, nodes_of, plain, node_ok, name_ok, unfit, past}
use Rattle.state.specs.declared.node.Node.{Node}
use Rattle.state.specs.declared.Name.{Name}
use Rattle.state.specs.declared.State.{State}
use Rattle.state.proofs.Lists.{both, every_set}
use Rattle.machine.proofs.Read.{length_nodes, packed_of}
use Rattle.store.specs.Changes.{Listed}
use Rattle.promise.proofs.Parts.{Parts, parts, fit, Means}
use Rattle.promise.proofs.Tables.{seen_set, seen_map, node_inj, node_inside}

-- ---- handover numbers: 1 at least, as the code judges the nodes, by what they mean
unfoldable pub numbered : M.Node → Bool
numbered x = leb 1 x.handover

pub handovers : (w : List ℕ) (ns : List Node) → every node_ok ns ≡ every numbered (nodes_in w ns)
unfolding every node_ok numbered nodes_in
handovers w [] = refl
handovers w (n ∷ ns) = ap (λ t. node_ok n && t) (handovers (past n.answers w) ns)

-- the number that follows is one
pub onward_ok : (h : ℕ) → leb 1 (onward h) ≡ true
unfolding onward
onward_ok h = by_last (eqb h 65535)
  where
    by_last : (t : Bool) → leb 1 (cond t 1 (h + 1)) ≡ true
    by_last true = refl
    by_last false = le-leb 1 (h + 1) (omega arith)

emptied_numbered : (x : M.Node) (as' : List (List ℕ)) → numbered x ≡ true → leb 1 (emptied x as').handover ≡ true
unfolding emptied numbered
emptied_numbered x [] h = h
emptied_numbered x (a ∷ r) h = onward_ok x.handover

swept_numbered : (z : Sweep) (x : M.Node) → numbered x ≡ true → numbered (swept z x) ≡ true
unfolding swept numbered
swept_numbered none x h = h
swept_numbered clearing x h = emptied_numbered x x.pending h
swept_numbered resetting x h = emptied_numbered x x.pending h

every_swept : (z : Sweep) (ms : List M.Node) → every numbered ms ≡ true → every numbered (map (swept z) ms) ≡ true
unfolding every
every_swept z [] h = refl
every_swept z (x ∷ ms) h = let p = and_true (numbered x) (every numbered ms) h in both (swept_numbered z x p.0) (every_swept z ms p.1)

-- ---- other lists, which mean ms
module _ (b : Bench) (m : Machine) (p : Parts b m) where
  abbrev now : List M.Node
  now = nodes_in m.store m.state.nodes

  pub many : length now ≡ b.readers + 1
  many = length_nodes m.store m.state.nodes ∙ p.each_node

  pub all_numbered : every numbered now ≡ true
  all_numbered = subst (λ (t : Bool). t ≡ true) (handovers m.store m.state.nodes) p.nodes

  -- the gateway with other nodes
  abbrev among : (ℕ → M.Node) → Gateway
  among f = record { name = (meaning b m).name; nodes = f; reader = (meaning b m).reader }

  module _ (store' : List ℕ) (s' : State) (ms : List M.Node) (a : Listed b m.store store' m.state s' ms) where
    listed_means : meaning b (machine s' store' m.memory) ≡ among (seen (is_node b) (node_slot b) plain ms)
    unfolding meaning nodes_of
    listed_means =
        rw (← a.nodes, a.rest)

    listed_fit : length ms ≡ b.readers + 1 → every numbered ms ≡ true → Parts b (machine s' store' m.memory)
    listed_fit l h =
        let q = packed_of b store' s'.nodes s'.held (a.long ∙ p.store) a.lists in
        let n : length (nodes_in store' s'.nodes) ≡ b.readers + 1 = ap length a.nodes ∙ l in
        let k : length s'.nodes ≡ b.readers + 1 = rw length_nodes at n in
        let c : length s'.held ≡ b.readers + 1 = sym (length-map s'.held (λ (w : Words). w.0)) ∙ ap length q.helds ∙ length-map
        (nodes_in store' s'.nodes) held ∙ n in
        let o : every node_ok s'.nodes ≡ true = handovers store' s'.nodes ∙ ap (every numbered) a.nodes ∙ h in
        let long = a.long ∙ p.store in
        subst (λ (t : State). Parts b (machine t store' m.memory)) (sym a.rest) (search rules)

  -- node n is another
  module _ (n : ℕ) (is : is_node b n ≡ true) (x : M.Node) (h : numbered x ≡ true) (store' : List ℕ) (s' : State)
      (a : Listed b m.store store' m.state s' (set now (node_slot b n) x)) where
    pub node_changed : Means b (machine s' store' m.memory) (set_node n x (meaning b m))
    unfolding meaning nodes_of
    node_changed = record {
      fit = fit b _ (listed_fit store' s' _ a (length-set now (node_slot b n) x ∙ many)
          (every_set numbered now (node_slot b n) x all_numbered h));
      means = listed_means store' s' _ a
          ∙ ap among (seen_set (is_node b) (node_slot b) plain now n x is (node_inside b n (length now) is many)
          (λ k q r. node_inj b k n is q r));
    }

  -- every list is emptied
  module _ (z : Sweep) (d : swept z plain ≡ plain) (store' : List ℕ) (s' : State)
      (a : Listed b m.store store' m.state s' (map (swept z) now)) where
    pub nodes_swept : Means b (machine s' store' m.memory) (sweep z (meaning b m))
    unfolding meaning nodes_of
    nodes_swept = record {
      fit = fit b _ (listed_fit store' s' _ a (length-map now (swept z) ∙ many) (every_swept z now all_numbered));
      means = listed_means store' s' _ a ∙ ap among (seen_map (is_node b) (node_slot b) plain now (swept z) d);
    }

-- ---- the name replaced
abbrev pub with_name : State → Name → State
with_name s t = record { name = t; readers = s.readers; nodes = s.nodes; held = s.held }

pub name_changed : (b : Bench) (m : Machine) (t : Name) → unfit b m ≡ 0 → name_ok t ≡ true → length t.bytes ≡ 64
    → (s : List ℕ) → take t.length.0 t.bytes ≡ s
    → Means b (machine (with_name m.state t) m.store m.memory) (set_name s (meaning b m))
unfolding meaning
name_changed b m t u o l s e = let p = parts b m u in record { fit = fit b _ (search rules); means = rw e }
