-- On a consistent machine the lent store is the one that the gateway's lists make: the words of a look are those of the definition.
-- Assumes nothing.
use Rattle.units.proofs.Common.{sym, ◌∙◌, ◌≡◌, refl, ap, inl, inr, ◌⊎◌, true, List, [], ◌∷◌, ◌++◌, ℕ, ◌≤◌, ◌-◌, ◌+◌, ◌<◌, suc, zero, arith}
use Rattle.units.proofs.Common.{length, get_or, length-append, get_or-append, ext_get_or, le-leb}
use Rattle.meaning.proofs.Terms.{Bench, hub, is_reader, Node}
use Rattle.demands.specs.Sound.{Sound}
use Rattle.machine.proofs.Terms.{store_of, Machine, meaning, nodes_in, plain, unfit}
use Rattle.state.proofs.Lists.{both, below_or}
use Rattle.machine.proofs.Read.{packed_of, packed_store}
use Rattle.promise.proofs.Parts.{Parts, parts}
use Rattle.promise.proofs.Nodes.{many}
use Rattle.promise.proofs.Tables.{reader_node, reader_slot, node_hub, node_at}
use Rattle.dialog.specs.Dialog.{first_nodes, in_order}

-- ---- the nodes in order, one by one
length_first : (n : ℕ) (f : ℕ → Node) → length (first_nodes n f) ≡ n
unfolding first_nodes
length_first zero f = refl
length_first (suc n) f = omega (arith, length-append (first_nodes n f) (f (suc n) ∷ []), length_first n f)

-- the one behind a list
next_at : (l : List Node) (x : Node) (i : ℕ) → i ≡ length l → get_or (l ++ (x ∷ [])) i plain ≡ x
next_at [] x i e = ap (λ (j : ℕ). get_or (x ∷ []) j plain) e
next_at (y ∷ l) x i e = ap (λ (j : ℕ). get_or (y ∷ (l ++ (x ∷ []))) j plain) e ∙ next_at l x (length l) refl

first_at : (n : ℕ) (f : ℕ → Node) (i : ℕ) → i < n → get_or (first_nodes n f) i plain ≡ f (i + 1)
unfolding first_nodes
first_at zero f i h = absurd (omega (arith, h))
first_at (suc n) f i h = elim (below_or i n) [
  | inl l ↦ get_or-append (first_nodes n f) (f (suc n) ∷ []) plain i (omega (arith, l, length_first n f)) ∙ first_at n f i l
  | inr l ↦
      let e : suc n ≡ i + 1 = omega arith in
      next_at (first_nodes n f) (f (suc n)) i (omega (arith, l, length_first n f)) ∙ ap f e
]

module _ (b : Bench) (ok : Sound b) (m : Machine) (fits : unfit b m ≡ 0) where
  known : Parts b m
  known = parts b m fits

  abbrev nodes : List Node
  nodes = nodes_in m.store m.state.nodes

  abbrev f : ℕ → Node
  f = (meaning b m).nodes

  length_order : length (in_order b (meaning b m)) ≡ b.readers + 1
  unfolding in_order
  length_order = omega (arith, length-append (first_nodes b.readers f) (f hub ∷ []), length_first b.readers f)

  node_in_order : (i : ℕ) → i < b.readers + 1 → get_or nodes i plain ≡ get_or (in_order b (meaning b m)) i plain
  unfolding in_order
  node_in_order i h = by_place (below_or i b.readers)
    where
      by_place : (i < b.readers) ⊎ (b.readers ≤ i) → get_or nodes i plain ≡ get_or (first_nodes b.readers f ++ (f hub ∷ [])) i plain
      by_place (inl l) =
          let r : is_reader b (i + 1) ≡ true = both (le-leb 1 (i + 1) (omega arith)) (le-leb (i + 1) b.readers (omega arith)) in
          let s : i + 1 - 1 ≡ i = omega arith in
          ap (λ (k : ℕ). get_or nodes k plain) (sym (reader_slot b ok (i + 1) r ∙ s))
          ∙ sym (node_at b m (i + 1) (reader_node b (i + 1) r))
          ∙ sym (first_at b.readers f i l)
          ∙ sym (get_or-append (first_nodes b.readers f) (f hub ∷ []) plain i (omega (arith, l, length_first b.readers f)))
      by_place (inr l) =
          let s : b.readers ≡ i = omega arith in
          ap (λ (k : ℕ). get_or nodes k plain) (sym s)
          ∙ sym (node_at b m hub (node_hub b))
          ∙ sym (next_at (first_nodes b.readers f) (f hub) i (omega (arith, s, length_first b.readers f)))

  nodes_in_order : nodes ≡ in_order b (meaning b m)
  nodes_in_order = ext_get_or plain _ _ (many b m known ∙ sym length_order) (λ i h. node_in_order i (omega (arith, h, many b m known)))

  pub store_lies : m.store ≡ store_of b.store (in_order b (meaning b m))
  store_lies =
      packed_store b m.store m.state.nodes m.state.held nodes
      (packed_of b m.store m.state.nodes m.state.held known.store known.lists)
      ∙ ap (λ (n : ℕ). store_of n nodes) known.store ∙ ap (store_of b.store) nodes_in_order
