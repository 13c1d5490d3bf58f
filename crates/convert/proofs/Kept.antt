-- Both converters keep the meaning; there and back from the layout without gaps is the same machine. Any bench.
-- Assumes nothing.
use Rattle.units.proofs.Common.{rules, sym, ◌∙◌, ◌≡◌, refl, ap, ◌&&◌, List, [], ◌∷◌, map, ℕ, leb, length, length-map, every}
use Rattle.meaning.proofs.Terms.{Bench}
use Rattle.meaning.specs.Gateway as M
use Rattle.demands.specs.Sound as D
use Rattle.machine.specs.Machine as N
use Rattle.machine.proofs.Terms.{nodes_in}
use Rattle.machine.specs.Consistent as C
use Rattle.machine.proofs.Read.{length_nodes, Packed, packed_of, packed_means, packed_ok}
use Rattle.promise.proofs.Parts as NP
use Rattle.promise.proofs.Nodes.{numbered, handovers}
use Rattle.promise.proofs.Only.{same_means}
use Rattle.placed.specs.Machine as P
use Rattle.placed.specs.Machine.{node_of}
use Rattle.placed.specs.Consistent as PC
use Rattle.placed.specs.declared.Node as O
use Rattle.placed.proofs.Parts as PP
use Rattle.convert.specs.Convert.{new_node, held_by, new_machine, old_machine}
use Rattle.convert.proofs.To.{packed_new}
use Rattle.convert.proofs.Back.{placed_means, placed_ok}

-- ---- handover numbers stay
handed_new : (ns : List O.Node) → every PC.node_ok ns ≡ every C.node_ok (map new_node ns)
unfolding every PC.node_ok C.node_ok
handed_new [] = refl
handed_new (n ∷ ns) = ap (λ t. leb 1 n.handover && t) (handed_new ns)

handed_old : (store : List ℕ) (ns : List O.Node) → every PC.node_ok ns ≡ every numbered (map (node_of store) ns)
unfolding every PC.node_ok numbered node_of
handed_old store [] = refl
handed_old store (n ∷ ns) = ap (λ t. leb 1 n.handover && t) (handed_old store ns)

-- ---- to the layout without gaps
module _ (b : Bench) (m : P.Machine) (ok : PC.unfit b m ≡ 0) where
  packed : Packed b (new_machine m).store (new_machine m).state.nodes (new_machine m).state.held
      (map (node_of m.store) m.state.nodes)
  packed = let p = PP.parts b m ok in packed_new b m.store m.state.nodes p.store p.lists

  pub new_fit : C.unfit b (new_machine m) ≡ 0
  new_fit =
      let p = PP.parts b m ok in
      let size = packed.size in
      let lists = packed_ok b _ _ _ _ packed in
      let nodes = sym (handed_new m.state.nodes) ∙ p.nodes in
      let each = length-map m.state.nodes new_node ∙ p.each_node in
      let helds = length-map m.state.nodes held_by ∙ p.each_node in
      NP.fit b (new_machine m) (search rules)

  pub new_means : N.meaning b (new_machine m) ≡ P.meaning b m
  unfolding N.meaning N.nodes_of P.meaning P.nodes_of
  new_means = rw (packed_means b _ _ _ _ packed)

-- ---- to the layout with places
module _ (b : Bench) (m : N.Machine) (ok : C.unfit b m ≡ 0) where
  abbrev ms : List M.Node
  ms = nodes_in m.store m.state.nodes

  unpacked : Packed b m.store m.state.nodes m.state.held ms
  unpacked = let p = NP.parts b m ok in packed_of b m.store m.state.nodes m.state.held p.store p.lists

  old_nodes : map (node_of m.store) (old_machine m).state.nodes ≡ ms
  old_nodes = placed_means b m.store m.state.nodes m.state.held ms unpacked

  pub old_fit : PC.unfit b (old_machine m) ≡ 0
  old_fit =
      let p = NP.parts b m ok in
      let ns : List O.Node = (old_machine m).state.nodes in
      let lists = placed_ok b m.store m.state.nodes m.state.held ms unpacked in
      let nodes = handed_old m.store ns ∙ ap (every numbered) old_nodes ∙ sym (handovers m.store m.state.nodes) ∙ p.nodes in
      let each = sym (length-map ns (node_of m.store)) ∙ ap length old_nodes ∙ length_nodes m.store m.state.nodes ∙ p.each_node in
      PP.fit b (old_machine m) (search rules)

  pub old_means : P.meaning b (old_machine m) ≡ N.meaning b m
  unfolding N.meaning N.nodes_of P.meaning P.nodes_of
  old_means = rw old_nodes

-- ---- "There and back from new is the same machine"
pub there_and_back : (b : Bench) → D.Sound b → (m : N.Machine) → C.unfit b m ≡ 0 → new_machine (old_machine m) ≡ m
there_and_back b ok m fits =
    let f = old_fit b m fits in
    same_means b ok (new_machine (old_machine m)) m (NP.parts b _ (new_fit b (old_machine m) f)) (NP.parts b m fits)
    (new_means b (old_machine m) f ∙ old_means b m fits)
