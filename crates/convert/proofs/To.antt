-- To the layout without gaps: what lists in order with places mean is kept. Any bench.
-- Assumes nothing.
use Rattle.units.proofs.Common.{sym, ◌∙◌, ◌≡◌, refl, ap, true, ◌&&◌, List, [], ◌∷◌, ◌++◌, map, ℕ, ◌≤◌, ◌-◌, ◌+◌, suc, zero, arith, length}
use Rattle.units.proofs.Common.{drop, get_or, take, replicate, length-append, length-replicate, drop-drop, take-add, eqb-true, every}
use Rattle.units.proofs.Common.{and_true}
use Rattle.meaning.proofs.Terms.{Bench, well_formed, added, held}
use Rattle.meaning.specs.Gateway as M
use Rattle.machine.proofs.Terms.{laid, all_laid, node_at, formed, bounded, counts}
use Rattle.state.proofs.Lists.{both}
use Rattle.machine.proofs.Read.{node_for, Packed}
use Rattle.store.proofs.Changed.{laid_fits}
use Rattle.placed.specs.Machine.{answer_at, starts_of, places_of, pending_of, node_of}
use Rattle.placed.specs.Consistent.{ok_answer, clear_of, spots, in_order, fine_lists, helds_of, count_right, list_clear, lists_ok}
use Rattle.placed.specs.declared.Node as O
use Rattle.placed.proofs.Formed.{lies}
use Rattle.placed.proofs.Starts.{span, span_tail, pending_long}
use Rattle.placed.proofs.InOrder.{helds_mean}
use Rattle.convert.specs.Convert.{new_node, held_by, runs_of, new_store}

module _ (store : List ℕ) where
  -- ---- the words of a list are those of its answers
  run_is : (k p : ℕ) → take (span store k p) (drop p store) ≡ laid (map (answer_at store) (starts_of store k p))
  unfolding starts_of laid answer_at added
  run_is zero p = refl
  run_is (suc k) p =
      let w : ℕ = get_or store p 0 in
      let s : ℕ = span store k (p + w) in
      rw (span_tail store k p, take-add w s (drop p store), drop-drop w p store, run_is k (p + w))

  runs_laid : (ns : List O.Node) → every (count_right store) ns ≡ true → runs_of store ns ≡ all_laid (map (node_of store) ns)
  unfolding every count_right runs_of all_laid node_of pending_of
  runs_laid [] c = refl
  runs_laid (n ∷ ns) c =
      let d = and_true (count_right store n) (every (count_right store) ns) c in
      let e : n.list.words.0 ≡ span store n.list.count n.list.place = eqb-true _ _ d.0 in
      rw (e, run_is n.list.count n.list.place, runs_laid ns d.1)

  -- ---- nodes count what they mean
  nodes_same : (ns : List O.Node) → map new_node ns ≡ map node_for (map (node_of store) ns)
  unfolding node_of
  nodes_same [] = refl
  nodes_same (n ∷ ns) = rw (pending_long store n.list, nodes_same ns)

  helds_same : (ns : List O.Node) → every (count_right store) ns ≡ true → counts (map held_by ns) ≡ map held (map (node_of store) ns)
  unfolding every count_right node_of
  helds_same [] c = refl
  helds_same (n ∷ ns) c =
      let d = and_true (count_right store n) (every (count_right store) ns) c in
      let e : n.list.words.0 ≡ added (pending_of store n.list) = eqb-true _ _ d.0 in
      cc (helds_same ns d.1)

  -- ---- each answer is a well-formed one of its node
  module _ (b : Bench) where
    formed_run : (j : ℕ) (ps past : List ℕ) (ys : List (ℕ × ℕ)) → in_order b store past (map (λ p. (j, p)) ps ++ ys) ≡ true
        → (every (well_formed b (node_at b j)) (map (answer_at store) ps) ≡ true) × ((past' : List ℕ) × (in_order b store past' ys ≡ true))
    unfolding in_order every
    formed_run j [] past ys h = (refl, (past, h))
    formed_run j (p ∷ ps) past ys h =
        let o = and_true (ok_answer b store j p) _ h in
        let c = and_true (clear_of store past p) _ o.1 in
        let r = formed_run j ps (p ∷ past) ys c.1 in
        (both (lies b store j p o.0).formed r.0, r.1)

    formed_all : (j : ℕ) (ns : List O.Node) (past : List ℕ) → in_order b store past (spots store j ns) ≡ true
        → formed b j (map (node_of store) ns) ≡ true
    unfolding spots formed node_of pending_of
    formed_all j [] past h = refl
    formed_all j (n ∷ ns) past h =
        let r = formed_run j (places_of store n.list) past (spots store (suc j) ns) h in
        both r.0 (formed_all (suc j) ns r.1.0 r.1.1)

module _ (b : Bench) (store : List ℕ) (ns : List O.Node) (size : length store ≡ b.store) (ok : lists_ok b store ns ≡ true) where
  pub packed_new : Packed b (new_store store ns) (map new_node ns) (map held_by ns) (map (node_of store) ns)
  unfolding lists_ok fine_lists new_store
  packed_new =
      let ms : List M.Node = map (node_of store) ns in
      let p = and_true (in_order b store [] (spots store 0 ns)) _ ok in
      let q = and_true (every (count_right store) ns) (bounded b (helds_of store ns) && every list_clear ns) p.1 in
      let r = and_true (bounded b (helds_of store ns)) (every list_clear ns) q.1 in
      let f = formed_all store b 0 ns [] p.0 in
      let o : bounded b (map held ms) ≡ true = rw helds_mean at r.0 in
      let w : runs_of store ns ≡ all_laid ms = runs_laid store ns q.0 in
      let l : length (new_store store ns) ≡ b.store =
      length-append (runs_of store ns) (replicate (length store - length (runs_of store ns)) 0)
      ∙ omega (arith, length-replicate {A = ℕ} (length store - length (runs_of store ns)) 0, laid_fits b ms f o, ap length w, size) in
      record {
        size = l;
        nodes = nodes_same store ns;
        helds = helds_same store ns q.0;
        spare = length store - length (runs_of store ns);
        words = ap (λ (v : List ℕ). v ++ replicate (length store - length (runs_of store ns)) 0) w;
        formed = f;
        bounds = o;
      }

  -- the words of all lists fit
  pub runs_fit : length (runs_of store ns) ≤ b.store
  unfolding new_store
  runs_fit =
      let e = sym (length-append (runs_of store ns) (replicate (length store - length (runs_of store ns)) 0)) ∙ packed_new.size in omega
      arith
