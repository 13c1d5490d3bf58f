-- To the layout with places: those that the layout without gaps gives make lists in order, which mean the same. Any bench.
-- Assumes nothing.
use Rattle.units.proofs.Common.{sym, ◌∙◌, ◌≡◌, refl, ap, true, false, Bool, cond, not, List, [], ◌∷◌, ◌++◌, map, append_assoc, ℕ, ◌≤◌, ◌+◌}
use Rattle.units.proofs.Common.{suc, min, max, add-zero, arith, eqb, length, get_or, replicate, length-append, get_or-append-add, eq-eqb}
use Rattle.units.proofs.Common.{le-leb, eqb-true, le-ltb, every, and_true}
use lib.Seq.{drop-append_seam, take-append_seam}
use Rattle.units.specs.declared.Words.{Words}
use Rattle.meaning.proofs.Terms.{Bench, well_formed, added, held}
use Rattle.meaning.specs.Gateway as M
use Rattle.machine.proofs.Terms.{laid, all_laid, node_at, formed, bounded, counts}
use Rattle.state.specs.declared.node.Node.{Node}
use Rattle.state.proofs.Lists.{both}
use Rattle.machine.proofs.Read.{first_word, length_laid, node_for, Packed}
use Rattle.placed.specs.Machine.{answer_at, starts_of, pending_of, node_of}
use Rattle.placed.specs.Consistent.{ok_answer, overlap, clear_of, spots, in_order, fine_lists, helds_of, count_right, list_clear, lists_ok}
use Rattle.placed.proofs.InOrder.{helds_mean}
use Rattle.convert.specs.Convert.{old_nodes}

-- ---- an answer in a store x that has it behind p
module _ (b : Bench) (j : ℕ) (x p a r : List ℕ) (e : x ≡ p ++ (a ++ r)) (h : well_formed b (node_at b j) a ≡ true) where
  first_here : get_or x (length p) 0 ≡ length a
  first_here =
      rw e (ap (λ (k : ℕ). get_or (p ++ (a ++ r)) k 0) (sym (add-zero (length p))) ∙ get_or-append-add p (a ++ r) 0 0
      ∙ first_word b (node_at b j) a r h)

  answer_here : answer_at x (length p) ≡ a
  unfolding answer_at
  answer_here = rw first_here (rw e (rw drop-append_seam (take-append_seam a r)))

  ok_here : ok_answer b x j (length p) ≡ true
  unfolding ok_answer
  ok_here =
      let l : length p + length a ≤ length x = rw e (simp length-append (omega arith)) in
      rw (first_here, answer_here) (both (le-leb _ _ l) h)

-- ---- answers passed end at or before a place
abbrev Ends : List ℕ → ℕ → List ℕ → Type 0
Ends x to [] = Unit {0}
Ends x to (q ∷ qs) = (q + get_or x q 0 ≤ to) × Ends x to qs

ends_later : (x : List ℕ) (to to' : ℕ) (qs : List ℕ) → to ≤ to' → Ends x to qs → Ends x to' qs
ends_later x to to' [] h a = tt
ends_later x to to' (q ∷ qs) h a = (omega (arith, a.0), ends_later x to to' qs h a.1)

clear_ends : (x : List ℕ) (to : ℕ) (qs : List ℕ) → Ends x to qs → clear_of x qs to ≡ true
unfolding clear_of overlap
clear_ends x to [] a = refl
clear_ends x to (q ∷ qs) a =
    let m : min (q + get_or x q 0) (to + get_or x to 0) ≤ max q to = omega (arith, a.0) in
    both (ap not (le-ltb _ _ m)) (clear_ends x to qs a.1)

-- ---- the answers of a node, behind p
module _ (b : Bench) (x q : List ℕ) (j : ℕ) where
  run_reads : (p : List ℕ) (as' : List (List ℕ)) → x ≡ p ++ (laid as' ++ q) → every (well_formed b (node_at b j)) as' ≡ true
      → map (answer_at x) (starts_of x (length as') (length p)) ≡ as'
  unfolding laid starts_of every
  run_reads p [] e f = refl
  run_reads p (a ∷ r) e f =
      let w = and_true (well_formed b (node_at b j) a) (every (well_formed b (node_at b j)) r) f in
      let e₁ : x ≡ p ++ (a ++ (laid r ++ q)) = rw append_assoc at e in
      let e₂ : x ≡ (p ++ a) ++ (laid r ++ q) = e₁ ∙ sym (append_assoc p a (laid r ++ q)) in
      let g = first_here b j x p a (laid r ++ q) e₁ w.0 in
      let k = answer_here b j x p a (laid r ++ q) e₁ w.0 in
      let l : length p + length a ≡ length (p ++ a) = sym (length-append p a) in
      rw (k, g, l, run_reads (p ++ a) r e₂ w.1)

  run_fine : (p : List ℕ) (as' : List (List ℕ)) (seen : List ℕ) (ys : List (ℕ × ℕ)) → x ≡ p ++ (laid as' ++ q)
      → every (well_formed b (node_at b j)) as' ≡ true → Ends x (length p) seen
      → ((seen' : List ℕ) → Ends x (length (p ++ laid as')) seen' → in_order b x seen' ys ≡ true)
      → in_order b x seen (map (λ s. (j, s)) (starts_of x (length as') (length p)) ++ ys) ≡ true
  unfolding laid starts_of every in_order
  run_fine p [] seen ys e f a go = go seen (ends_later x _ _ seen (rw length-append (omega arith)) a)
  run_fine p (w ∷ r) seen ys e f a go =
      let h = and_true (well_formed b (node_at b j) w) (every (well_formed b (node_at b j)) r) f in
      let e₁ : x ≡ p ++ (w ++ (laid r ++ q)) = rw append_assoc at e in
      let e₂ : x ≡ (p ++ w) ++ (laid r ++ q) = e₁ ∙ sym (append_assoc p w (laid r ++ q)) in
      let g = first_here b j x p w (laid r ++ q) e₁ h.0 in
      let l : length p + length w ≡ length (p ++ w) = sym (length-append p w) in
      let z : (p ++ w) ++ laid r ≡ p ++ (w ++ laid r) = append_assoc p w (laid r) in
      let a₂ : Ends x (length (p ++ w)) (length p ∷ seen) = (omega arith, ends_later x _ _ seen (omega arith) a) in
      both (ok_here b j x p w (laid r ++ q) e₁ h.0)
      (both (clear_ends x (length p) seen a)
      (rw (g, l) (run_fine (p ++ w) r (length p ∷ seen) ys e₂ h.1 a₂ (λ s t. go s (rw z at t)))))

-- ---- a list whose place is 0 where it is empty
starts_by : (x : List ℕ) (k to : ℕ) (t : Bool) → eqb k 0 ≡ t → starts_of x k (cond t 0 to) ≡ starts_of x k to
unfolding starts_of
starts_by x k to true e = let z : k ≡ 0 = eqb-true k 0 e in rw z
starts_by x k to false e = refl

clear_by : (to : ℕ) (t : Bool) → cond t (eqb (cond t 0 to) 0) true ≡ true
clear_by to true = refl
clear_by to false = refl

old_clear : (to : ℕ) (ns : List Node) (hs : List Words) → every list_clear (old_nodes to ns hs) ≡ true
unfolding old_nodes every list_clear
old_clear to [] hs = refl
old_clear to (n ∷ ns) [] = refl
old_clear to (n ∷ ns) (h ∷ hs) = both (clear_by to (eqb n.answers 0)) (old_clear (to + h.0) ns hs)

-- ---- the words that nodes hold follow from what they mean
abbrev held_for : M.Node → Words
held_for m = record { 0 = held m }

helds_for : (hs : List Words) (ms : List M.Node) → counts hs ≡ map held ms → hs ≡ map held_for ms
helds_for [] [] e = refl
helds_for [] (m ∷ ms) e = absurd (let z : ◌≡◌ {A = ℕ} 0 1 = cc in omega arith)
helds_for (h ∷ hs) [] e = absurd (let z : ◌≡◌ {A = ℕ} 0 1 = cc in omega arith)
helds_for (h ∷ hs) (m ∷ ms) e =
    let p : h.0 ≡ held m = cc in
    let q : counts hs ≡ map held ms = cc in
    rw (← p) (ap (λ (l : List Words). h ∷ l) (helds_for hs ms q))

-- ---- all nodes, in a store x that has their answers behind p
module _ (b : Bench) (x q : List ℕ) where
  old_fine : (p : List ℕ) (j : ℕ) (ms : List M.Node) (seen : List ℕ) → x ≡ p ++ (all_laid ms ++ q) → formed b j ms ≡ true
      → Ends x (length p) seen → in_order b x seen (spots x j (old_nodes (length p) (map node_for ms) (map held_for ms))) ≡ true
  unfolding old_nodes spots in_order all_laid formed
  old_fine p j [] seen e f a = refl
  old_fine p j (m ∷ ms) seen e f a =
      let h = and_true (every (well_formed b (node_at b j)) m.pending) (formed b (suc j) ms) f in
      let e₁ : x ≡ p ++ (laid m.pending ++ (all_laid ms ++ q)) = rw append_assoc at e in
      let e₂ : x ≡ (p ++ laid m.pending) ++ (all_laid ms ++ q) = e₁ ∙ sym (append_assoc p (laid m.pending) (all_laid ms ++ q)) in
      let l : length p + added m.pending ≡ length (p ++ laid m.pending) =
      rw (length-append, length_laid b (node_at b j) m.pending h.0) in
      rw (starts_by x (length m.pending) (length p) (eqb (length m.pending) 0) refl, l)
      (run_fine b x (all_laid ms ++ q) j p m.pending seen
      (spots x (suc j) (old_nodes (length (p ++ laid m.pending)) (map node_for ms) (map held_for ms)))
      e₁ h.0 a (λ s t. old_fine (p ++ laid m.pending) (suc j) ms s e₂ h.1 t))

  old_means : (p : List ℕ) (j : ℕ) (ms : List M.Node) → x ≡ p ++ (all_laid ms ++ q) → formed b j ms ≡ true
      → (map (node_of x) (old_nodes (length p) (map node_for ms) (map held_for ms)) ≡ ms)
      × (every (count_right x) (old_nodes (length p) (map node_for ms) (map held_for ms)) ≡ true)
  unfolding old_nodes node_of pending_of all_laid formed every count_right
  old_means p j [] e f = (refl, refl)
  old_means p j (m ∷ ms) e f =
      let h = and_true (every (well_formed b (node_at b j)) m.pending) (formed b (suc j) ms) f in
      let e₁ : x ≡ p ++ (laid m.pending ++ (all_laid ms ++ q)) = rw append_assoc at e in
      let e₂ : x ≡ (p ++ laid m.pending) ++ (all_laid ms ++ q) = e₁ ∙ sym (append_assoc p (laid m.pending) (all_laid ms ++ q)) in
      let l : length p + added m.pending ≡ length (p ++ laid m.pending) =
      rw (length-append, length_laid b (node_at b j) m.pending h.0) in
      let s = starts_by x (length m.pending) (length p) (eqb (length m.pending) 0) refl in
      let g = run_reads b x (all_laid ms ++ q) j p m.pending e₁ h.0 in
      let r = old_means (p ++ laid m.pending) (suc j) ms e₂ h.1 in
      (rw (s, g, l, r.0), rw (s, g, l) (both (eq-eqb (added m.pending) (added m.pending) refl) r.1))

-- ---- lists without gaps, given places
module _ (b : Bench) (store : List ℕ) (ns : List Node) (hs : List Words) (ms : List M.Node) (p : Packed b store ns hs ms) where
  old_is : old_nodes 0 ns hs ≡ old_nodes 0 (map node_for ms) (map held_for ms)
  old_is = cc (p.nodes, helds_for hs ms p.helds)

  pub placed_means : map (node_of store) (old_nodes 0 ns hs) ≡ ms
  placed_means = rw old_is (old_means b store (replicate p.spare 0) [] 0 ms p.words p.formed).0

  pub placed_ok : lists_ok b store (old_nodes 0 ns hs) ≡ true
  unfolding lists_ok fine_lists
  placed_ok =
      let z : List ℕ = replicate p.spare 0 in
      let m = old_means b store z [] 0 ms p.words p.formed in
      let f = old_fine b store z [] 0 ms [] p.words p.formed tt in
      let e : helds_of store (old_nodes 0 (map node_for ms) (map held_for ms)) ≡ map held ms = helds_mean store _ ∙ ap (map held) m.0 in
      let d : bounded b (helds_of store (old_nodes 0 (map node_for ms) (map held_for ms))) ≡ true = rw e p.bounds in
      rw old_is (both f (both m.1 (both d (old_clear 0 (map node_for ms) (map held_for ms)))))
