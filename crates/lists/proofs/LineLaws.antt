-- The walk through the store finds exactly the layout: lists in order are in line and meet both bounds, and no other are. Any bench.
-- Assumes nothing.
use Rattle.units.proofs.Common.{sym, ◌∙◌, ◌≡◌, refl, ap, true, false, Bool, ◌&&◌, false≢true, List, [], ◌∷◌, ◌++◌, map, append_assoc, ℕ}
use Rattle.units.proofs.Common.{◌-◌, suc, zero, eqb, length, replicate, eq-eqb, eqb-true, every, yes_and, and_true}
use Rattle.units.specs.declared.Words.{Words}
use Rattle.meaning.proofs.Terms.{Bench, same, well_formed, added, held}
use Rattle.meaning.specs.Gateway as M
use Rattle.machine.proofs.Terms.{all_laid, store_of, cuts, past, nodes_in, node_at, formed, counts, bounded, zeros, lists_ok}
use Rattle.machine.specs.Consistent.{in_layout, listed}
use Rattle.state.specs.declared.node.Node.{Node}
use Rattle.state.proofs.Lists.{both}
use Rattle.machine.proofs.Read.{same_is, is_same, cuts_laid, past_laid, laid_cuts, node_for, nodes_for, store_is}
use Rattle.lists.specs.Line.{in_line}
use Rattle.lists.proofs.WordsRead.{is_false}

-- ---- zeros
zeros_is : (w : List ℕ) → zeros w ≡ true → w ≡ replicate (length w) 0
unfolding every
zeros_is [] h = refl
zeros_is (x ∷ w) h =
    let p = and_true (eqb x 0) (zeros w) h in
    let e : x ≡ 0 = eqb-true x 0 p.0 in
    rw (← zeros_is w p.1, e)

zeros_zeros : (n : ℕ) → zeros (replicate n 0) ≡ true
unfolding every
zeros_zeros zero = refl
zeros_zeros (suc n) = zeros_zeros n

-- ---- laid, then walked
line_laid : (b : Bench) (j : ℕ) (ms : List M.Node) (z : ℕ) → formed b j ms ≡ true
    → in_line b j (all_laid ms ++ replicate z 0) (map node_for ms) (map held ms) ≡ true
unfolding in_line all_laid formed
line_laid b j [] z h = zeros_zeros z
line_laid b j (m ∷ ms) z h =
    let p = and_true (every (well_formed b (node_at b j)) m.pending) (formed b (suc j) ms) h in
    let q = all_laid ms ++ replicate z 0 in
    rw (append_assoc, cuts_laid b (node_at b j) m.pending q p.0, past_laid b (node_at b j) m.pending q p.0)
    (both p.0 (both (eq-eqb (added m.pending) (added m.pending) refl) (line_laid b (suc j) ms z p.1)))

-- ---- walked, then laid: the nodes' answers and then zeros are the words
record Found (b : Bench) (j : ℕ) (w : List ℕ) (ns : List Node) (hs : List ℕ) : Type 0 where
  spare : ℕ
  words : w ≡ all_laid (nodes_in w ns) ++ replicate spare 0
  formed : formed b j (nodes_in w ns) ≡ true
  helds : hs ≡ map held (nodes_in w ns)

line_of : (b : Bench) (j : ℕ) (w : List ℕ) (ns : List Node) (hs : List ℕ) → in_line b j w ns hs ≡ true → Found b j w ns hs
unfolding in_line nodes_in all_laid formed
line_of b j w [] [] h = record { spare = length w; words = zeros_is w h; formed = refl; helds = refl }
line_of b j w [] (x ∷ hs) h = absurd (false≢true h)
line_of b j w (n ∷ ns) [] h = absurd (false≢true h)
line_of b j w (n ∷ ns) (x ∷ hs) h =
    let k = n.answers in
    let p = and_true (every (well_formed b (node_at b j)) (cuts k w)) _ h in
    let q = and_true (eqb x (added (cuts k w))) _ p.1 in
    let r = line_of b (suc j) (past k w) ns hs q.1 in
    let e : x ≡ added (cuts k w) = eqb-true _ _ q.0 in
    record {
      spare = r.spare;
      words = rw (append_assoc, ← r.words, laid_cuts);
      formed = both p.0 r.formed;
      helds = ap (λ (y : ℕ). y ∷ hs) e ∙ ap (λ (l : List ℕ). added (cuts k w) ∷ l) r.helds;
    }

-- ---- both together
module _ (b : Bench) (store : List ℕ) (ns : List Node) (hs : List Words) where
  ordered_line : lists_ok b store ns hs ≡ true → in_line b 0 store ns (counts hs) ≡ true
  unfolding lists_ok listed in_layout store_of
  ordered_line h =
      let ms = nodes_in store ns in
      let z = length store - length (all_laid ms) in
      let p = and_true (in_layout store ms) _ h in
      let q = and_true (formed b 0 ms) _ p.1 in
      let r = and_true (same (counts hs) (map held ms)) _ q.1 in
      ap (λ (w : List ℕ). in_line b 0 w ns (counts hs)) (same_is _ _ p.0)
      ∙ ap (λ (l : List Node). in_line b 0 (all_laid ms ++ replicate z 0) l (counts hs)) (nodes_for store ns)
      ∙ ap (in_line b 0 (all_laid ms ++ replicate z 0) (map node_for ms)) (same_is _ _ r.0) ∙ line_laid b 0 ms z q.0

  by_line : (t : Bool) → in_line b 0 store ns (counts hs) ≡ t → lists_ok b store ns hs ≡ t && bounded b (counts hs)
  unfolding lists_ok listed in_layout
  by_line true e =
      let ms = nodes_in store ns in
      let f = line_of b 0 store ns (counts hs) e in
      yes_and (is_same _ _ (store_is store ms f.spare f.words)) ∙ yes_and f.formed ∙ yes_and (is_same _ _ f.helds)
      ∙ ap (bounded b) (sym f.helds)
  by_line false e = is_false _ (λ h. false≢true (sym e ∙ ordered_line h))

  pub line_is : lists_ok b store ns hs ≡ in_line b 0 store ns (counts hs) && bounded b (counts hs)
  line_is = by_line _ refl
