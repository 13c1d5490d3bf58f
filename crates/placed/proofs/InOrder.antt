-- Lists that are fine: each answer in order as one of its node's; lists whose words are counted right; and that these lie inside the store.
-- Assumes nothing.
use Rattle.units.proofs.Common.{◌∙◌, ◌≡◌, refl, ap, true, cond, List, [], ◌∷◌, ◌++◌, map, ℕ, ◌≤◌, ◌+◌, ◌<◌, suc, ◌*◌, zero, add-zero}
use Rattle.units.proofs.Common.{zero-add, arith, eqb, length, get_or, length-append, length-map, get_or-map, get_or-append, eqb-true}
use Rattle.units.proofs.Common.{every, and_true}
use native.Mathlib.Nat.{add-suc, suc-add}
use Rattle.meaning.proofs.Terms.{Bench, added, held}
use Rattle.machine.proofs.Terms.{bounded}
use Rattle.std.proofs.lemmas.List.{get_or_default}
use Rattle.state.proofs.Lists.{every_get}
use Rattle.placed.specs.Consistent.{ok_answer, clear_of, spots, in_order, fine_lists, helds_of, count_right, list_clear, lists_ok}
use Rattle.placed.specs.Walked.{words_of}
use Rattle.placed.specs.Machine.{places_of, pending_of, node_of}
use Rattle.placed.specs.State.{no_answers, fresh_node}
use Rattle.placed.specs.declared.Node.{Node}
use Rattle.placed.specs.declared.Pending.{Pending}
use Rattle.placed.proofs.Formed.{Lies, lies}
use Rattle.placed.proofs.Starts.{span, starts_long, span_least, span_end}

-- the list of the node at an index
abbrev pub list_at : List Node → ℕ → Pending
list_at ns i = (get_or ns i fresh_node).list

-- what code reads past an array's end
abbrev pub blank : Node
blank = record { instance = 0; handover = 0; list = no_answers }

pub node_any : (ns : List Node) (i : ℕ) → i < length ns → get_or ns i blank ≡ get_or ns i fresh_node
node_any ns i h = get_or_default ns i blank fresh_node h

module _ (b : Bench) (store : List ℕ) where
  -- each answer of a list in order is in order
  order_at : (past : List ℕ) (xs : List (ℕ × ℕ)) → in_order b store past xs ≡ true → (k : ℕ) (d : ℕ × ℕ) → k < length xs
      → ok_answer b store (get_or xs k d).0 (get_or xs k d).1 ≡ true
  unfolding in_order
  order_at past [] h k d l = absurd (omega arith)
  order_at past (x ∷ xs) h zero d l = (and_true (ok_answer b store x.0 x.1) _ h).0
  order_at past (x ∷ xs) h (suc k) d l =
      order_at (x.1 ∷ past) xs
      (and_true (clear_of store past x.1) _ (and_true (ok_answer b store x.0 x.1) _ h).1).1
      k d (omega arith)

  -- what follows a part of a list in order is in order
  record After (ys : List (ℕ × ℕ)) : Type 0 where
    past : List ℕ
    fine : in_order b store past ys ≡ true

  order_after : (past : List ℕ) (xs ys : List (ℕ × ℕ)) → in_order b store past (xs ++ ys) ≡ true → After ys
  unfolding in_order
  order_after past [] ys h = record { past = past; fine = h }
  order_after past (x ∷ xs) ys h =
      order_after (x.1 ∷ past) xs ys
      (and_true (clear_of store past x.1) _ (and_true (ok_answer b store x.0 x.1) _ h).1).1

  spots_ok : (past : List ℕ) (i : ℕ) (ns : List Node) → in_order b store past (spots store i ns) ≡ true → (j : ℕ) → j < length ns
      → (k : ℕ) → k < (list_at ns j).count → ok_answer b store (i + j) (get_or (places_of store (list_at ns j)) k 0) ≡ true
  unfolding spots
  spots_ok past i [] h j l k p = absurd (omega arith)
  spots_ok past i (n ∷ ns) h zero l k p =
      let ps : List ℕ = places_of store n.list in
      let m : List (ℕ × ℕ) = map (λ q. (i, q)) ps in
      let a : length ps ≡ n.list.count = starts_long store n.list.count n.list.place in
      let c : k < length m = rw length-map (omega arith) in
      let x : ℕ × ℕ = get_or (m ++ spots store (suc i) ns) k (i, 0) in
      let t : ok_answer b store x.0 x.1 ≡ true =
      order_at past (m ++ spots store (suc i) ns) h k (i, 0) (rw length-append (omega arith)) in
      let a₁ : x ≡ get_or m k (i, 0) = get_or-append m (spots store (suc i) ns) (i, 0) k c in
      let a₂ : get_or m k (i, 0) ≡ (i, get_or ps k 0) = get_or-map (λ q. (i, q)) ps k 0 in
      rw add-zero (rw (a₁, a₂) at t)
  spots_ok past i (n ∷ ns) h (suc j) l k p =
      let r = order_after past (map (λ q. (i, q)) (places_of store n.list)) (spots store (suc i) ns) h in
      let t : ok_answer b store (suc i + j) (get_or (places_of store (list_at ns j)) k 0) ≡ true =
      spots_ok r.past (suc i) ns r.fine j (omega arith) k p in
      rw (add-suc, ← suc-add) t

  module _ (ns : List Node) (h : fine_lists b store ns ≡ true) (j : ℕ) (l : j < length ns) where
    -- each answer is in order as one of its node's
    pub fine_ok : (k : ℕ) → k < (list_at ns j).count → ok_answer b store j (get_or (places_of store (list_at ns j)) k 0) ≡ true
    unfolding fine_lists
    fine_ok k q = rw zero-add at (spots_ok [] 0 ns h j l k q)

-- ---- the words that lists count
pub length_words : (ns : List Node) → length (words_of ns) ≡ length ns
length_words ns = simp length-map

pub words_at : (ns : List Node) (i : ℕ) → get_or (words_of ns) i 0 ≡ (list_at ns i).words.0
words_at ns i = get_or-map (λ n. n.list.words.0) ns i fresh_node

-- where each node's count of its words is right, the counts are the held words
pub counted_is : (store : List ℕ) (ns : List Node) → every (count_right store) ns ≡ true → words_of ns ≡ helds_of store ns
unfolding every count_right helds_of
counted_is store [] h = refl
counted_is store (n ∷ ns) h =
    let a = and_true (count_right store n) (every (count_right store) ns) h in
    let e : n.list.words.0 ≡ added (pending_of store n.list) = eqb-true _ _ a.0 in
    ap (λ (w : ℕ). w ∷ words_of ns) e
    ∙ ap (λ (l : List ℕ). added (pending_of store n.list) ∷ l) (counted_is store ns a.1)

-- the words that lie in the store are those of the answers that the nodes mean
pub helds_mean : (store : List ℕ) (ns : List Node) → helds_of store ns ≡ map held (map (node_of store) ns)
unfolding helds_of node_of
helds_mean store [] = refl
helds_mean store (n ∷ ns) = rw (helds_mean store ns)

-- ---- lists in order lie inside the store, with all the words that they count
clear_place : (k p : ℕ) → cond (eqb k 0) (eqb p 0) true ≡ true → k ≡ 0 → p ≡ 0
clear_place k p c z = eqb-true p 0 (rw z at c)

module _ (b : Bench) (store : List ℕ) (ns : List Node) (o : lists_ok b store ns ≡ true) (j : ℕ) (h : j < length ns) where
  counted_at : (list_at ns j).words.0 ≡ span store (list_at ns j).count (list_at ns j).place
  unfolding lists_ok count_right pending_of
  counted_at =
      let c = (and_true (every (count_right store) ns) _ (and_true (fine_lists b store ns) _ o).1).0 in
      eqb-true _ _ (every_get (count_right store) ns j fresh_node c h)

  clear_at : (list_at ns j).count ≡ 0 → (list_at ns j).place ≡ 0
  unfolding lists_ok list_clear
  clear_at =
      let q = (and_true (every (count_right store) ns) _ (and_true (fine_lists b store ns) _ o).1).1 in
      let z = (and_true (bounded b (helds_of store ns)) (every list_clear ns) q).1 in
      clear_place (list_at ns j).count (list_at ns j).place (every_get list_clear ns j fresh_node z h)

  lies_at : (k : ℕ) → k < (list_at ns j).count → Lies b store j (get_or (places_of store (list_at ns j)) k 0)
  unfolding lists_ok
  lies_at k q = lies b store j _ (fine_ok b store ns (and_true (fine_lists b store ns) _ o).0 j h k q)

  pub each_inside : (list_at ns j).place + (list_at ns j).words.0 ≤ length store
  each_inside = omega (arith, counted_at, span_end store (list_at ns j).count (list_at ns j).place clear_at (λ k q. (lies_at k q).inside))

  -- each answer has at least six words, so there are not more answers than a word can count
  pub each_least : 6 * (list_at ns j).count ≤ (list_at ns j).words.0
  each_least = omega (arith, counted_at, span_least store 6 (list_at ns j).count (list_at ns j).place (λ k q. (lies_at k q).least))
