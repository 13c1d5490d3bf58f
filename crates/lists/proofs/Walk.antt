-- A walk over the nodes and their answers: each way on, and each way out.
-- Assumes nothing.
use Rattle.units.proofs.Common.{◌∙◌, ◌≡◌, ap, true, false, Bool, ◌&&◌, List, ◌∷◌, ℕ, ◌≤◌, ◌-◌, ◌+◌, ◌<◌, suc, add-zero, zero-add, add-one}
use Rattle.units.proofs.Common.{arith, eqb, length, drop, get_or, drop_of_length-le, drop-drop, drop-cons, eq-eqb, ne_eqb, every}
use native.Mathlib.Nat.{add_assoc}
use Rattle.meaning.proofs.Terms.{Bench, well_formed, added}
use Rattle.machine.proofs.Terms.{cuts, past, node_at, zeros}
use Rattle.machine.specs.Layout.{behind}
use Rattle.state.specs.declared.node.Node.{Node}
use Rattle.lists.specs.Line.{ok_answer, in_line}
use Rattle.lists.proofs.WordsRead.{ok_whole, first_at}

-- ---- the rest of a walk: k answers of the node at index i are still to come, and so many words of it are passed
unfoldable pub rest : Bench → ℕ → ℕ → ℕ → List ℕ → ℕ → List Node → List ℕ → Bool
rest b i k sum w held ns hs =
    every (well_formed b (node_at b i)) (cuts k w) && (eqb held (sum + added (cuts k w)) && in_line b (suc i) (past k w) ns hs)

module _ (b : Bench) (i : ℕ) where
  -- a node begins
  pub walk_in : (d : Node) (w : List ℕ) (ns : List Node) (hs : List ℕ) → i < length ns → i < length hs
      → in_line b i w (drop i ns) (drop i hs) ≡ rest b i (get_or ns i d).answers 0 w (get_or hs i 0) (drop (i + 1) ns) (drop (i + 1) hs)
  unfolding in_line rest
  walk_in d w ns hs h g =
      let e : drop (i + 1) ns ≡ drop (suc i) ns = ap (λ (n : ℕ). drop n ns) (add-one i) in
      let f : drop (i + 1) hs ≡ drop (suc i) hs = ap (λ (n : ℕ). drop n hs) (add-one i) in
      ap (λ (l : List Node). in_line b i w l (drop i hs)) (drop-cons ns i d h)
      ∙ ap (in_line b i w (get_or ns i d ∷ drop (suc i) ns)) (drop-cons hs i 0 g) ∙ rw (e, f, zero-add)

  -- the last has ended
  pub walk_end : (w : List ℕ) (ns : List Node) (hs : List ℕ) → length ns ≤ i → length hs ≤ i
      → in_line b i w (drop i ns) (drop i hs) ≡ zeros w
  unfolding in_line
  walk_end w ns hs h g = rw (drop_of_length-le ns {i = i} h, drop_of_length-le hs {i = i} g)

  module _ (sum : ℕ) (w : List ℕ) (held : ℕ) (ns : List Node) (hs : List ℕ) where
    -- an answer is passed ..
    pub walk_on : (k : ℕ) → ok_answer b i w ≡ true → rest b i (suc k) sum w held ns hs ≡ rest b i k (sum + get_or w 0 0) (behind w) held ns hs
    unfolding rest cuts past every added ok_answer
    walk_on k e = rw (e, (ok_whole b i w e).says, add_assoc)

    -- .. or is none
    pub walk_bad : (k : ℕ) → ok_answer b i w ≡ false → rest b i (suc k) sum w held ns hs ≡ false
    unfolding rest cuts every ok_answer
    walk_bad k e = rw e

    -- a node ends, its words counted ..
    pub walk_out : eqb held sum ≡ true → rest b i 0 sum w held ns hs ≡ in_line b (suc i) w ns hs
    unfolding rest cuts past every added
    walk_out e = rw (add-zero, e)

    -- .. or not
    pub walk_off : eqb held sum ≡ false → rest b i 0 sum w held ns hs ≡ false
    unfolding rest cuts every added
    walk_off e = rw (add-zero, e)

-- ---- the same in the code's terms: x is the whole walk, place and from are places of the store
module _ (b : Bench) (x : Bool) (store : List ℕ) (i place : ℕ) where
  module _ (ns : List Node) (hs : List ℕ) (e : x ≡ in_line b i (drop place store) (drop i ns) (drop i hs)) where
    pub go_in : (d : Node) → i < length ns → i < length hs
        → x ≡ rest b i ((get_or ns i d).answers - 0) (place - place) (drop place store) (get_or hs i 0) (drop (i + 1) ns) (drop (i + 1) hs)
    go_in d h g =
        let c : (get_or ns i d).answers - 0 ≡ (get_or ns i d).answers = omega arith in
        let p : place - place ≡ 0 = omega arith in
        e ∙ walk_in b i d (drop place store) ns hs h g ∙ rw (c, p)

    pub go_end : length ns ≤ i → length hs ≤ i → x ≡ zeros (drop place store)
    go_end h g = e ∙ walk_end b i (drop place store) ns hs h g

  module _ (count k from held : ℕ) (ns : List Node) (hs : List ℕ)
      (e : x ≡ rest b i (count - k) (place - from) (drop place store) held ns hs) where
    left : (n : ℕ) → count - k ≡ n → x ≡ rest b i n (place - from) (drop place store) held ns hs
    left n q = e ∙ ap (λ (m : ℕ). rest b i m (place - from) (drop place store) held ns hs) q

    pub go_on : k < count → from ≤ place → ok_answer b i (drop place store) ≡ true
        → x ≡ rest b i (count - (k + 1)) ((place + get_or store place 0) - from) (drop (place + get_or store place 0) store) held ns hs
    go_on h f o =
        let w = drop place store in
        let s : (place - from) + get_or store place 0 ≡ (place + get_or store place 0) - from = omega arith in
        left (suc (count - (k + 1))) (omega arith) ∙ walk_on b i (place - from) w held ns hs (count - (k + 1)) o
        ∙ rw (first_at store place, drop-drop, s)

    pub go_bad : k < count → ok_answer b i (drop place store) ≡ false → x ≡ false
    go_bad h o = left (suc (count - (k + 1))) (omega arith) ∙ walk_bad b i (place - from) (drop place store) held ns hs (count - (k + 1)) o

    pub go_out : count ≤ k → held ≡ place - from → x ≡ in_line b (i + 1) (drop place store) ns hs
    go_out h q = left 0 (omega arith) ∙ walk_out b i (place - from) (drop place store) held ns hs (eq-eqb _ _ q) ∙ rw add-one

    pub go_off : count ≤ k → (held ≡ place - from → ⊥) → x ≡ false
    go_off h q = left 0 (omega arith) ∙ walk_off b i (place - from) (drop place store) held ns hs (ne_eqb _ _ q)
