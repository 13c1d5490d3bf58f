-- What joins, leaves and is emptied, by the meaning: each change of state and store keeps them packed. Any bench.
-- Assumes nothing.
use Rattle.units.proofs.Common.{sym, ◌∙◌, ◌≡◌, refl, ap, true, List, [], ◌∷◌, ◌++◌, map, append_assoc, append-nil, ℕ, ◌≤◌, ◌-◌, ◌+◌, ◌<◌}
use Rattle.units.proofs.Common.{suc, zero, add-zero, zero-add, arith, leb, length, drop, get_or, take, set, replicate, length-append}
use Rattle.units.proofs.Common.{length-map, length-replicate, get_or-map, drop_at, take-suc, set-get_or, get_or-append-add, set_split}
use Rattle.units.proofs.Common.{ne_eqb, le-leb, leb-true, every, and_true, no_cond}
use native.Mathlib.Nat.{add-suc, suc-add}
use lib.Seq.{take-length}
use Rattle.units.specs.declared.Words.{Words}
use Rattle.meaning.proofs.Terms.{Bench, Sweep, joined, taken, emptied, swept, clearing, resetting, well_formed, added, held}
use Rattle.meaning.specs.Gateway as M
use Rattle.machine.proofs.Terms.{nothing, fresh_node, joined_node, taken_node, emptied_node, laid, all_laid, plain, node_at, formed, charges_of}
use Rattle.machine.proofs.Terms.{bounded, counts}
use Rattle.state.specs.State.{reset_node}
use Rattle.state.specs.declared.node.Node.{Node}
use Rattle.machine.proofs.Formed.{formed_says, added_append}
use Rattle.std.proofs.lemmas.List.{map-set}
use Rattle.state.proofs.Lists.{both, every_get, every_set, every_more}
use Rattle.machine.proofs.Read.{first_word, length_laid, node_for, Packed}
use Rattle.moves.specs.Moved.{inserted, removed}
use Rattle.moves.proofs.Moves.{inserted_at, removed_at}
use Rattle.lists.specs.Room.{sum, place_of}

-- ---- answers laid
laid_append : (xs ys : List (List ℕ)) → laid (xs ++ ys) ≡ laid xs ++ laid ys
unfolding laid
laid_append [] ys = refl
laid_append (x ∷ xs) ys = rw (laid_append xs ys, append_assoc)

all_append : (xs ys : List M.Node) → all_laid (xs ++ ys) ≡ all_laid xs ++ all_laid ys
unfolding all_laid
all_append [] ys = refl
all_append (x ∷ xs) ys = rw (all_append xs ys, append_assoc)

-- one node changed: what lies before its answers, they, and what lies behind
all_set : (ms : List M.Node) (i : ℕ) (m : M.Node) → i < length ms
    → all_laid (set ms i m) ≡ all_laid (take i ms) ++ (laid m.pending ++ all_laid (drop (suc i) ms))
unfolding all_laid
all_set ms i m h = ap all_laid (set_split ms i m h) ∙ all_append (take i ms) (m ∷ drop (suc i) ms)

all_at : (ms : List M.Node) (i : ℕ) → i < length ms
    → all_laid ms ≡ all_laid (take i ms) ++ (laid (get_or ms i plain).pending ++ all_laid (drop (suc i) ms))
all_at ms i h = ap all_laid (sym (set-get_or ms i plain)) ∙ all_set ms i (get_or ms i plain) h

module _ (b : Bench) where
  pub formed_at : (j : ℕ) (ms : List M.Node) (i : ℕ) → formed b j ms ≡ true → i < length ms
      → every (well_formed b (node_at b (j + i))) (get_or ms i plain).pending ≡ true
  unfolding formed
  formed_at j [] i h l = absurd (omega arith)
  formed_at j (m ∷ ms) zero h l = rw add-zero (and_true (every (well_formed b (node_at b j)) m.pending) (formed b (suc j) ms) h).0
  formed_at j (m ∷ ms) (suc i) h l =
      rw (add-suc, ← suc-add)
      (formed_at (suc j) ms i (and_true (every (well_formed b (node_at b j)) m.pending) (formed b (suc j) ms) h).1 (omega arith))

  formed_set : (j : ℕ) (ms : List M.Node) (i : ℕ) (x : M.Node) → formed b j ms ≡ true
      → every (well_formed b (node_at b (j + i))) x.pending ≡ true → formed b j (set ms i x) ≡ true
  unfolding formed
  formed_set j [] i x h e = refl
  formed_set j (m ∷ ms) zero x h e =
      both (rw add-zero at e) (and_true (every (well_formed b (node_at b j)) m.pending) (formed b (suc j) ms) h).1
  formed_set j (m ∷ ms) (suc i) x h e =
      let p = and_true (every (well_formed b (node_at b j)) m.pending) (formed b (suc j) ms) h in
      both p.0 (formed_set (suc j) ms i x p.1 (rw (add-suc, ← suc-add) at e))

  -- a node's place is past the words of the nodes before it
  pub place_is : (j : ℕ) (ms : List M.Node) (i : ℕ) → formed b j ms ≡ true → place_of (map held ms) i ≡ length (all_laid (take i ms))
  unfolding formed sum all_laid
  place_is j [] zero h = refl
  place_is j [] (suc i) h = refl
  place_is j (m ∷ ms) zero h = refl
  place_is j (m ∷ ms) (suc i) h =
      let p = and_true (every (well_formed b (node_at b j)) m.pending) (formed b (suc j) ms) h in
      let r : place_of (map held ms) i ≡ length (all_laid (take i ms)) = place_is (suc j) ms i p.1 in
      rw length-append (omega (arith, length_laid b (node_at b j) m.pending p.0))

  -- where the bounds are met, all answers fit
  laid_charged : (j : ℕ) (ms : List M.Node) → formed b j ms ≡ true → length (all_laid ms) ≤ charges_of b.share (map held ms)
  unfolding formed all_laid charges_of
  laid_charged j [] h = omega arith
  laid_charged j (m ∷ ms) h =
      let p = and_true (every (well_formed b (node_at b j)) m.pending) (formed b (suc j) ms) h in
      let r : length (all_laid ms) ≤ charges_of b.share (map held ms) = laid_charged (suc j) ms p.1 in
      rw length-append (omega (arith, length_laid b (node_at b j) m.pending p.0))

  pub laid_fits : (ms : List M.Node) → formed b 0 ms ≡ true → bounded b (map held ms) ≡ true → length (all_laid ms) ≤ b.store
  unfolding bounded
  laid_fits ms h o =
      let c : charges_of b.share (map held ms) ≤ b.store = leb-true _ _
      (and_true (every (λ h. leb h b.limit) (map held ms)) _ o).1 in
      omega (arith, laid_charged 0 ms h)

  -- ---- fewer words keep the bounds
  charges_less : (hs : List ℕ) (i v : ℕ) → v ≤ get_or hs i 0 → charges_of b.share (set hs i v) ≤ charges_of b.share hs
  unfolding charges_of
  charges_less [] i v h = omega arith
  charges_less (x ∷ hs) zero v h = omega arith
  charges_less (x ∷ hs) (suc i) v h =
      let r : charges_of b.share (set hs i v) ≤ charges_of b.share hs = charges_less hs i v h in omega arith

  less_bounded : (hs : List ℕ) (i v : ℕ) → i < length hs → v ≤ get_or hs i 0 → bounded b hs ≡ true → bounded b (set hs i v) ≡ true
  unfolding bounded
  less_bounded hs i v h l o =
      let e = and_true (every (λ h. leb h b.limit) hs) (leb (charges_of b.share hs) b.store) o in
      let q : get_or hs i 0 ≤ b.limit = leb-true (get_or hs i 0) b.limit (every_get (λ h. leb h b.limit) hs i 0 e.0 h) in
      let c : charges_of b.share hs ≤ b.store = leb-true _ _ e.1 in
      let d = charges_less hs i v l in
      let w : v ≤ b.limit = omega arith in
      let x : charges_of b.share (set hs i v) ≤ b.store = omega arith in
      both (every_set (λ h. leb h b.limit) hs i v e.0 (le-leb v b.limit w)) (le-leb _ _ x)

-- ---- lists that are packed, and one node of them
module _ (b : Bench) (store : List ℕ) (ns : List Node) (hs : List Words) (ms : List M.Node) (p : Packed b store ns hs ms) where
  -- where the store is free
  pub end_is : place_of (counts hs) (length ms) ≡ length (all_laid ms)
  end_is = rw (p.helds, place_is b 0 ms (length ms) p.formed, take-length ms)

  module _ (i : ℕ) (h : i < length ms) where
    abbrev m : M.Node
    m = get_or ms i plain

    -- the node counts what it means
    pub node_is : get_or ns i fresh_node ≡ node_for m
    node_is = rw p.nodes (get_or-map node_for ms i plain)

    pub held_is : (get_or hs i nothing).0 ≡ held m
    unfolding added
    held_is =
        sym (get_or-map (λ (w : Words). w.0) hs i nothing) ∙ ap (λ (l : List ℕ). get_or l i 0) p.helds ∙ get_or-map held ms i plain

    -- what lies before its answers, and behind them
    abbrev before : List ℕ
    before = all_laid (take i ms)

    abbrev after : List ℕ
    after = all_laid (drop (suc i) ms)

    store_at : store ≡ before ++ (laid m.pending ++ (after ++ replicate p.spare 0))
    store_at = p.words ∙ rw (all_at ms i h) (simp append_assoc)

    all_size : length (all_laid ms) ≡ length before + (length (laid m.pending) + length after)
    all_size = ap length (all_at ms i h) ∙ simp length-append

    -- another node there, and other words in place of its answers
    packed_set : (x : M.Node) (n : Node) (v : ℕ) (store' : List ℕ) (z : ℕ) → n ≡ node_for x → v ≡ held x
        → store' ≡ before ++ (laid x.pending ++ (after ++ replicate z 0)) → length store' ≡ b.store
        → every (well_formed b (node_at b i)) x.pending ≡ true → bounded b (map held (set ms i x)) ≡ true
        → Packed b store' (set ns i n) (set hs i (record { 0 = v })) (set ms i x)
    packed_set x n v store' z e g w l f o = record {
      size = l;
      nodes = rw (p.nodes, e) (sym (map-set node_for ms i x));
      helds = map-set (λ (w : Words). w.0) hs i (record { 0 = v }) ∙ rw (p.helds, g) (sym (map-set held ms i x));
      spare = z;
      words = w ∙ rw (all_set ms i x h) (simp append_assoc);
      formed = formed_set b 0 ms i x p.formed (rw zero-add f);
      bounds = o;
    }

    -- ---- an answer joins
    pub place_next : place_of (counts hs) (suc i) ≡ length (before ++ laid m.pending)
    unfolding all_laid
    place_next =
        let e : all_laid (take (suc i) ms) ≡ before ++ laid m.pending =
        ap all_laid (take-suc ms i plain h) ∙ all_append (take i ms) (m ∷ []) ∙ rw append-nil in
        rw (p.helds, place_is b 0 ms (suc i) p.formed, e)

    pub packed_joined : (a : List ℕ) → well_formed b (node_at b i) a ≡ true → bounded b (map held (set ms i (joined a m))) ≡ true
        → Packed b (inserted store (place_of (counts hs) (suc i)) (place_of (counts hs) (length ms)) a)
        (set ns i (joined_node (get_or ns i fresh_node)))
        (set hs i (record { 0 = (get_or hs i nothing).0 + length a })) (set ms i (joined a m))
    unfolding joined laid added
    packed_joined a f o =
        let x : M.Node = joined a m in
        let g : every (well_formed b (node_at b i)) m.pending ≡ true = rw zero-add at (formed_at b 0 ms i p.formed h) in
        let k : every (well_formed b (node_at b i)) x.pending ≡ true = every_more (well_formed b (node_at b i)) m.pending a g f in
        let v : laid x.pending ≡ laid m.pending ++ a = laid_append m.pending (a ∷ []) ∙ rw append-nil in
        let fits : length (all_laid (set ms i x)) ≤ b.store = laid_fits b (set ms i x) (formed_set b 0 ms i x p.formed (rw zero-add k))
        o in
        let len : length (all_laid (set ms i x)) ≡ length before + ((length (laid m.pending) + length a) + length after) =
        ap length (all_set ms i x h) ∙ rw v (simp length-append) in
        let size : length store ≡ length before + (length (laid m.pending) + (length after + p.spare)) =
        ap length store_at ∙ simp (length-append, length-replicate) in
        let z : ℕ = p.spare - length a in
        let s : p.spare ≡ length a + z = omega (arith, p.size) in
        let st : store ≡ (before ++ laid m.pending) ++ (after ++ replicate (length a + z) 0) =
        store_at ∙ ap (λ (k : ℕ). before ++ (laid m.pending ++ (after ++ replicate k 0))) s
        ∙ sym (append_assoc before (laid m.pending) (after ++ replicate (length a + z) 0)) in
        let end : place_of (counts hs) (length ms) ≡ length (before ++ laid m.pending) + length after =
        end_is ∙ all_size ∙ rw length-append (omega arith) in
        let w : inserted store (place_of (counts hs) (suc i)) (place_of (counts hs) (length ms)) a ≡ before ++
        (laid x.pending ++ (after ++ replicate z 0)) =
        rw (place_next, end, v) (inserted_at store (before ++ laid m.pending) after a z st ∙ simp append_assoc) in
        let l : length (inserted store (place_of (counts hs) (suc i)) (place_of (counts hs) (length ms)) a) ≡ b.store =
        ap length w ∙ rw v (simp (length-append, length-replicate) (omega (arith, p.size))) in
        packed_set x _ _ _ z (rw (node_is, length-append)) (rw (held_is, added_append, formed_says b (node_at b i) a f, add-zero)) w l k o

    -- ---- the oldest leaves
    pub place_own : place_of (counts hs) i ≡ length before
    place_own = rw p.helds (place_is b 0 ms i p.formed)

    module _ (a : List ℕ) (rest : List (List ℕ)) (e : m.pending ≡ a ∷ rest) where
      pub oldest_formed : (well_formed b (node_at b i) a ≡ true) × (every (well_formed b (node_at b i)) rest ≡ true)
      unfolding every
      oldest_formed =
          and_true (well_formed b (node_at b i) a) (every (well_formed b (node_at b i)) rest)
          (rw (zero-add, e) at (formed_at b 0 ms i p.formed h))

      abbrev beyond : List ℕ
      beyond = (laid rest ++ after) ++ replicate p.spare 0

      oldest_at : store ≡ before ++ (a ++ beyond)
      unfolding laid
      oldest_at = store_at ∙ rw e (simp append_assoc)

      -- it stands at the node's place ..
      pub oldest_drop : drop (place_of (counts hs) i) store ≡ a ++ beyond
      oldest_drop = rw (place_own, oldest_at) (drop_at before (a ++ beyond) (length before) refl)

      -- .. and its length is the word there
      pub oldest_long : get_or store (place_of (counts hs) i) 0 ≡ length a
      oldest_long =
          rw (place_own, oldest_at)
          (ap (λ (k : ℕ). get_or (before ++ (a ++ beyond)) k 0) (sym (add-zero (length before))) ∙ get_or-append-add before (a ++ beyond) 0 0
          ∙ first_word b (node_at b i) a beyond oldest_formed.0)

      pub oldest_held : held m ≡ length a + added rest
      unfolding added
      oldest_held = rw e (ap (λ (k : ℕ). k + added rest) (formed_says b (node_at b i) a oldest_formed.0))

      pub packed_taken : Packed b (removed store (place_of (counts hs) i) (place_of (counts hs) (length ms)) (length a))
          (set ns i (taken_node (get_or ns i fresh_node))) (set hs i (record { 0 = (get_or hs i nothing).0 - length a })) (set ms i (taken m))
      unfolding taken laid added
      packed_taken =
          let x : M.Node = taken m in
          let q : x.pending ≡ rest = ap (drop 1) e in
          let c : length m.pending - 1 ≡ length x.pending = rw e (omega arith) in
          let y : held x ≡ added rest = ap added q in
          let g : get_or (map held ms) i 0 ≡ held m = get_or-map held ms i plain in
          let u : length (laid m.pending) ≡ length a + length (laid rest) = rw e (simp length-append) in
          let end : place_of (counts hs) (length ms) ≡ length before + (length a + length (laid rest ++ after)) =
          end_is ∙ all_size ∙ rw (u, length-append) (omega arith) in
          let w : removed store (place_of (counts hs) i) (place_of (counts hs) (length ms)) (length a)
          ≡ before ++ (laid x.pending ++ (after ++ replicate (length a + p.spare) 0)) =
          rw (place_own, end, q) (removed_at store before (laid rest ++ after) a p.spare oldest_at ∙ simp append_assoc) in
          let size : length store ≡ length before + (length a + ((length (laid rest) + length after) + p.spare)) =
          ap length oldest_at ∙ simp (length-append, length-replicate) in
          let l : length (removed store (place_of (counts hs) i) (place_of (counts hs) (length ms)) (length a)) ≡ b.store =
          ap length w ∙ rw q (simp (length-append, length-replicate) (omega (arith, p.size))) in
          let k : i < length (map held ms) = rw length-map h in
          packed_set x _ _ _ (length a + p.spare) (rw (node_is, c)) (rw (held_is, oldest_held) (omega (arith, y))) w l
          (rw q oldest_formed.1)
          (rw map-set (less_bounded b (map held ms) i (held x) k (omega (arith, g, oldest_held, y)) p.bounds))

-- ---- all lists emptied
-- g is for a node what the sweep z is for what it means; nothing is pending after it
pub record Empties (z : Sweep) (g : Node → Node) : Type 0 where
  pub same : (m : M.Node) → g (node_for m) ≡ node_for (swept z m)
  pub none : (m : M.Node) → (swept z m).pending ≡ []
  pub blank : swept z plain ≡ plain

module _ {z : Sweep} {g : Node → Node} (e : Empties z g) where
  none_laid : (ms : List M.Node) → all_laid (map (swept z) ms) ≡ []
  unfolding all_laid laid
  none_laid [] = refl
  none_laid (m ∷ ms) = rw (e.none m) (none_laid ms)

  none_formed : (b : Bench) (j : ℕ) (ms : List M.Node) → formed b j (map (swept z) ms) ≡ true
  unfolding formed every
  none_formed b j [] = refl
  none_formed b j (m ∷ ms) = rw (e.none m) (none_formed b (suc j) ms)

  none_held : (ms : List M.Node) → counts (replicate (length ms) nothing) ≡ map held (map (swept z) ms)
  unfolding added
  none_held [] = refl
  none_held (m ∷ ms) = rw (e.none m) (ap (λ (l : List ℕ). 0 ∷ l) (none_held ms))

  none_bounded : (b : Bench) (ms : List M.Node) → (every (λ h. leb h b.limit) (map held (map (swept z) ms)) ≡ true)
      × (charges_of b.share (map held (map (swept z) ms)) ≤ charges_of b.share (map held ms))
  unfolding every charges_of added
  none_bounded b [] = (refl, omega arith)
  none_bounded b (m ∷ ms) =
      let r = none_bounded b ms in
      let k : charges_of b.share (map held (map (swept z) ms)) ≤ charges_of b.share (map held ms) = r.1 in
      (rw (e.none m) (both (le-leb 0 b.limit (omega arith)) r.0), rw (e.none m) (omega arith))

  nodes_same : (ms : List M.Node) → map g (map node_for ms) ≡ map node_for (map (swept z) ms)
  nodes_same [] = refl
  nodes_same (m ∷ ms) = rw (e.same m, nodes_same ms)

  pub packed_emptied : (b : Bench) (store : List ℕ) (ns : List Node) (hs : List Words) (ms : List M.Node) → Packed b store ns hs ms
      → Packed b (replicate (length store) 0) (map g ns) (replicate (length ms) nothing) (map (swept z) ms)
  unfolding bounded
  packed_emptied b store ns hs ms p =
      let o = none_bounded b ms in
      let c : charges_of b.share (map held ms) ≤ b.store =
      leb-true _ _ (and_true (every (λ h. leb h b.limit) (map held ms)) _ p.bounds).1 in
      let k : charges_of b.share (map held (map (swept z) ms)) ≤ b.store = omega (arith, o.1) in
      record {
        size = length-replicate (length store) 0 ∙ p.size;
        nodes = rw p.nodes (nodes_same ms);
        helds = none_held ms;
        spare = length store;
        words = rw (none_laid ms);
        formed = none_formed b 0 ms;
        bounds = both o.0 (le-leb _ _ k);
      }

-- 79, and 61
clear_same : (m : M.Node) (as' : List (List ℕ)) → emptied_node (node_for (record { count = m.count; handover = m.handover; pending = as' }))
    ≡ node_for (emptied (record { count = m.count; handover = m.handover; pending = as' }) as')
unfolding emptied_node emptied
clear_same m [] = refl
clear_same m (a ∷ r) = no_cond _ (ne_eqb (suc (length r)) 0 (λ e. omega arith))

clear_none : (m : M.Node) (as' : List (List ℕ)) → m.pending ≡ as' → (emptied m as').pending ≡ []
unfolding emptied
clear_none m [] e = e
clear_none m (a ∷ r) e = refl

pub clear_empties : Empties clearing emptied_node
unfolding swept emptied
clear_empties = record { same = λ m. clear_same m m.pending; none = λ m. clear_none m m.pending refl; blank = refl }

pub reset_empties : Empties resetting reset_node
unfolding swept emptied reset_node
reset_empties = record {
  same = λ m. ap (λ (n : Node). record { instance = 0; handover = n.handover; answers = n.answers }) (clear_same m m.pending);
  none = λ m. clear_none m m.pending refl;
  blank = refl;
}
