-- The store read and laid: each undoes the other. So state and store follow from what they mean, to the last word. Any bench.
-- Assumes nothing.
use Rattle.units.proofs.Common.{sym, ◌∙◌, ◌≡◌, refl, ap, true, false≢true, List, [], ◌∷◌, ◌++◌, map, append_assoc, ℕ, ◌≤◌, ◌-◌, ◌<◌, suc}
use Rattle.units.proofs.Common.{◌*◌, zero, arith, eqb, length, get_or, replicate, length-append, length-replicate, get_or-map}
use Rattle.units.proofs.Common.{get_or-append, take-append-drop, eq-eqb, eqb-true, every, and_true}
use native.Mathlib.Nat.{mul-suc}
use lib.Seq.{take-append_seam, drop-append_seam}
use Rattle.units.specs.declared.Words.{Words}
use Rattle.meaning.proofs.Terms.{Bench, same, word_no, well_formed, added, held}
use Rattle.meaning.specs.Gateway as M
use Rattle.state.specs.State.{fresh_node}
use Rattle.machine.specs.Layout.{laid, all_laid, store_of, front, behind, cuts, past}
use Rattle.machine.specs.Machine.{nodes_in, plain}
use Rattle.machine.specs.Consistent.{in_layout, node_at, formed, counts, bounded, listed, lists_ok}
use Rattle.state.specs.declared.node.Node.{Node}
use Rattle.machine.proofs.Formed.{formed_least, formed_says}
use Rattle.std.proofs.lemmas.List.{get_or_default}
use Rattle.state.proofs.Lists.{both}

-- ---- two lists of numbers that are the same
pub same_is : (xs ys : List ℕ) → same xs ys ≡ true → xs ≡ ys
unfolding same
same_is [] [] h = refl
same_is [] (y ∷ ys) h = absurd (false≢true h)
same_is (x ∷ xs) [] h = absurd (false≢true h)
same_is (x ∷ xs) (y ∷ ys) h =
    let p = and_true (eqb x y) (same xs ys) h in
    ap (λ (k : ℕ). k ∷ xs) (eqb-true x y p.0) ∙ ap (λ (l : List ℕ). y ∷ l) (same_is xs ys p.1)

same_self : (xs : List ℕ) → same xs xs ≡ true
unfolding same
same_self [] = refl
same_self (x ∷ xs) = both (eq-eqb x x refl) (same_self xs)

pub is_same : (xs ys : List ℕ) → xs ≡ ys → same xs ys ≡ true
is_same xs ys e = ap (same xs) (sym e) ∙ same_self xs

-- ---- one answer
module _ (b : Bench) (n : ℕ) (a r : List ℕ) (h : well_formed b n a ≡ true) where
  pub first_word : get_or (a ++ r) 0 0 ≡ length a
  first_word = let l = formed_least b n a h in get_or-append a r 0 0 (omega arith) ∙ formed_says b n a h

  pub front_is : front (a ++ r) ≡ a
  front_is = rw first_word (take-append_seam a r)

  behind_is : behind (a ++ r) ≡ r
  behind_is = rw first_word (drop-append_seam a r)

-- ---- the answers of a node: laid, then read
module _ (b : Bench) (n : ℕ) where
  pub cuts_laid : (as' : List (List ℕ)) (q : List ℕ) → every (well_formed b n) as' ≡ true → cuts (length as') (laid as' ++ q) ≡ as'
  unfolding every cuts laid
  cuts_laid [] q h = refl
  cuts_laid (a ∷ r) q h =
      let p = and_true (well_formed b n a) (every (well_formed b n) r) h in
      rw (append_assoc, front_is b n a (laid r ++ q) p.0, behind_is b n a (laid r ++ q) p.0, cuts_laid r q p.1)

  pub past_laid : (as' : List (List ℕ)) (q : List ℕ) → every (well_formed b n) as' ≡ true → past (length as') (laid as' ++ q) ≡ q
  unfolding every past laid
  past_laid [] q h = refl
  past_laid (a ∷ r) q h =
      let p = and_true (well_formed b n a) (every (well_formed b n) r) h in
      ap (λ (w : List ℕ). past (length r) (behind w)) (append_assoc a (laid r) q)
      ∙ ap (past (length r)) (behind_is b n a (laid r ++ q) p.0) ∙ past_laid r q p.1

  pub length_laid : (as' : List (List ℕ)) → every (well_formed b n) as' ≡ true → length (laid as') ≡ added as'
  unfolding every laid added
  length_laid [] h = refl
  length_laid (a ∷ r) h =
      let p = and_true (well_formed b n a) (every (well_formed b n) r) h in
      let e : length (laid r) ≡ added r = length_laid r p.1 in
      let f : word_no 1 a ≡ length a = formed_says b n a p.0 in
      rw length-append (omega arith)

  -- each has six words or more
  pub least_added : (as' : List (List ℕ)) → every (well_formed b n) as' ≡ true → 6 * length as' ≤ added as'
  unfolding every added
  least_added [] h = omega arith
  least_added (a ∷ r) h =
      let p = and_true (well_formed b n a) (every (well_formed b n) r) h in
      omega (arith, formed_least b n a p.0, formed_says b n a p.0, least_added r p.1, mul-suc 6 (length r))

-- read, then laid: whatever the words are
pub laid_cuts : (k : ℕ) (w : List ℕ) → laid (cuts k w) ++ past k w ≡ w
unfolding cuts past laid
laid_cuts zero w = refl
laid_cuts (suc k) w = rw (append_assoc, laid_cuts k (behind w)) (take-append-drop (get_or w 0 0) w)

length_cuts : (k : ℕ) (w : List ℕ) → length (cuts k w) ≡ k
unfolding cuts
length_cuts zero w = refl
length_cuts (suc k) w = ap suc (length_cuts k (behind w))

-- ---- all nodes
-- what code reads past an array's end
abbrev pub blank : Node
blank = record { instance = 0; handover = 0; answers = 0 }

pub node_any : (ns : List Node) (i : ℕ) → i < length ns → get_or ns i blank ≡ get_or ns i fresh_node
node_any ns i h = get_or_default ns i blank fresh_node h

-- the one node that has this meaning
abbrev pub node_for : M.Node → Node
node_for m = record { instance = m.count; handover = m.handover; answers = length m.pending }

-- read, then laid
pub nodes_for : (w : List ℕ) (ns : List Node) → ns ≡ map node_for (nodes_in w ns)
unfolding nodes_in
nodes_for w [] = refl
nodes_for w (n ∷ ns) = let c = length_cuts n.answers w in rw (c, ← nodes_for (past n.answers w) ns)

pub node_for_lem : (w : List ℕ) (ns : List Node) (i : ℕ) → get_or ns i fresh_node ≡ node_for (get_or (nodes_in w ns) i plain)
node_for_lem w ns i = ap (λ (l : List Node). get_or l i fresh_node) (nodes_for w ns) ∙ get_or-map node_for (nodes_in w ns) i plain

-- laid, then read
nodes_laid : (b : Bench) (j : ℕ) (ms : List M.Node) (q : List ℕ) → formed b j ms ≡ true → nodes_in (all_laid ms ++ q) (map node_for ms) ≡ ms
unfolding nodes_in all_laid formed
nodes_laid b j [] q h = refl
nodes_laid b j (m ∷ ms) q h =
    let p = and_true (every (well_formed b (node_at b j)) m.pending) (formed b (suc j) ms) h in
    rw (
      append_assoc,
      cuts_laid b (node_at b j) m.pending (all_laid ms ++ q) p.0,
      past_laid b (node_at b j) m.pending (all_laid ms ++ q) p.0,
      nodes_laid b (suc j) ms q p.1,
    )

pub length_nodes : (w : List ℕ) (ns : List Node) → length (nodes_in w ns) ≡ length ns
unfolding nodes_in
length_nodes w [] = refl
length_nodes w (n ∷ ns) = ap suc (length_nodes (past n.answers w) ns)

-- the store is a function of the meaning
pub store_is : (store : List ℕ) (ms : List M.Node) (spare : ℕ) → store ≡ all_laid ms ++ replicate spare 0 → store ≡ store_of (length store) ms
unfolding store_of
store_is store ms spare e =
    let l = ap length e ∙ length-append (all_laid ms) (replicate spare 0) in
    let z : spare ≡ length store - length (all_laid ms) = omega (arith, length-replicate {A = ℕ} spare 0, l) in
    e ∙ ap (λ (n : ℕ). all_laid ms ++ replicate n 0) z

-- ---- state and store that have the meaning ms, with no gaps
pub record Packed (b : Bench) (store : List ℕ) (ns : List Node) (hs : List Words) (ms : List M.Node) : Type 0 where
  pub size : length store ≡ b.store
  pub nodes : ns ≡ map node_for ms
  pub helds : counts hs ≡ map held ms
  pub spare : ℕ
  pub words : store ≡ all_laid ms ++ replicate spare 0
  pub formed : formed b 0 ms ≡ true
  pub bounds : bounded b (map held ms) ≡ true

-- lists in order are packed, by what they mean ..
pub packed_of : (b : Bench) (store : List ℕ) (ns : List Node) (hs : List Words) → length store ≡ b.store → lists_ok b store ns hs ≡ true
    → Packed b store ns hs (nodes_in store ns)
unfolding lists_ok listed in_layout store_of
packed_of b store ns hs l h =
    let ms = nodes_in store ns in
    let p = and_true (in_layout store ms) _ h in
    let q = and_true (formed b 0 ms) _ p.1 in
    let r = and_true (same (counts hs) (map held ms)) _ q.1 in
    record {
      size = l;
      nodes = nodes_for store ns;
      helds = same_is _ _ r.0;
      spare = length store - length (all_laid ms);
      words = same_is _ _ p.0;
      formed = q.0;
      bounds = r.1;
    }

module _ (b : Bench) (store : List ℕ) (ns : List Node) (hs : List Words) (ms : List M.Node) (p : Packed b store ns hs ms) where
  -- .. and what is packed means this, and is in order
  pub packed_means : nodes_in store ns ≡ ms
  packed_means = rw (p.nodes, p.words) (nodes_laid b 0 ms (replicate p.spare 0) p.formed)

  pub packed_store : store ≡ store_of (length store) ms
  packed_store = store_is store ms p.spare p.words

  pub packed_ok : lists_ok b store ns hs ≡ true
  unfolding lists_ok listed in_layout
  packed_ok =
      ap (listed b store hs) packed_means
      ∙ both (is_same store (store_of (length store) ms) packed_store)
      (both p.formed (both (is_same (counts hs) (map held ms) p.helds) p.bounds))

-- ---- two machines that mean the same are the same, to the last word
counts_same : (hs hs' : List Words) → counts hs ≡ counts hs' → hs ≡ hs'
counts_same [] [] e = refl
counts_same [] (h ∷ hs') e = absurd (let z : ◌≡◌ {A = ℕ} 0 1 = cc in omega arith)
counts_same (h ∷ hs) [] e = absurd (let z : ◌≡◌ {A = ℕ} 0 1 = cc in omega arith)
counts_same (h ∷ hs) (h' ∷ hs') e =
    let p : h.0 ≡ h'.0 = cc in
    let q : counts hs ≡ counts hs' = cc in
    ap (λ (k : ℕ). record { 0 = k } ∷ hs) p ∙ ap (λ (l : List Words). h' ∷ l) (counts_same hs hs' q)

pub record One (store store' : List ℕ) (ns ns' : List Node) (hs hs' : List Words) : Type 0 where
  pub stores : store ≡ store'
  pub nodes : ns ≡ ns'
  pub helds : hs ≡ hs'

pub one_content : (b : Bench) (store store' : List ℕ) (ns ns' : List Node) (hs hs' : List Words) → length store ≡ b.store
    → length store' ≡ b.store → lists_ok b store ns hs ≡ true → lists_ok b store' ns' hs' ≡ true → nodes_in store ns ≡ nodes_in store' ns'
    → One store store' ns ns' hs hs'
one_content b store store' ns ns' hs hs' l l' h h' e =
    let p = packed_of b store ns hs l h in
    let p' = packed_of b store' ns' hs' l' h' in
    let z : length store ≡ length store' = l ∙ sym l' in
    record {
      stores = packed_store b store ns hs _ p ∙ ap (store_of (length store)) e ∙ ap (λ (n : ℕ). store_of n (nodes_in store' ns')) z
          ∙ sym (packed_store b store' ns' hs' _ p');
      nodes = p.nodes ∙ ap (map node_for) e ∙ sym p'.nodes;
      helds = counts_same hs hs' (p.helds ∙ ap (map held) e ∙ sym p'.helds);
    }
