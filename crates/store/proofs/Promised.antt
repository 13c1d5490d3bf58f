-- The changes as the code promises them, and what the code has to know to make them: places lie in the store, counts fit. Any bench.
-- Assumes nothing.
use Rattle.units.proofs.Common.{sym, ◌∙◌, ◌≡◌, refl, ap, true, List, [], ◌∷◌, map, ℕ, ◌≤◌, ◌-◌, ◌+◌, ◌<◌, suc, ◌*◌, zero, add-zero, add-one}
use Rattle.units.proofs.Common.{arith, leb, length, drop, get_or, set, replicate, length-append, length-map, length-replicate, get_or-map}
use Rattle.units.proofs.Common.{leb-true, every, and_true}
use Rattle.units.specs.declared.Words.{Words}
use Rattle.meaning.proofs.Terms.{Bench, Sweep, joined, swept, overall, well_formed, added, held}
use Rattle.meaning.specs.Gateway as M
use Rattle.machine.proofs.Terms.{nothing, fresh_node, joined_node, taken_node, all_laid, nodes_in, plain, node_at, charges_of, bounded, counts}
use Rattle.machine.specs.Layout.{front}
use Rattle.state.specs.declared.node.Node.{Node}
use Rattle.state.specs.declared.State.{State}
use Rattle.machine.proofs.Formed.{formed_least, formed_most, formed_says, added_append}
use Rattle.std.proofs.lemmas.List.{map-set}
use Rattle.state.proofs.Lists.{both, every_set}
use Rattle.machine.proofs.Read.{blank, node_any, front_is, least_added, length_nodes, Packed, packed_of, packed_means, packed_ok}
use Rattle.moves.specs.Moved.{inserted, removed}
use Rattle.moves.proofs.Moves.{removed_at}
use Rattle.lists.specs.Room.{room_for, sum, place_of}
use Rattle.lists.proofs.Places.{place_suc, place_all, place_in, sum_charges}
use Rattle.store.specs.Changes.{with_lists, Sound, Listed, joined_at, Joinable, taken_at}
use Rattle.store.proofs.Changed.{formed_at, end_is, node_is, held_is, packed_joined, oldest_formed, oldest_drop, oldest_long}
use Rattle.store.proofs.Changed.{oldest_held, packed_taken, Empties, packed_emptied}

-- ---- room kept: both bounds are met after it
pub room_bounded : (b : Bench) (hs : List ℕ) (i words : ℕ) → bounded b hs ≡ true → room_for b hs i words ≡ true
    → bounded b (set hs i (get_or hs i 0 + words)) ≡ true
unfolding bounded room_for
room_bounded b hs i words o r =
    let v : ℕ = get_or hs i 0 + words in
    let e = and_true (every (λ h. leb h b.limit) hs) (leb (charges_of b.share hs) b.store) o in
    let q = and_true (leb v b.limit) (leb (charges_of b.share (set hs i v)) b.store) r in
    both (every_set (λ h. leb h b.limit) hs i v e.0 q.0) q.1

-- the words of all nodes with some more at one
pub sum_set : (hs : List ℕ) (i v : ℕ) → i < length hs → sum (set hs i (get_or hs i 0 + v)) ≡ sum hs + v
unfolding sum
sum_set [] i v h = absurd (omega arith)
sum_set (x ∷ hs) zero v h = omega arith
sum_set (x ∷ hs) (suc i) v h = let r : sum (set hs i (get_or hs i 0 + v)) ≡ sum hs + v = sum_set hs i v (omega arith) in omega arith

module _ (b : Bench) (store : List ℕ) (s : State) (ok : Sound b store s) where
  abbrev ns : List Node
  ns = s.nodes

  abbrev hs : List ℕ
  hs = counts s.held

  abbrev ms : List M.Node
  ms = nodes_in store s.nodes

  pub packed_sound : Packed b store s.nodes s.held ms
  packed_sound = packed_of b store s.nodes s.held ok.size ok.lists

  -- other lists that are packed, and mean ms'
  listed : (store' : List ℕ) (ns' : List Node) (hs' : List Words) (ms' : List M.Node) → Packed b store' ns' hs' ms'
      → Listed b store store' s (with_lists s ns' hs') ms'
  listed store' ns' hs' ms' p = record {
    lists = packed_ok b store' ns' hs' ms' p;
    nodes = packed_means b store' ns' hs' ms' p;
    rest = refl;
    long = p.size ∙ sym ok.size;
  }

  -- as many held words as nodes
  pub helds_long : length hs ≡ length ns
  helds_long = ap length packed_sound.helds ∙ length-map ms held ∙ length_nodes store ns

  -- all words lie in the store
  pub sum_inside : sum hs ≤ b.store
  unfolding bounded
  sum_inside =
      let o = and_true (every (λ h. leb h b.limit) (map held ms)) _ packed_sound.bounds in
      let c : charges_of b.share (map held ms) ≤ b.store = leb-true _ _ o.1 in
      omega (arith, ap sum packed_sound.helds, sum_charges b.share (map held ms))

  -- ---- the node at an index
  module _ (i : ℕ) (h : i < length ns) where
    inside : i < length ms
    inside = rw length_nodes h

    -- six words for each of its answers, at least
    pub answers_held : 6 * (get_or ns i blank).answers ≤ (get_or s.held i nothing).0
    answers_held =
        let p = packed_sound in
        let f = formed_at b 0 ms i p.formed inside in
        rw (node_any ns i h, node_is b store ns s.held ms p i inside, held_is b store ns s.held ms p i inside)
        (least_added b (node_at b (0 + i)) (get_or ms i plain).pending f)

    pub place_after : place_of hs (i + 1) ≡ place_of hs i + (get_or s.held i nothing).0
    place_after =
        place_suc hs i (omega (arith, helds_long)) ∙ ap (λ (k : ℕ). place_of hs i + k)
        (get_or-map (λ (w : Words). w.0) s.held i nothing)

    -- ---- an answer joins
    pub record Join (a : List ℕ) (k : ℕ) : Type 0 where
      pub ordered : place_of hs (i + 1) ≤ place_of hs k
      pub fits : place_of hs k + length a ≤ length store
      pub words : (get_or s.held i nothing).0 + length a ≤ b.limit
      pub few : length a ≤ overall 255
      pub after : Listed b store (inserted store (place_of hs (i + 1)) (place_of hs k) a) s
          (with_lists s (set ns i (joined_node (get_or ns i blank))) (set s.held i (record { 0 = (get_or s.held i nothing).0 + length a })))
          (joined_at ms i a)

    module _ (a : List ℕ) (j : Joinable b store s i a) where
      room_words : get_or hs i 0 + length a ≤ b.limit
      unfolding room_for
      room_words = leb-true _ _ (and_true (leb (get_or hs i 0 + length a) b.limit) _ j.room).0

      after_bounded : bounded b (set hs i (get_or hs i 0 + length a)) ≡ true
      after_bounded = room_bounded b hs i (length a) (rw packed_sound.helds packed_sound.bounds) j.room

      joined_bounded : bounded b (map held (set ms i (joined a (get_or ms i plain)))) ≡ true
      unfolding joined added
      joined_bounded =
          let g : get_or (map held ms) i 0 ≡ held (get_or ms i plain) = get_or-map held ms i plain in
          let f = formed_says b (node_at b i) a j.answer in
          let e : set hs i (get_or hs i 0 + length a) ≡ map held (set ms i (joined a (get_or ms i plain))) =
          rw (packed_sound.helds, g, map-set, added_append, f, add-zero) in
          rw e at after_bounded

      pub join : (k : ℕ) → k ≡ length ns → Join a k
      unfolding bounded
      join k q =
          let l : k ≡ length ms = q ∙ sym (length_nodes store ns) in
          let o = and_true (every (λ h. leb h b.limit) (set hs i (get_or hs i 0 + length a))) _ after_bounded in
          let c : charges_of b.share (set hs i (get_or hs i 0 + length a)) ≤ b.store = leb-true _ _ o.1 in
          let e : get_or hs i 0 ≡ (get_or s.held i nothing).0 = get_or-map (λ (w : Words). w.0) s.held i nothing in
          let all : place_of hs k ≡ sum hs = place_all hs k (omega (arith, helds_long)) in
          record {
            ordered = omega (arith, all, place_in hs (i + 1));
            fits = omega (
              arith,
              all,
              c,
              sum_charges b.share (set hs i (get_or hs i 0 + length a)),
              sum_set hs i (length a)
                  (omega (arith, helds_long)),
              ok.size,
            );
            words = omega (arith, room_words);
            few = formed_most b (node_at b i) a j.answer;
            after = rw (l, add-one, node_any ns i h)
                (listed _ _ _ _ (packed_joined b store ns s.held ms packed_sound i inside a j.answer joined_bounded));
          }

    -- ---- the oldest leaves: it is the answer at the node's place
    pub record Take (k : ℕ) : Type 0 where
      pub some : 0 < (get_or ns i blank).answers
      pub oldest : List ℕ
      pub others : List (List ℕ)
      pub pending : (get_or ms i plain).pending ≡ oldest ∷ others
      pub formed : well_formed b (node_at b i) oldest ≡ true
      pub stands : front (drop (place_of hs i) store) ≡ oldest
      pub says : get_or store (place_of hs i) 0 ≡ length oldest
      pub least : 6 ≤ length oldest
      pub most : length oldest ≤ overall 255
      pub own : length oldest ≤ (get_or s.held i nothing).0
      pub before : place_of hs i + length oldest ≤ place_of hs k
      pub inside : place_of hs k ≤ length store
      pub after : Listed b store (removed store (place_of hs i) (place_of hs k) (get_or store (place_of hs i) 0)) s
          (with_lists s (set ns i (taken_node (get_or ns i blank)))
          (set s.held i (record { 0 = (get_or s.held i nothing).0 - get_or store (place_of hs i) 0 }))) (taken_at ms i)

    take_by : 0 < (get_or ns i fresh_node).answers → (k : ℕ) → k ≡ length ns → (as' : List (List ℕ)) → (get_or ms i plain).pending ≡ as' → Take k
    take_by some k q [] e =
        let z : (get_or ns i fresh_node).answers ≡ 0 = rw (node_is b store ns s.held ms packed_sound i inside) (ap length e) in absurd
        (omega arith)
    take_by some k q (a ∷ r) e =
        let p = packed_sound in
        let l : k ≡ length ms = q ∙ sym (length_nodes store ns) in
        let f = (oldest_formed b store ns s.held ms p i inside a r e).0 in
        let g = oldest_long b store ns s.held ms p i inside a r e in
        let d = oldest_drop b store ns s.held ms p i inside a r e in
        let w : (get_or s.held i nothing).0 ≡ length a + added r =
        held_is b store ns s.held ms p i inside ∙ oldest_held b store ns s.held ms p i inside a r e in
        let all : place_of hs k ≡ sum hs = place_all hs k (omega (arith, helds_long)) in
        record {
          some = rw (node_any ns i h) some;
          oldest = a;
          others = r;
          pending = e;
          formed = f;
          stands = rw d (front_is b (node_at b i) a _ f);
          says = g;
          least = formed_least b (node_at b i) a f;
          most = formed_most b (node_at b i) a f;
          own = omega arith;
          before = omega (arith, all, w, place_after, place_in hs (i + 1));
          inside = omega (arith, all, sum_inside, ok.size);
          after = rw (g, l, node_any ns i h) (listed _ _ _ _ (packed_taken b store ns s.held ms p i inside a r e));
        }

    pub taking : 0 < (get_or ns i fresh_node).answers → (k : ℕ) → k ≡ length ns → Take k
    taking some k q = take_by some k q (get_or ms i plain).pending refl

  -- ---- 79 and 61: all words that are held become 0
  module _ (k : ℕ) (q : k ≡ length ns) where
    end_laid : place_of hs k ≡ length (all_laid ms)
    end_laid = ap (place_of hs) (q ∙ sym (length_nodes store ns)) ∙ end_is b store ns s.held ms packed_sound

    pub wiped : removed store 0 (place_of hs k) (place_of hs k) ≡ replicate (length store) 0
    wiped =
        let a : List ℕ = all_laid ms in
        let z : ℕ = packed_sound.spare in
        let e : length a + z ≡ length store =
        sym (ap length packed_sound.words ∙ length-append a (replicate z 0) ∙ ap (λ (n : ℕ). length a + n)
        (length-replicate {A = ℕ} z 0)) in
        let f : place_of hs k ≡ 0 + (length a + 0) = end_laid ∙ omega arith in
        ap (λ (n : ℕ). removed store 0 n (place_of hs k)) f ∙ ap (removed store 0 (0 + (length a + 0))) end_laid
        ∙ removed_at store [] [] a z packed_sound.words ∙ ap (λ (n : ℕ). replicate n 0) e

    pub empties : {z : Sweep} {g : Node → Node} → Empties z g
        → Listed b store (removed store 0 (place_of hs k) (place_of hs k)) s (with_lists s (map g ns) (replicate k nothing)) (map (swept z) ms)
    empties e =
        let l : k ≡ length ms = q ∙ sym (length_nodes store ns) in
        rw (wiped, l) (listed _ _ _ _ (packed_emptied e b store ns s.held ms packed_sound))
