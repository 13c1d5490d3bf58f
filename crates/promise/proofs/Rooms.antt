-- An answer joins: its room, as the meaning judges it and as the code does over the held words; and what the machine means after.
-- Assumes nothing.
use Rattle.units.proofs.Common.{sym, ◌∙◌, ◌≡◌, refl, ap, true, false, Bool, List, [], map, ℕ, ◌≤◌, ◌-◌, ◌+◌, suc, zero, max, arith, leb}
use Rattle.units.proofs.Common.{length, get_or, take, set, length-set, length-map, get_or-map, take_all, le-leb, leb-true, every, no_cond}
use Rattle.units.proofs.Common.{and_true}
use Rattle.meaning.proofs.Terms.{Bench, hub, is_reader, is_node, word_no, Gateway, joined, join, added, held, share_of, charges, fits}
use Rattle.meaning.specs.Gateway as M
use Rattle.meaning.specs.Room.{charge, total}
use Rattle.demands.specs.Sound.{Sound}
use Rattle.demands.specs.Demand.{Bounds}
use Rattle.demands.proofs.Room.{put_same, held_joined}
use Rattle.machine.proofs.Terms.{Machine, machine, meaning, seen, node_slot, nodes_in, nodes_of, plain, counts, charges_of, bounded, unfit}
use Rattle.state.specs.declared.State.{State}
use Rattle.std.proofs.lemmas.List.{map-set}
use Rattle.state.proofs.Lists.{both, every_get}
use Rattle.machine.proofs.Read.{packed_of}
use Rattle.lists.specs.Room.{room_for}
use Rattle.lists.proofs.Charges.{charges_more}
use Rattle.store.specs.Changes.{Listed, joined_at}
use Rattle.promise.proofs.Parts.{Parts, parts, Means}
use Rattle.promise.proofs.Nodes.{numbered, many, all_numbered, node_changed}
use Rattle.promise.proofs.Tables.{seen_set, node_inj, node_inside, node_at, reader_node, reader_slot, node_hub}

-- ---- charges, node by node and as a list
total_same : (n : ℕ) (f g : ℕ → ℕ) → ((k : ℕ) → 1 ≤ k → k ≤ n → f k ≡ g k) → total n f ≡ total n g
unfolding total
total_same zero f g h = refl
total_same (suc n) f g h = rw (total_same n f g (λ k a b. h k a (omega arith)), h (suc n) (omega arith) (omega arith))

module _ (share : ℕ) where
  total_take : (hs : List ℕ) (n : ℕ) → n ≤ length hs → total n (λ k. max share (get_or hs (k - 1) 0)) ≡ charges_of share (take n hs)
  unfolding total charges_of
  total_take hs zero h = refl
  total_take hs (suc n) h =
      let e : suc n - 1 ≡ n = omega arith in
      rw (e, total_take hs n (omega arith), charges_more share hs n (omega arith))

  charges_list : (hs : List ℕ) (n : ℕ) → length hs ≡ n + 1
      → total n (λ k. max share (get_or hs (k - 1) 0)) + max share (get_or hs n 0) ≡ charges_of share hs
  charges_list hs n l =
      let e : take (suc n) hs ≡ hs = take_all (suc n) hs (omega arith) in
      rw (total_take hs n (omega arith), ← charges_more share hs n (omega arith), e)

module _ (b : Bench) (ok : Sound b) (g : Gateway) (ns : List M.Node) (long : length ns ≡ b.readers + 1)
    (table : g.nodes ≡ seen (is_node b) (node_slot b) plain ns) where
  abbrev helds : List ℕ
  helds = map held ns

  charge_at : (k : ℕ) → is_node b k ≡ true → charge b (g.nodes k) ≡ max b.share (get_or helds (node_slot b k) 0)
  unfolding charge share_of seen added
  charge_at k p =
      let e : get_or helds (node_slot b k) 0 ≡ held (get_or ns (node_slot b k) plain) = get_or-map held ns (node_slot b k) plain in
      rw (table, p, e)

  charges_table : charges b g ≡ charges_of b.share helds
  unfolding charges
  charges_table =
      let r : (k : ℕ) → 1 ≤ k → k ≤ b.readers → charge b (g.nodes k) ≡ max b.share (get_or helds (k - 1) 0) =
      λ k l h. let p : is_reader b k ≡ true = both (le-leb 1 k l) (le-leb k b.readers h) in
      charge_at k (reader_node b k p) ∙ ap (λ (i : ℕ). max b.share (get_or helds i 0)) (reader_slot b ok k p) in
      let h : charge b (g.nodes hub) ≡ max b.share (get_or helds b.readers 0) = charge_at hub (node_hub b) in
      let e : total b.readers (λ k. charge b (g.nodes k)) ≡ total b.readers (λ k. max b.share (get_or helds (k - 1) 0)) =
      total_same b.readers (λ k. charge b (g.nodes k)) (λ k. max b.share (get_or helds (k - 1) 0)) r in
      let l : length helds ≡ b.readers + 1 = rw length-map long in
      let z = charges_list b.share helds b.readers l in
      omega arith

-- ---- the table of nodes with an answer joined at node n
module _ (b : Bench) (m : Machine) (n : ℕ) (w : List ℕ) (is : is_node b n ≡ true) (p : Parts b m) where
  abbrev ns : List M.Node
  ns = nodes_in m.store m.state.nodes

  abbrev hs : List ℕ
  hs = counts m.state.held

  abbrev i : ℕ
  i = node_slot b n

  pub helds_are : hs ≡ map held ns
  helds_are = (packed_of b m.store m.state.nodes m.state.held p.store p.lists).helds

  held_in : held ((meaning b m).nodes n) ≡ get_or hs i 0
  unfolding added
  held_in = ap held (node_at b m n is) ∙ sym (get_or-map held ns i plain) ∙ ap (λ (l : List ℕ). get_or l i 0) (sym helds_are)

  join_table : (join n w (meaning b m)).nodes ≡ seen (is_node b) (node_slot b) plain (set ns i (joined w ((meaning b m).nodes n)))
  unfolding meaning nodes_of
  join_table =
      sym (seen_set (is_node b) (node_slot b) plain ns n (joined w (seen (is_node b) (node_slot b) plain ns n)) is
      (node_inside b n (length ns) is (many b m p)) (λ k q r. node_inj b k n is q r))

  -- "An answer has room exactly when": the meaning's test is the code's
  pub room_same : Sound b → word_no 1 w ≡ length w → fits b n (join n w (meaning b m)) ≡ room_for b hs (node_slot b n) (length w)
  unfolding fits room_for
  room_same ok e =
      let y : M.Node = joined w ((meaning b m).nodes n) in
      let a : held y ≡ get_or hs i 0 + length w =
      cc (held_joined w ((meaning b m).nodes n), held_in) in
      let c : charges b (join n w (meaning b m)) ≡ charges_of b.share (set hs i (get_or hs i 0 + length w)) =
      charges_table b ok (join n w (meaning b m)) (set ns i y) (length-set ns i y ∙ many b m p) join_table
      ∙ ap (charges_of b.share) (map-set held ns i y ∙ ap (λ (l : List ℕ). set l i (held y)) (sym helds_are) ∙ ap (set hs i) a) in
      let d : held ((join n w (meaning b m)).nodes n) ≡ get_or hs i 0 + length w = ap held (put_same n y (meaning b m).nodes) ∙ a in
      rw (d, c)

  -- an answer that the code added is an answer joined
  pub added_changed : (store' : List ℕ) (s' : State) → Listed b m.store store' m.state s' (joined_at ns (node_slot b n) w)
      → Means b (machine s' store' m.memory) (join n w (meaning b m))
  unfolding joined numbered
  added_changed store' s' a =
      let h : numbered ((meaning b m).nodes n) ≡ true =
      ap numbered (node_at b m n is) ∙ every_get numbered ns i plain (all_numbered b m p) (node_inside b n (length ns) is (many b m p)) in
      node_changed b m p n is (joined w ((meaning b m).nodes n)) h store' s' (rw (node_at b m n is) a)

-- ---- a consistent machine means a gateway that keeps both bounds
module _ (b : Bench) (ok : Sound b) (m : Machine) (fits : unfit b m ≡ 0) where
  limits : bounded b (map held (nodes_in m.store m.state.nodes)) ≡ true
  limits = let p = parts b m fits in (packed_of b m.store m.state.nodes m.state.held p.store p.lists).bounds

  fit_bounded : (n : ℕ) → held ((meaning b m).nodes n) ≤ b.limit
  unfolding bounded meaning nodes_of seen added
  fit_bounded n = by_node (is_node b n) refl
    where
      p : Parts b m
      p = parts b m fits

      by_node : (t : Bool) → is_node b n ≡ t → held ((meaning b m).nodes n) ≤ b.limit
      by_node true is =
          let hs : List ℕ = map held (nodes_in m.store m.state.nodes) in
          let l : length hs ≡ b.readers + 1 = length-map (nodes_in m.store m.state.nodes) held ∙ many b m p in
          let o = and_true (every (λ h. leb h b.limit) hs) _ limits in
          let i : ℕ = node_slot b n in
          let k = every_get (λ h. leb h b.limit) hs i 0 o.0 (node_inside b n (length hs) is l) in
          let e : held ((meaning b m).nodes n) ≡ get_or hs i 0 = cc (held_in b m n [] is p, helds_are b m n [] is p) in
          omega (arith, leb-true (get_or hs i 0) b.limit k)
      by_node false is = omega (arith, ap held (no_cond {b = plain} (get_or (nodes_in m.store m.state.nodes) (node_slot b n) plain) is))

  pub fit_bounds : Bounds b (meaning b m)
  unfolding bounded meaning nodes_of
  fit_bounds = record {
    bounded = fit_bounded;
    stored =
        let p = parts b m fits in
        let hs : List ℕ = map held (nodes_in m.store m.state.nodes) in
        let o = and_true (every (λ h. leb h b.limit) hs) _ limits in
        let c : charges b (meaning b m) ≡ charges_of b.share hs = charges_table b ok (meaning b m) _ (many b m p) refl in
        omega (arith, leb-true (charges_of b.share hs) b.store o.1);
  }
