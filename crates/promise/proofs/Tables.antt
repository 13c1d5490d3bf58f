-- From the code's arrays to the meaning's functions: an array read through `slot`, at the nodes that pass `ok`, is a function of the node,
-- and a store to one slot is `put` at its node.
-- Assumes nothing.
use Rattle.units.proofs.Common.{sym, ◌∙◌, ◌≡◌, refl, ap, fun_ext, true, false, Bool, cond, false≢true, true≢false, ◌||◌, List, map, ℕ, ◌≤◌}
use Rattle.units.proofs.Common.{◌-◌, ◌+◌, ◌<◌, arith, eqb, leb, length, get_or, set, get_or-map, get_or-set_same, ne_eqb, eqb-true, leb-true}
use Rattle.units.proofs.Common.{lt-leb, eqb-false, and_true, yes_cond, no_cond, yes_or, no_or}
use lib.Seq.{get_or-set_other}
use Rattle.meaning.proofs.Terms.{Bench, hub, is_reader, is_node, put}
use Rattle.demands.specs.Sound.{Sound}
use Rattle.demands.proofs.Numbers.{or_right}
use Rattle.machine.proofs.Terms.{fresh_reader, Machine, meaning, seen, node_slot, nodes_in, nodes_of, readers_of, reader_of, region_of, plain}

module _ {A : Type 0} (ok : ℕ → Bool) (slot : ℕ → ℕ) (d : A) (l : List A) where
  module _ (n : ℕ) (x : A) (is : ok n ≡ true) (inside : slot n < length l) (inj : (m : ℕ) → ok m ≡ true → slot m ≡ slot n → m ≡ n) where
    set_at : (m : ℕ) → seen ok slot d (set l (slot n) x) m ≡ put n x (seen ok slot d l) m
    unfolding put seen
    set_at m = by_number (eqb m n) refl (ok m) refl
      where
        by_number : (t : Bool) → eqb m n ≡ t → (u : Bool) → ok m ≡ u
            → cond u (get_or (set l (slot n) x) (slot m) d) d ≡ cond t x (cond u (get_or l (slot m) d) d)
        by_number true e true f = rw (eqb-true m n e, get_or-set_same l (slot n) x d inside)
        by_number true e false f = absurd (true≢false (sym is ∙ ap ok (sym (eqb-true m n e)) ∙ f))
        by_number false e true f = get_or-set_other l (slot n) (slot m) x d (λ q. eqb-false m n e (inj m f q))
        by_number false e false f = refl

    pub seen_set : seen ok slot d (set l (slot n) x) ≡ put n x (seen ok slot d l)
    seen_set = fun_ext set_at

  -- the same change at every node, where it leaves the default as it is
  pub seen_map : (f : A → A) → f d ≡ d → seen ok slot d (map f l) ≡ (λ n. f (seen ok slot d l n))
  unfolding seen
  seen_map f e = fun_ext (λ n. by_test n (ok n))
    where
      by_test : (n : ℕ) (t : Bool) → cond t (get_or (map f l) (slot n) d) d ≡ f (cond t (get_or l (slot n) d) d)
      by_test n true = ap (get_or (map f l) (slot n)) (sym e) ∙ get_or-map f l (slot n) d
      by_test n false = sym e

-- ---- the slots of readers and nodes
pub reader_range : (b : Bench) (n : ℕ) → is_reader b n ≡ true → (1 ≤ n) × (n ≤ b.readers)
reader_range b n e = let p = and_true (leb 1 n) (leb n b.readers) e in (leb-true 1 n p.0, leb-true n b.readers p.1)

pub reader_inj : (b : Bench) (m n : ℕ) → is_reader b n ≡ true → is_reader b m ≡ true → m - 1 ≡ n - 1 → m ≡ n
reader_inj b m n p q e = omega (arith, reader_range b n p, reader_range b m q)

pub node_inj : (b : Bench) (m n : ℕ) → is_node b n ≡ true → is_node b m ≡ true → node_slot b m ≡ node_slot b n → m ≡ n
node_inj b m n p q e = by_kinds (eqb m hub) refl (eqb n hub) refl (is_reader b m) refl (is_reader b n) refl p q e
  where
    by_kinds : (s : Bool) → eqb m hub ≡ s → (t : Bool) → eqb n hub ≡ t → (u : Bool) → is_reader b m ≡ u → (v : Bool) → is_reader b n ≡ v
        → (v || t) ≡ true → (u || s) ≡ true → cond s b.readers (m - 1) ≡ cond t b.readers (n - 1) → m ≡ n
    by_kinds true e1 true e2 u e3 v e4 p q e = omega (arith, eqb-true m hub e1, eqb-true n hub e2)
    by_kinds true e1 false e2 u e3 true e4 p q e = absurd (omega (arith, reader_range b n e4))
    by_kinds true e1 false e2 u e3 false e4 p q e = absurd (false≢true p)
    by_kinds false e1 true e2 true e3 v e4 p q e = absurd (omega (arith, reader_range b m e3))
    by_kinds false e1 true e2 false e3 v e4 p q e = absurd (false≢true q)
    by_kinds false e1 false e2 true e3 true e4 p q e = omega (arith, reader_range b n e4, reader_range b m e3)
    by_kinds false e1 false e2 true e3 false e4 p q e = absurd (false≢true p)
    by_kinds false e1 false e2 false e3 v e4 p q e = absurd (false≢true q)

pub node_inside : (b : Bench) (n k : ℕ) → is_node b n ≡ true → k ≡ b.readers + 1 → node_slot b n < k
node_inside b n k p e = by_kind (eqb n hub) (is_reader b n) refl p
  where
    by_kind : (t u : Bool) → is_reader b n ≡ u → (u || t) ≡ true → cond t b.readers (n - 1) < k
    by_kind true u f q = omega arith
    by_kind false true f q = omega (arith, reader_range b n f)
    by_kind false false f q = absurd (false≢true q)

-- a reader is a node, and its slot among the nodes is its slot among the readers
pub reader_node : (b : Bench) (n : ℕ) → is_reader b n ≡ true → is_node b n ≡ true
reader_node b n r = yes_or (eqb n hub) r

pub reader_slot : (b : Bench) → Sound b → (n : ℕ) → is_reader b n ≡ true → node_slot b n ≡ n - 1
reader_slot b ok n r = no_cond b.readers (ne_eqb n hub (λ e. absurd (omega (arith, ok, reader_range b n r))))

-- the gateway is asked where the node is no reader
pub hub_named : (b : Bench) (n : ℕ) → is_node b n ≡ true → is_reader b n ≡ false → n ≡ hub
hub_named b n p r = eqb-true n hub (sym (no_or r) ∙ p)

pub hub_apart : (b : Bench) → Sound b → is_reader b hub ≡ false
hub_apart b ok = rw (lt-leb hub b.readers (omega (arith, ok)))

pub node_hub : (b : Bench) → is_node b hub ≡ true
node_hub b = or_right (is_reader b hub) true refl

-- ---- what the machine means at a reader and at a node
module _ (b : Bench) (m : Machine) (n : ℕ) where
  pub reader_at : is_reader b n ≡ true → (meaning b m).reader n ≡ reader_of (get_or m.state.readers (n - 1) fresh_reader)
      (region_of b m.memory n)
  unfolding meaning readers_of seen
  reader_at r = ap (λ x. reader_of x (region_of b m.memory n)) (yes_cond fresh_reader r)

  pub node_at : is_node b n ≡ true → (meaning b m).nodes n ≡ get_or (nodes_in m.store m.state.nodes) (node_slot b n) plain
  unfolding meaning nodes_of seen
  node_at p = yes_cond plain p
