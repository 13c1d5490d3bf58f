-- Marks of used words, and the walk over the pending answers. A store of any size, any bench.
-- Assumes nothing.
use Rattle.units.proofs.Common.{sym, ◌∙◌, ◌≡◌, refl, ⊎_elim, true, false, Bool, ◌&&◌, ◌||◌, and-false, List, [], ◌∷◌, ◌++◌, map, ℕ, ◌≤◌}
use Rattle.units.proofs.Common.{◌-◌, ◌+◌, ◌<◌, suc, min, max, arith, leb, ltb, length, drop, get_or, set, length-set, drop_of_length-le}
use Rattle.units.proofs.Common.{drop-cons, get_or-set_same, le-leb, lt-leb, le-ltb, lt-ltb, no_and, or_false}
use native.Mathlib.Nat.{sub-zero}
use lib.Seq.{get_or-set_other}
use Rattle.meaning.proofs.Terms.{Bench}
use Rattle.placed.specs.Consistent.{overlap, clear_of, ok_answer, spots, in_order, fine_lists}
use Rattle.placed.specs.Machine.{starts_of}
use Rattle.placed.specs.State.{fresh_node}
use Rattle.placed.specs.declared.Node.{Node}
use Rattle.placed.specs.declared.Pending.{Pending}
use Rattle.placed.proofs.InOrder.{list_at}
use Rattle.std.proofs.lemmas.Bool.{cases_lt}
use Rattle.placed.proofs.Starts.{starts_tail}
use Rattle.placed.specs.Marks.{Marked, Free, MarkWithin}

-- true is not false
pub apart : {b : Bool} → b ≡ true → b ≡ false → ⊥
apart p q = let z : ◌≡◌ {A = ℕ} 0 1 = cc in omega arith

-- ---- marking: nothing yet, and one word more
pub marked_none : (m : List Bool) (p : ℕ) → Marked m m p 0
marked_none m p = record { long = refl; inside = λ w a b. absurd (omega arith); below = λ w a. refl; above = λ w a. refl }

pub marked_more : (m m' : List Bool) (p n : ℕ) → Marked m m' p n → p + n < length m' → Marked m (set m' (p + n) true) p (n + 1)
marked_more m m' p n k l = record {
  long = length-set m' (p + n) true ∙ k.long;
  inside = λ w a b. ⊎_elim
      (λ (h : w < p + n). get_or-set_other m' (p + n) w true false (λ e. omega (arith, e)) ∙ k.inside w a h)
      (λ (h : p + n ≤ w). let e : w ≡ p + n = omega arith in rw e (get_or-set_same m' (p + n) true false l))
      (cases_lt w (p + n));
  below = λ w a. get_or-set_other m' (p + n) w true false (λ e. omega (arith, e)) ∙ k.below w a;
  above = λ w a. get_or-set_other m' (p + n) w true false (λ e. omega (arith, e)) ∙ k.above w (omega arith);
}

-- ---- the words of answers
-- the word w is one of the answer at q ..
pub in_answer : List ℕ → ℕ → ℕ → Bool
in_answer store q w = leb q w && ltb w (q + get_or store q 0)

-- .. and one of an answer at one of qs
pub covered : List ℕ → List ℕ → ℕ → Bool
covered store [] w = false
covered store (q ∷ qs) w = in_answer store q w || covered store qs w

module _ (store : List ℕ) where
  in_yes : (q w : ℕ) → q ≤ w → w < q + get_or store q 0 → in_answer store q w ≡ true
  unfolding in_answer
  in_yes q w a b = simp (le-leb _ _ a, lt-ltb _ _ b)

  in_below : (q w : ℕ) → w < q → in_answer store q w ≡ false
  unfolding in_answer
  in_below q w a = simp (lt-leb _ _ a)

  in_above : (q w : ℕ) → q + get_or store q 0 ≤ w → in_answer store q w ≡ false
  unfolding in_answer
  in_above q w a = simp (le-ltb _ _ a, and-false)

  -- an answer none of whose words is covered shares no word ..
  clear_free : (qs : List ℕ) (p : ℕ) → ((w : ℕ) → p ≤ w → w < p + get_or store p 0 → covered store qs w ≡ false)
      → clear_of store qs p ≡ true
  unfolding clear_of overlap covered
  clear_free [] p f = refl
  clear_free (q ∷ qs) p f =
      ⊎_elim
      (λ (h : max q p < min (q + get_or store q 0) (p + get_or store p 0)).
      absurd (apart (simp (in_yes q (max q p) (omega arith) (omega arith))) (f (max q p) (omega arith) (omega arith))))
      (λ (h : min (q + get_or store q 0) (p + get_or store p 0) ≤ max q p).
      simp (le-ltb _ _ h) (clear_free qs p (λ w a b. (or_false (in_answer store q w) (covered store qs w) (f w a b)).1)))
      (cases_lt _ _)

  -- .. and one with a covered word shares one
  clear_taken : (qs : List ℕ) (p w : ℕ) → p ≤ w → w < p + get_or store p 0 → covered store qs w ≡ true → clear_of store qs p ≡ false
  unfolding clear_of overlap covered
  clear_taken [] p w a b h = sym h
  clear_taken (q ∷ qs) p w a b h =
      ⊎_elim
      (λ (g : w < q). simp (clear_taken qs p w a b (rw (in_below q w g) at h), and-false))
      (λ (g : q ≤ w). ⊎_elim
      (λ (k : w < q + get_or store q 0).
      let e : max q p < min (q + get_or store q 0) (p + get_or store p 0) = omega arith in simp (lt-ltb _ _ e))
      (λ (k : q + get_or store q 0 ≤ w). simp (clear_taken qs p w a b (rw (in_above q w k) at h), and-false))
      (cases_lt w (q + get_or store q 0)))
      (cases_lt w q)

-- ---- the walk: m marks the words of the answers passed, and the lists are fine exactly if the rest is in order
pub record Walk (b : Bench) (size : ℕ) (store : List ℕ) (ns : List Node) (m : List Bool) (rest : List (ℕ × ℕ)) : Type 0 where
  pub past : List ℕ
  pub long : length m ≡ size
  pub same : (w : ℕ) → w < size → get_or m w false ≡ covered store past w
  pub goes : fine_lists b store ns ≡ in_order b store past rest

-- what is to come before node i ..
abbrev pub nodes_left : List ℕ → List Node → ℕ → List (ℕ × ℕ)
nodes_left store ns i = spots store i (drop i ns)

-- .. and within its list, where n answers are left and the next begins at p
abbrev pub left : List ℕ → List Node → ℕ → ℕ → ℕ → List (ℕ × ℕ)
left store ns i n p = map (λ q. (i, q)) (starts_of store n p) ++ nodes_left store ns (suc i)

module _ (b : Bench) (size : ℕ) (store : List ℕ) (ns : List Node) where
  pub walk_start : (m : List Bool) → length m ≡ size → ((w : ℕ) → w < size → get_or m w false ≡ false)
      → Walk b size store ns m (nodes_left store ns 0)
  unfolding fine_lists covered
  walk_start m l z = record { past = []; long = l; same = z; goes = refl }

  -- at node i: into its list
  pub walk_in : (m : List Bool) (i : ℕ) (l : Pending) → i < length ns → l ≡ list_at ns i → Walk b size store ns m (nodes_left store ns i)
      → Walk b size store ns m (left store ns i (l.count - 0) l.place)
  unfolding spots
  walk_in m i l h e k = rw (sub-zero, e) (rw (drop-cons ns i fresh_node h) at k)

  -- at an answer: not in order ..
  pub walk_bad : (m : List Bool) (i p : ℕ) (rest : List (ℕ × ℕ)) → Walk b size store ns m ((i, p) ∷ rest)
      → ok_answer b store i p ≡ false → fine_lists b store ns ≡ false
  unfolding in_order
  walk_bad m i p rest k h = k.goes ∙ no_and _ h

  -- .. or with a word that is marked ..
  pub walk_taken : (m : List Bool) (i p : ℕ) (rest : List (ℕ × ℕ)) → Walk b size store ns m ((i, p) ∷ rest)
      → ok_answer b store i p ≡ true → p + get_or store p 0 ≤ size → MarkWithin m p (get_or store p 0) → fine_lists b store ns ≡ false
  unfolding in_order
  walk_taken m i p rest k h l t =
      k.goes
      ∙ simp (
        h,
        clear_taken store k.past p t.place t.from t.to
            (sym (k.same t.place (omega (arith, t.to))) ∙ t.marked),
      )

  -- .. or passed
  pub walk_next : (m m' : List Bool) (i p : ℕ) (rest : List (ℕ × ℕ)) → Walk b size store ns m ((i, p) ∷ rest)
      → ok_answer b store i p ≡ true → p + get_or store p 0 ≤ size → Free m p (get_or store p 0) → Marked m m' p (get_or store p 0)
      → Walk b size store ns m' rest
  unfolding in_order covered
  walk_next m m' i p rest k h l u v =
      record {
        past = p ∷ k.past;
        long = v.long ∙ k.long;
        same = λ w a. ⊎_elim
            (λ (g : w < p). v.below w g ∙ k.same w a ∙ simp (in_below store p w g))
            (λ (g : p ≤ w). ⊎_elim
            (λ (q : w < p + get_or store p 0). v.inside w g q ∙ simp (in_yes store p w g q))
            (λ (q : p + get_or store p 0 ≤ w). v.above w q ∙ k.same w a ∙ simp (in_above store p w q))
            (cases_lt w (p + get_or store p 0)))
            (cases_lt w p);
        goes = k.goes ∙ simp (h, clear_free store k.past p (λ w a c. sym (k.same w (omega arith)) ∙ u w a c));
      }

  pub walk_end : (m : List Bool) (i : ℕ) → length ns ≤ i → Walk b size store ns m (nodes_left store ns i) → fine_lists b store ns ≡ true
  unfolding spots in_order
  walk_end m i h k = k.goes ∙ rw (drop_of_length-le ns {i = i} h)

  module _ (m : List Bool) (i n k p : ℕ) where
    -- the walk stands at answer k of a list of n
    pub walk_at : k < n → Walk b size store ns m (left store ns i (n - k) p)
        → Walk b size store ns m ((i, p) ∷ left store ns i (n - (k + 1)) (p + get_or store p 0))
    walk_at h w = let e : n - k ≡ suc (n - (k + 1)) = omega arith in rw (e, starts_tail) at w

    -- the walk has passed a list of n answers
    pub walk_out : n ≤ k → Walk b size store ns m (left store ns i (n - k) p) → Walk b size store ns m (nodes_left store ns (suc i))
    unfolding starts_of
    walk_out h w = let e : n - k ≡ 0 = omega arith in rw e at w
