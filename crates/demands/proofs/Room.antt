-- Both bounds hold in every state that calls reach, and an answer within its node's share is never refused for room.
-- Assumes nothing.
use Rattle.units.proofs.Common.{sym, ◌≡◌, refl, subst, inl, inr, ◌⊎◌, true, false, Bool, cond, false≢true, List, [], ◌∷◌, ◌++◌, ℕ, ◌≤◌, ◌+◌}
use Rattle.units.proofs.Common.{suc, ◌*◌, zero, max, le_refl, arith, eqb, drop, eq-eqb, ne_eqb, le-leb, eqb-true, leb-true}
use mathlib.Core.Bool.{and-eq-true_iff}
use native.Mathlib.Nat.{le_trans, add-le-add, max-zero}
use Rattle.meaning.proofs.Terms.{Bench, hub, word_no, Node, Gateway, put, joined, join, taken, Sweep, none, clearing, resetting, emptied}
use Rattle.meaning.proofs.Terms.{swept, fresh, set_node, set_reader, added, held, share_of, charges, fits, Call, Try, Local, Whom, nobody}
use Rattle.meaning.proofs.Terms.{gateway, one, lifted, heeded, tried, settled, roomed, step, run, from_desk, judged, whom, refused}
use Rattle.meaning.specs.Room.{charge, total}
use Rattle.demands.specs.Sound.{Sound}
use Rattle.demands.specs.Demand.{Bounds}
use Rattle.demands.specs.Counts.{is_sweep}
use Rattle.demands.proofs.Local.{cond_all}

-- ---- a function put at one place
pub put_same : {A : Type 0} (n : ℕ) (a : A) (f : ℕ → A) → put n a f n ≡ a
unfolding put
put_same n a f = rw (eq-eqb n n refl)

pub put_other : {A : Type 0} (n : ℕ) (a : A) (f : ℕ → A) (m : ℕ) → (m ≡ n → ⊥) → put n a f m ≡ f m
unfolding put
put_other n a f m h = rw (ne_eqb m n h)

-- what holds of the new value there, and of the others, holds everywhere
pub put_all : {A : Type 0} (P : ℕ → A → Type 0) (n : ℕ) (a : A) (f : ℕ → A) → P n a → ((m : ℕ) → P m (f m)) → (m : ℕ) → P m (put n a f m)
unfolding put
put_all {A} P n a f new old m = by_number (eqb m n) refl
  where
    by_number : (t : Bool) → eqb m n ≡ t → P m (cond t a (f m))
    by_number true e = subst (λ (k : ℕ). P k a) (sym (eqb-true m n e)) new
    by_number false e = old m

-- ---- held words
added_snoc : (xs : List (List ℕ)) (w : List ℕ) → added (xs ++ (w ∷ [])) ≡ added xs + word_no 1 w
unfolding added
added_snoc [] w = omega arith
added_snoc (x ∷ xs) w = rw (added_snoc xs w) (omega arith)

pub held_joined : (w : List ℕ) (x : Node) → held (joined w x) ≡ held x + word_no 1 w
unfolding joined
held_joined w x = added_snoc x.pending w

added_drop : (xs : List (List ℕ)) → added (drop 1 xs) ≤ added xs
unfolding added
added_drop [] = le_refl _
added_drop (x ∷ xs) = omega arith

pub held_taken : (x : Node) → held (taken x) ≤ held x
unfolding taken
held_taken x = added_drop x.pending

held_emptied : (x : Node) (xs : List (List ℕ)) → added xs ≡ held x → held (emptied x xs) ≡ 0
unfolding emptied added
held_emptied x [] e = sym e
held_emptied x (w ∷ ws) e = refl

pub held_swept : (s : Sweep) (x : Node) → held (swept s x) ≤ held x
unfolding swept
held_swept none x = le_refl _
held_swept clearing x = omega (arith, held_emptied x x.pending refl)
held_swept resetting x = omega (arith, held_emptied x x.pending refl)

pub swept_empty : (s : Sweep) (x : Node) → is_sweep s ≡ true → held (swept s x) ≡ 0
unfolding swept is_sweep
swept_empty none x h = absurd (false≢true h)
swept_empty clearing x h = held_emptied x x.pending refl
swept_empty resetting x h = held_emptied x x.pending refl

-- ---- charges
charge_mono : (b : Bench) (x y : Node) → held x ≤ held y → charge b x ≤ charge b y
unfolding charge share_of
charge_mono b x y h = omega arith

total_mono : (k : ℕ) (f g : ℕ → ℕ) → ((n : ℕ) → f n ≤ g n) → total k f ≤ total k g
unfolding total
total_mono zero f g h = le_refl _
total_mono (suc k) f g h = add-le-add (total_mono k f g h) (h (suc k))

charges_mono : (b : Bench) (g h : Gateway) → ((n : ℕ) → charge b (g.nodes n) ≤ charge b (h.nodes n)) → charges b g ≤ charges b h
unfolding charges
charges_mono b g h le = add-le-add (total_mono b.readers (λ n. charge b (g.nodes n)) (λ n. charge b (h.nodes n)) le) (le hub)

-- no node holds more than before: the bounds still hold
pub bounds_less : (b : Bench) (g h : Gateway) → ((n : ℕ) → held (h.nodes n) ≤ held (g.nodes n)) → Bounds b g → Bounds b h
bounds_less b g h le i = record {
  bounded = λ n. omega (arith, le n, i.bounded n);
  stored = omega (arith, charges_mono b h g (λ n. charge_mono b (h.nodes n) (g.nodes n) (le n)), i.stored);
}

-- ---- fresh
total_const : (k s : ℕ) (f : ℕ → ℕ) → ((n : ℕ) → f n ≡ s) → total k f ≡ k * s
unfolding total
total_const zero s f h = omega arith
total_const (suc k) s f h = omega (arith, total_const k s f h, h (suc k))

pub bounds_fresh : (b : Bench) → Sound b → (memory : ℕ → List ℕ) → Bounds b (fresh memory)
unfolding fresh added charges charge share_of
bounds_fresh b ok memory = record {
  bounded = λ n. omega arith;
  stored = omega (arith, ok, total_const b.readers b.share (λ n. max b.share 0) (λ n. max-zero b.share));
}

-- ---- an answer with room
fits_true : (b : Bench) (n : ℕ) (g : Gateway) → fits b n g ≡ true → (held (g.nodes n) ≤ b.limit) × (charges b g ≤ b.store)
unfolding fits
fits_true b n g e = let p = (and-eq-true_iff _ _).0 e in (leb-true _ _ p.0, leb-true _ _ p.1)

true_fits : (b : Bench) (n : ℕ) (g : Gateway) → held (g.nodes n) ≤ b.limit → charges b g ≤ b.store → fits b n g ≡ true
unfolding fits
true_fits b n g p q = rw (le-leb _ _ p, le-leb _ _ q)

-- the node's bound and the store's are `fits`; every other node is as it was
limit_join : (b : Bench) (n : ℕ) (w : List ℕ) (h : Gateway) → fits b n (join n w h) ≡ true
    → (m : ℕ) → (held ((join n w h).nodes m) ≤ b.limit) ⊎ (held ((join n w h).nodes m) ≡ held (h.nodes m))
limit_join b n w h e =
    put_all (λ m x. (held x ≤ b.limit) ⊎ (held x ≡ held (h.nodes m))) n (joined w (h.nodes n)) h.nodes
    (inl (rw (put_same n (joined w (h.nodes n)) h.nodes) at (fits_true b n (join n w h) e).0)) (λ m. inr refl)

bounds_join : (b : Bench) (n : ℕ) (w : List ℕ) (h : Gateway) → Bounds b h → fits b n (join n w h) ≡ true → Bounds b (join n w h)
bounds_join b n w h i e = record {
  bounded = λ m. elim (limit_join b n w h e m) [
    | inl le ↦ omega arith
    | inr same ↦ omega (arith, i.bounded m)
  ];
  stored = omega (arith, (fits_true b n (join n w h) e).1);
}

-- held words plus the new answer
abbrev pub Within : Bench → ℕ → List ℕ → Gateway → Type 0
Within b n w h = held (h.nodes n) + word_no 1 w ≤ share_of b (h.nodes n)

charge_within : (b : Bench) (w : List ℕ) (x : Node) → held x + word_no 1 w ≤ share_of b x → charge b (joined w x) ≤ charge b x
unfolding charge share_of
charge_within b w x h = omega (arith, held_joined w x)

pub fits_within : (b : Bench) → Sound b → (n : ℕ) (w : List ℕ) (h : Gateway) → Bounds b h → Within b n w h → fits b n (join n w h) ≡ true
unfolding share_of
fits_within b ok n w h i le =
    true_fits b n (join n w h)
    (rw (put_same n (joined w (h.nodes n)) h.nodes) (omega (arith, ok, held_joined w (h.nodes n))))
    (le_trans
    (charges_mono b (join n w h) h
    (put_all (λ m x. charge b x ≤ charge b (h.nodes m)) n (joined w (h.nodes n)) h.nodes
    (charge_within b w (h.nodes n) le) (λ m. le_refl _)))
    i.stored)

-- ---- every step
-- the bounds of the gateway that a try holds, before its answer joins
unfoldable pub BoundsT : Bench → Try → Type 0
BoundsT b (Try.refuse k) = Unit
BoundsT b (Try.give r h) = Bounds b h
BoundsT b (Try.due n h w) = Bounds b h

bounds_lifted : {A : Type 0} (b : Bench) (into : A → Gateway → Gateway) (n : ℕ) (g : Gateway) (l : Local A)
    → ((a : A) → Bounds b (into a g)) → Bounds b g → BoundsT b (lifted into n g l)
unfolding lifted BoundsT
bounds_lifted b into n g (Local.refuse k) put i = tt
bounds_lifted b into n g (Local.give r a) put i = put a
bounds_lifted b into n g Local.acked put i =
    bounds_less b g (set_node n (taken (g.nodes n)) g)
    (put_all (λ m x. held x ≤ held (g.nodes m)) n (taken (g.nodes n)) g.nodes (held_taken (g.nodes n)) (λ m. le_refl _)) i
bounds_lifted b into n g (Local.due a w) put i = put a

pub bounds_heeded : (b : Bench) (g : Gateway) (c : Call) (v : Whom) → Bounds b g → BoundsT b (heeded b g c v)
unfolding heeded BoundsT from_desk
bounds_heeded b g c nobody i = tt
bounds_heeded b g c gateway i =
    bounds_lifted b from_desk hub g _
    (λ d. bounds_less b g (from_desk d g) (λ n. held_swept d.broom (g.nodes n)) i) i
bounds_heeded b g c (one n) i =
    bounds_lifted b (set_reader n) n g _
    (λ r. bounds_less b g (set_reader n r g) (λ m. le_refl _) i) i

pub bounds_tried : (b : Bench) (g : Gateway) (c : Call) → Bounds b g → BoundsT b (tried b g c)
unfolding tried BoundsT
bounds_tried b g c i = cond_all (BoundsT b) (eqb (judged b c) 0) _ _ (bounds_heeded b g c (whom b c) i) tt

bounds_roomed : (b : Bench) (n : ℕ) (w : List ℕ) (g h : Gateway) → Bounds b g → Bounds b h
    → (t : Bool) → fits b n (join n w h) ≡ t → Bounds b (roomed t g (join n w h)).next
unfolding roomed
bounds_roomed b n w g h i j true e = bounds_join b n w h j e
bounds_roomed b n w g h i j false e = i

bounds_settled : (b : Bench) (g : Gateway) (t : Try) → Bounds b g → BoundsT b t → Bounds b (settled b g t).next
unfolding settled BoundsT
bounds_settled b g (Try.refuse k) i j = i
bounds_settled b g (Try.give r h) i j = j
bounds_settled b g (Try.due n h w) i j = bounds_roomed b n w g h i j (fits b n (join n w h)) refl

-- both bounds are kept by every call, and so by every run from a fresh state
pub bounds_step : (b : Bench) (g : Gateway) (c : Call) → Bounds b g → Bounds b (step b g c).next
unfolding step
bounds_step b g c i = bounds_settled b g (tried b g c) i (bounds_tried b g c i)

bounds_from : (b : Bench) (cs : List Call) (g : Gateway) → Bounds b g → Bounds b (run b g cs)
unfolding run
bounds_from b [] g i = i
bounds_from b (c ∷ cs) g i = bounds_from b cs (step b g c).next (bounds_step b g c i)

pub bounds_run : (b : Bench) → Sound b → (memory : ℕ → List ℕ) (cs : List Call) → Bounds b (run b (fresh memory) cs)
bounds_run b ok memory cs = bounds_from b cs (fresh memory) (bounds_fresh b ok memory)

-- a refusal changes nothing
unchanged_roomed : (t : Bool) (g h : Gateway) (k : ℕ) → (roomed t g h).said ≡ refused k → (roomed t g h).next ≡ g
unfolding roomed
unchanged_roomed true g h k e = cc
unchanged_roomed false g h k e = refl

unchanged : (b : Bench) (g : Gateway) (t : Try) (k : ℕ) → (settled b g t).said ≡ refused k → (settled b g t).next ≡ g
unfolding settled
unchanged b g (Try.refuse m) k e = refl
unchanged b g (Try.give r h) k e = cc
unchanged b g (Try.due n h w) k e = unchanged_roomed (fits b n (join n w h)) g (join n w h) k e

pub refusal_changes_nothing : (b : Bench) (g : Gateway) (c : Call) (k : ℕ) → (step b g c).said ≡ refused k → (step b g c).next ≡ g
unfolding step
refusal_changes_nothing b g c k e = unchanged b g (tried b g c) k e
