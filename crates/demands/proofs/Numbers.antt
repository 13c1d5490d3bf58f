-- Every call ends in a result or in a refusal of the table: by what it says alone 3 to 11; else by its own node's state 12, 14, 15 or 16;
-- and 13 exactly where an answer is due that has no room.
-- Assumes nothing.
use Rattle.units.proofs.Common.{sym, ◌∙◌, ◌≡◌, refl, ap, subst, true, false, Bool, cond, ◌&&◌, false≢true, true≢false, ◌||◌, List, ℕ, ◌≤◌}
use Rattle.units.proofs.Common.{inl, inr, ◌⊎◌, eqb-false, not-true, arith, eqb, leb, ne_eqb, not-false, eqb-true, leb-true, within}
use Rattle.units.proofs.Common.{and_true}
use Rattle.units.specs.declared.Form.{Form}
use Rattle.units.specs.declared.stamp.Stamp.{Stamp}
use Rattle.units.proofs.Arms.{all_of}
use Rattle.meaning.proofs.Terms.{Bench, hub, is_reader, is_node, suits, frame_doubts, who_doubts, limit_doubts, unused_doubts, row_doubts}
use Rattle.meaning.proofs.Terms.{command_doubts, command_of, Gateway, join, set_reader, fresh, fits, Call, command, check, arrive, leave}
use Rattle.meaning.proofs.Terms.{collect, acknowledge, Local, Try, Whom, Outcome, refused, asked, judged, kind_in, command_in, named, serves}
use Rattle.meaning.proofs.Terms.{whom, lifted, from_desk, heeded, tried, roomed, settled, step, run}
use Rattle.meaning.proofs.Chain.{accepts, fine, fine_at}
use Rattle.demands.specs.Sound.{Sound}
use Rattle.demands.specs.Demand.{Bounds}
use Rattle.demands.specs.Order.{Doubt, doubts, numbers, First, none, this, next, Applies}
use Rattle.demands.proofs.Lowest.{judged_first, judged_lowest}
use Rattle.demands.proofs.Local.{late, FineL, roomless_of, SuitsReader, SuitsHub, fine_at_reader, fine_at_hub}
use Rattle.demands.proofs.Aim.{Aim, aim, reader_apart}
use Rattle.demands.proofs.Room.{BoundsT, Within, bounds_tried, bounds_run, fits_within}

-- ---- what a call says alone: 0, for nothing, or 3 to 11
pub or_right : (s t : Bool) → t ≡ true → (s || t) ≡ true
or_right true t e = refl
or_right false t e = e

first_all : (q : ℕ → Bool) {n : ℕ} {ds : List Doubt} → First n ds → all_of q (numbers ds) ≡ true → (eqb n 0 || q n) ≡ true
unfolding numbers
first_all q none e = refl
first_all q (this n ds) e = or_right (eqb n 0) (q n) (and_true (q n) _ e).0
first_all q (next m {ds = ds} f) e = first_all q f (and_true (q m) (all_of q (numbers ds)) e).1

asked_early : (b : Bench) (c : Call) → all_of (within 3 11) (numbers (doubts (asked b c))) ≡ true
unfolding numbers doubts asked command_doubts frame_doubts row_doubts who_doubts limit_doubts unused_doubts
asked_early b (command t f ws) = refl
asked_early b (check n t k) = refl
asked_early b (arrive n id s) = refl
asked_early b (leave n) = refl
asked_early b (collect f n k) = refl
asked_early b (acknowledge n h) = refl

judged_early : (b : Bench) (c : Call) → (eqb (judged b c) 0 || within 3 11 (judged b c)) ≡ true
judged_early b c = first_all (within 3 11) (judged_first b c) (asked_early b c)

-- ---- a call in which nothing is wrong is for a node, and suits it
pub who : (b : Bench) (t : Stamp) (f : Form) (ws : List ℕ) → judged b (command t f ws) ≡ 0
    → (is_node b (named (command t f ws)) ≡ true) × (suits (kind_in b f ws) (named (command t f ws)) ≡ true)
unfolding judged asked command_doubts row_doubts who_doubts named kind_in command_in command_of
who b t f ws e =
    let p = accepts _ _ (accepts _ _ (accepts _ _ (accepts _ _ e).1).1).0 in
    (not-false _ (fine_at _ _ _ refl p.0), not-false _ (fine_at _ _ _ refl p.1))

pub suits_reader : (b : Bench) → Sound b → (c : Call) → judged b c ≡ 0 → is_reader b (named c) ≡ true → SuitsReader b (named c) c
unfolding SuitsReader
suits_reader b ok (command t f ws) e p = ((who b t f ws e).1, reader_apart b ok _ p)
suits_reader b ok (check n t k) e p = tt
suits_reader b ok (arrive n id s) e p = tt
suits_reader b ok (leave n) e p = tt
suits_reader b ok (collect f n k) e p = tt
suits_reader b ok (acknowledge n h) e p = tt

pub suits_hub : (b : Bench) (c : Call) → judged b c ≡ 0 → named c ≡ hub → serves c ≡ true → SuitsHub b c
unfolding SuitsHub serves
suits_hub b (command t f ws) e p q = subst (λ (n : ℕ). suits (kind_in b f ws) n ≡ true) p (who b t f ws e).1
suits_hub b (check n t k) e p q = false≢true q
suits_hub b (arrive n id s) e p q = false≢true q
suits_hub b (leave n) e p q = false≢true q
suits_hub b (collect f n k) e p q = tt
suits_hub b (acknowledge n h) e p q = tt

-- nobody's call is refused by what it says alone
unnamed : (s t : Bool) → s ≡ false → (t && true) ≡ false → (s || t) ≡ true → ⊥
unnamed s true p q e = true≢false q
unnamed s false p q e = false≢true (subst (λ (x : Bool). (x || false) ≡ true) p e)

pub never_nobody : (b : Bench) (c : Call) → judged b c ≡ 0 → is_reader b (named c) ≡ false → (eqb (named c) hub && serves c) ≡ false → ⊥
unfolding judged asked named serves
never_nobody b (command t f ws) e p q = unnamed _ _ p q (who b t f ws e).0
never_nobody b (check n t k) e p q = true≢false (sym (not-false _ (fine _ _ refl (accepts _ _ (accepts _ _ e).1).0)) ∙ p)
never_nobody b (arrive n id s) e p q = true≢false (sym (not-false _ (fine _ _ refl (accepts _ _ e).0)) ∙ p)
never_nobody b (leave n) e p q = true≢false (sym (not-false _ (fine _ _ refl e)) ∙ p)
never_nobody b (collect f n k) e p q = unnamed _ _ p q (not-false _ (fine _ _ refl e))
never_nobody b (acknowledge n h) e p q = unnamed _ _ p q (not-false _ (fine _ _ refl e))

-- ---- in the gateway: a try is refused by a number of its node's state, which is k, or k is 0
unfoldable pub FineT : ℕ → Try → Type 0
FineT k (Try.refuse j) = (late j ≡ true) × (j ≡ k)
FineT k (Try.give r h) = 0 ≡ k
FineT k (Try.due n h w) = 0 ≡ k

fine_lifted : {A : Type 0} (into : A → Gateway → Gateway) (n : ℕ) (g : Gateway) (Q : Type 0) (a : Bool) (ws : List (List ℕ)) (k : ℕ)
    (l : Local A) → FineL Q a ws k l → Q → FineT k (lifted into n g l)
unfolding lifted FineT FineL
fine_lifted into n g Q u ws k (Local.refuse j) p q = p q
fine_lifted into n g Q u ws k (Local.give r a) p q = p.1 q
fine_lifted into n g Q u ws k Local.acked p q = p.2 q
fine_lifted into n g Q u ws k (Local.due a w) p q = p.1 q

pub fine_heeded : (b : Bench) → Sound b → (g : Gateway) (c : Call) → judged b c ≡ 0 → {v : Whom} → Aim b c v
    → FineT (roomless_of b (g.nodes (named c)) (g.reader (named c)) c) (heeded b g c v)
unfolding heeded
fine_heeded b ok g c e (Aim.nowhere p q) = absurd (never_nobody b c e p q)
fine_heeded b ok g c e (Aim.desk p q) =
    rw p (fine_lifted from_desk hub g _ _ _ _ _ (fine_at_hub b (g.nodes hub) (g.reader hub) g.name c p) (suits_hub b c e p q))
fine_heeded b ok g c e (Aim.reader p) =
    fine_lifted (set_reader (named c)) (named c) g _ _ _ _ _ (fine_at_reader b (g.nodes (named c)) (g.reader (named c)) c)
    (suits_reader b ok c e p)

within_both : (a z k : ℕ) → within a z k ≡ true → (a ≤ k) × (k ≤ z)
within_both a z k e = let p = and_true (leb a k) (leb k z) e in (leb-true a k p.0, leb-true k z p.1)

-- a refusal room aside: 3 to 16, but not 13
abbrev Aside : ℕ → Type 0
Aside k = (3 ≤ k) × (k ≤ 16) × (k ≡ 13 → ⊥)

AsideT : Try → Type 0
AsideT (Try.refuse k) = Aside k
AsideT (Try.give r h) = Unit
AsideT (Try.due n h w) = Unit

aside_late : (k : ℕ) (t : Try) → FineT k t → AsideT t
unfolding FineT AsideT late
aside_late k (Try.refuse j) p =
    let q = and_true (within 12 16 j) _ p.0 in
    let r = within_both 12 16 j q.0 in
    (omega arith, omega arith, eqb-false j 13 (not-true _ q.1))
aside_late k (Try.give r h) p = tt
aside_late k (Try.due n h w) p = tt

aside_tried : (b : Bench) → Sound b → (g : Gateway) (c : Call) → AsideT (tried b g c)
unfolding tried AsideT
aside_tried b ok g c = by_judgement (eqb (judged b c) 0) refl (judged_early b c)
  where
    by_judgement : (t : Bool) → eqb (judged b c) 0 ≡ t → (t || within 3 11 (judged b c)) ≡ true
        → AsideT (cond t (heeded b g c (whom b c)) (Try.refuse (judged b c)))
    by_judgement true e p = aside_late _ _ (fine_heeded b ok g c (eqb-true (judged b c) 0 e) (aim b c))
    by_judgement false e p = let r = within_both 3 11 (judged b c) p in (omega arith, omega arith, λ z. omega arith)

-- an answer is due that has no room
abbrev pub Roomless : Bench → Gateway → Call → Type 0
Roomless b g c = (n : ℕ) × (h : Gateway) × (w : List ℕ) × (tried b g c ≡ Try.due n h w) × (fits b n (join n w h) ≡ false)

-- the number of a refusal is one of the table's; 13 says that an answer was due that has no room
refusals : (b : Bench) → Sound b → (g : Gateway) (c : Call) (k : ℕ) → (step b g c).said ≡ refused k → Aside k ⊎ ((k ≡ 13) × Roomless b g c)
unfolding step settled roomed AsideT
refusals b ok g c k e = by_try (tried b g c) refl (aside_tried b ok g c) e
  where
    due : (n : ℕ) (h : Gateway) (w : List ℕ) → tried b g c ≡ Try.due n h w → (t : Bool) → fits b n (join n w h) ≡ t
        → (roomed t g (join n w h)).said ≡ refused k → Aside k ⊎ ((k ≡ 13) × Roomless b g c)
    due n h w e true f q = absurd (let z : ◌≡◌ {A = ℕ} 0 1 = cc in omega arith)
    due n h w e false f q = let r : 13 ≡ k = cc in inr (sym r, (n, h, w, e, f))

    by_try : (t : Try) → tried b g c ≡ t → AsideT t → (settled b g t).said ≡ refused k → Aside k ⊎ ((k ≡ 13) × Roomless b g c)
    by_try (Try.refuse j) e p q = let r : j ≡ k = cc in inl (rw r at p)
    by_try (Try.give r h) e p q = absurd (let z : ◌≡◌ {A = ℕ} 0 1 = cc in omega arith)
    by_try (Try.due n h w) e p q = due n h w e (fits b n (join n w h)) refl q

-- so it is 3 to 16
pub judged_low : (b : Bench) (c : Call) → judged b c ≤ 11
judged_low b c = by_number (eqb (judged b c) 0) refl (judged_early b c)
  where
    by_number : (t : Bool) → eqb (judged b c) 0 ≡ t → (t || within 3 11 (judged b c)) ≡ true → judged b c ≤ 11
    by_number true e p = omega (arith, eqb-true (judged b c) 0 e)
    by_number false e p = (within_both 3 11 (judged b c) p).1

pub refused_numbers : (b : Bench) → Sound b → (g : Gateway) (c : Call) (k : ℕ) → (step b g c).said ≡ refused k → (3 ≤ k) × (k ≤ 16)
refused_numbers b ok g c k e = elim (refusals b ok g c k e) [
  | inl p ↦ (p.0, p.1)
  | inr p ↦ omega (arith, p.0)
]

-- ---- the other way round: what is wrong is said
-- a number that the call alone gives is given, and is the lowest of those that apply
pub judged_given : (b : Bench) (g : Gateway) (c : Call) → (judged b c ≡ 0 → ⊥) → step b g c ≡ record
    { said = refused (judged b c); next = g }
unfolding step tried settled
judged_given b g c h = rw (ne_eqb (judged b c) 0 h)

pub step_lowest : (b : Bench) (g : Gateway) (c : Call) (n : ℕ) → Applies n (doubts (asked b c))
    → (k : ℕ) × ((step b g c).said ≡ refused k) × (k ≤ n)
step_lowest b g c n a =
    let p = judged_lowest b c n a in
    (judged b c, ap (λ (o : Outcome). o.said) (judged_given b g c (λ e. omega arith)), p.1)

-- an answer that is due without room is refused with 13
pub no_room : (b : Bench) (g : Gateway) (c : Call) (n : ℕ) (h : Gateway) (w : List ℕ) → tried b g c ≡ Try.due n h w
    → fits b n (join n w h) ≡ false → step b g c ≡ record { said = refused 13; next = g }
unfolding step settled roomed
no_room b g c n h w e f = rw e (rw f)

-- 13 is given for no other cause ..
pub only_no_room : (b : Bench) → Sound b → (g : Gateway) (c : Call) → (step b g c).said ≡ refused 13 → Roomless b g c
only_no_room b ok g c e = elim (refusals b ok g c 13 e) [
  | inl p ↦ absurd (p.2 refl)
  | inr p ↦ p.1
]

-- .. and in a state that keeps the bounds never while the node's held words and the new answer are within its share
pub never_within : (b : Bench) → Sound b → (g : Gateway) (c : Call) → Bounds b g → (step b g c).said ≡ refused 13
    → (n : ℕ) × (h : Gateway) × (w : List ℕ) × (tried b g c ≡ Try.due n h w) × (Within b n w h → ⊥)
unfolding BoundsT
never_within b ok g c i e =
    let (n, h, w, q, r) = only_no_room b ok g c e in
    (n, h, w, q, λ le. true≢false (sym (fits_within b ok n w h (subst (BoundsT b) q (bounds_tried b g c i)) le) ∙ r))

pub never_within_run : (b : Bench) → Sound b → (memory : ℕ → List ℕ) (cs : List Call) (c : Call)
    → (step b (run b (fresh memory) cs) c).said ≡ refused 13
    → (n : ℕ) × (h : Gateway) × (w : List ℕ) × (tried b (run b (fresh memory) cs) c ≡ Try.due n h w) × (Within b n w h → ⊥)
never_within_run b ok memory cs c e = never_within b ok (run b (fresh memory) cs) c (bounds_run b ok memory cs) e
