-- Where an answer is queued, it was due from the node that the call names, and waits there; where none is, none comes to be pending.
-- Assumes nothing.
use Rattle.units.proofs.Common.{sym, ◌∙◌, ◌≡◌, refl, ap, subst, true, false, Bool, cond, ◌||◌, List, [], ◌∷◌, ◌++◌, ℕ, ◌≤◌, arith, eqb}
use Rattle.units.proofs.Common.{length, drop, length-append, eq-eqb, eqb-false, yes_or, yes_cond}
use Rattle.meaning.proofs.Terms.{Bench, hub, is_reader, is_node, Node, Gateway, put, set_node, set_reader, joined, join, taken, Sweep, none}
use Rattle.meaning.proofs.Terms.{clearing, resetting, emptied, swept, fits, Call, Local, Try, Whom, named, lifted, from_desk, heeded, judged}
use Rattle.meaning.proofs.Terms.{tried, Said, queued, roomed, settled, step}
use Rattle.demands.proofs.Aim.{Aim, aim}
use Rattle.demands.proofs.Local.{cond_all}
use Rattle.asking.specs.Ask.{NonePending}

-- ---- none pending stays so, but for the answer that is due
swept_none : (s : Sweep) (x : Node) → x.pending ≡ [] → (swept s x).pending ≡ []
unfolding swept emptied
swept_none none x e = e
swept_none clearing x e = ap (λ (ws : List (List ℕ)). (emptied x ws).pending) e ∙ e
swept_none resetting x e = ap (λ (ws : List (List ℕ)). (emptied x ws).pending) e ∙ e

-- .. where each other node has none, and node n is set to one that has none
pub set_none : (n : ℕ) (x : Node) (g : Gateway) → x.pending ≡ [] → ((k : ℕ) → (k ≡ n → ⊥) → (g.nodes k).pending ≡ []) → NonePending
    (set_node n x g)
unfolding put
set_none n x g e z k = by_node (eqb k n) refl
  where
    by_node : (t : Bool) → eqb k n ≡ t → (cond t x (g.nodes k)).pending ≡ []
    by_node true q = e
    by_node false q = z k (eqb-false k n q)

-- ---- room aside
-- what a call that names node n comes to
TriedT : Bench → Call → Gateway → Try → Type 0
TriedT b c g (Try.refuse k) = Unit
TriedT b c g (Try.give r h) = NonePending g → NonePending h
TriedT b c g (Try.due n h w) = (n ≡ named c) × (is_node b n ≡ true) × (NonePending g → NonePending h)

tried_lifted : {A : Type 0} (b : Bench) (c : Call) (into : A → Gateway → Gateway) (n : ℕ) (g : Gateway) (l : Local A) → n ≡ named c → is_node
    b n ≡ true
    → ((a : A) → NonePending g → NonePending (into a g)) → TriedT b c g (lifted into n g l)
unfolding lifted TriedT taken
tried_lifted b c into n g (Local.refuse k) e is z = tt
tried_lifted b c into n g (Local.give r a) e is z = z a
tried_lifted b c into n g Local.acked e is z = λ v. set_none n (taken (g.nodes n)) g (ap (drop 1) (v n)) (λ k _. v k)
tried_lifted b c into n g (Local.due a w) e is z = (e, is, z a)

or_last : (s : Bool) {t : Bool} → t ≡ true → (s || t) ≡ true
or_last true e = refl
or_last false e = e

tried_heeded : (b : Bench) (g : Gateway) (c : Call) {v : Whom} → Aim b c v → TriedT b c g (heeded b g c v)
unfolding heeded TriedT from_desk
tried_heeded b g c (Aim.nowhere p q) = tt
tried_heeded b g c (Aim.desk p q) =
    tried_lifted b c from_desk hub g _ (sym p) (or_last (is_reader b hub) refl) (λ d z n. swept_none d.broom (g.nodes n) (z n))
tried_heeded b g c (Aim.reader p) = tried_lifted b c (set_reader (named c)) (named c) g _ refl (yes_or _ p) (λ a z. z)

tried_is : (b : Bench) (g : Gateway) (c : Call) → TriedT b c g (tried b g c)
unfolding tried TriedT
tried_is b g c = cond_all (TriedT b c g) (eqb (judged b c) 0) _ _ (tried_heeded b g c (aim b c)) tt

-- ---- the step
-- an answer that was queued
pub record Queues (b : Bench) (g : Gateway) (c : Call) : Type 0 where
  pub effect : Gateway  -- the gateway after the effect, before the answer joins
  pub answer : List ℕ
  pub due : tried b g c ≡ Try.due (named c) effect answer
  pub next : (step b g c).next ≡ join (named c) answer effect
  pub node : is_node b (named c) ≡ true
  pub only : NonePending g → NonePending effect

module _ (b : Bench) (g : Gateway) (c : Call) (q : (step b g c).said ≡ queued) where
  queues_roomed : (h : Gateway) (w : List ℕ) → tried b g c ≡ Try.due (named c) h w → is_node b (named c) ≡ true →
      (NonePending g → NonePending h)
      → (t : Bool) → fits b (named c) (join (named c) w h) ≡ t → Queues b g c
  unfolding step settled roomed
  queues_roomed h w e is z true f = record { effect = h; answer = w; due = e; next = rw e (rw f); node = is; only = z }
  queues_roomed h w e is z false f = absurd (let x : queued ≡ Said.refused 13 = sym q ∙ rw e (rw f) in let y : ◌≡◌ {A = ℕ} 0 1 = cc in omega
      arith)

  queues_tried : (t : Try) → tried b g c ≡ t → TriedT b c g t → Queues b g c
  unfolding step settled TriedT
  queues_tried (Try.refuse k) e d = absurd (let z : queued ≡ Said.refused k = sym q ∙ rw e in let y : ◌≡◌ {A = ℕ} 0 1 = cc in omega arith)
  queues_tried (Try.give r h) e d = absurd (let z : queued ≡ Said.answered r = sym q ∙ rw e in let y : ◌≡◌ {A = ℕ} 0 1 = cc in omega arith)
  queues_tried (Try.due n h w) e d =
      queues_roomed h w (e ∙ ap (λ (k : ℕ). Try.due k h w) d.0) (subst (λ (k : ℕ). is_node b k ≡ true) d.0 d.1) d.2 _ refl

  pub queues : Queues b g c
  queues = queues_tried (tried b g c) refl (tried_is b g c)

  -- it waits there, the last
  pub joins : ((step b g c).next.nodes (named c)).pending ≡ (queues.effect.nodes (named c)).pending ++ (queues.answer ∷ [])
  unfolding put joined
  joins =
      ap (λ (h : Gateway). (h.nodes (named c)).pending) queues.next
      ∙ ap (λ (x : Node). x.pending) (yes_cond (queues.effect.nodes (named c)) (eq-eqb (named c) (named c) refl))

  pub waits : 1 ≤ length ((step b g c).next.nodes (named c)).pending
  waits = rw (joins, length-append) (omega arith)

-- a call that has no answer leaves none pending where none was
pub step_none : (b : Bench) (g : Gateway) (c : Call) → ((step b g c).said ≡ queued → ⊥) → NonePending g → NonePending (step b g c).next
unfolding step settled roomed TriedT
step_none b g c q z = by_try (tried b g c) (tried_is b g c) q
  where
    due : (n : ℕ) (h : Gateway) (w : List ℕ) (t : Bool) → ((roomed t g (join n w h)).said ≡ queued → ⊥) → NonePending
        (roomed t g (join n w h)).next
    due n h w true f = absurd (f refl)
    due n h w false f = z

    by_try : (t : Try) → TriedT b c g t → ((settled b g t).said ≡ queued → ⊥) → NonePending (settled b g t).next
    by_try (Try.refuse k) p f = z
    by_try (Try.give r h) p f = p z
    by_try (Try.due n h w) p f = due n h w (fits b n (join n w h)) f
