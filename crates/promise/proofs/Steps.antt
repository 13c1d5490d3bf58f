-- The meaning's step, said once for each outcome of a call.
-- Assumes nothing.
use Rattle.units.proofs.Common.{sym, ◌∙◌, ◌≡◌, refl, ap, subst, fun_ext, true, false, Bool, cond, not, List, [], ◌∷◌, ℕ, arith, eqb, leb}
use Rattle.units.proofs.Common.{length, eq-eqb, ne_eqb, eqb-true, yes_cond, no_cond, yes_and}
use Rattle.units.specs.declared.Form.{Form}
use Rattle.meaning.proofs.Terms.{Bench, hub, is_reader, is_node, shown, Gateway, put, set_node, set_reader, taken, swept, Call, collect, step}
use Rattle.meaning.proofs.Terms.{acknowledge, Said, refused, answered, Result, done, handed, Outcome, Local, idle, asked, judged}
use Rattle.meaning.proofs.Terms.{collecting, acknowledging, at_reader, at_hub, Whom, gateway, one, named, serves, whom, lifted, from_desk}
use Rattle.meaning.proofs.Terms.{heeded, tried, settled}
use Rattle.meaning.specs.Gateway as M
use Rattle.meaning.proofs.Chain.{none, this}
use Rattle.machine.proofs.Terms.{Machine, meaning, unfit}
use Rattle.promise.specs.Obeyed.{Obeyed}
use Rattle.promise.proofs.Tables.{hub_named, node_hub}
use Rattle.promise.proofs.Promises.{saying, by_step, turning, AtReader}

-- ---- by whom the call is for
module _ (b : Bench) (g : Gateway) (c : Call) where
  pub heeded_by : (w : Whom) → judged b c ≡ 0 → whom b c ≡ w → step b g c ≡ settled b g (heeded b g c w)
  unfolding step tried
  heeded_by w e q = ap (settled b g) (yes_cond _ (eq-eqb _ _ e) ∙ ap (heeded b g c) q)

  pub step_refused : (k : ℕ) → judged b c ≡ k → (k ≡ 0 → ⊥) → step b g c ≡ saying (refused k) g
  unfolding step tried settled
  step_refused k e n = ap (settled b g) (no_cond _ (ne_eqb (judged b c) 0 (λ z. n (sym e ∙ z)))) ∙ ap (λ (j : ℕ). saying (refused j) g) e

  pub step_reader : (n : ℕ) → judged b c ≡ 0 → named c ≡ n → is_reader b n ≡ true
      → step b g c ≡ settled b g (lifted (set_reader n) n g (at_reader b n (g.nodes n) (g.reader n) c))
  unfolding heeded whom
  step_reader n e p r = heeded_by (one n) e (yes_cond _ (ap (is_reader b) p ∙ r) ∙ ap one p)

  pub step_hub : judged b c ≡ 0 → named c ≡ hub → is_reader b hub ≡ false → serves c ≡ true
      → step b g c ≡ settled b g (lifted from_desk hub g (at_hub b (g.nodes hub) g.name c))
  unfolding heeded whom
  step_hub e p r s = heeded_by gateway e (no_cond _ (ap (is_reader b) p ∙ r) ∙ yes_cond _ (yes_and (eq-eqb (named c) hub p) ∙ s))

-- ---- the promise of a call on a machine
module _ (b : Bench) (m : Machine) (c : Call) (fit : unfit b m ≡ 0) where
  -- refused by what it says alone
  pub refused_by : (k : ℕ) → judged b c ≡ k → (k ≡ 0 → ⊥) → Obeyed b c m (refused k) m
  refused_by k e d = turning b m c fit k (step_refused b (meaning b m) c k e d)

  -- obeyed as reader n makes of it
  pub reader_called : (n : ℕ) → judged b c ≡ 0 → named c ≡ n → is_reader b n ≡ true → {s : Said} {m' : Machine}
      → AtReader b m n (at_reader b n ((meaning b m).nodes n) ((meaning b m).reader n) c) s m' → Obeyed b c m s m'
  reader_called n e p r d = by_step b m c fit (step_reader b (meaning b m) c n e p r) d

-- putting back what is there
put_self : {A : Type 0} (n : ℕ) (f : ℕ → A) → put n (f n) f ≡ f
unfolding put
put_self n f = fun_ext (λ k. by_number k (eqb k n) refl)
  where
    by_number : (k : ℕ) (t : Bool) → eqb k n ≡ t → cond t (f n) (f k) ≡ f k
    by_number k true e = ap f (sym (eqb-true k n e))
    by_number k false e = refl

pub same_reader : (g : Gateway) (n : ℕ) → set_reader n (g.reader n) g ≡ g
same_reader g n = ap (λ (f : ℕ → M.Reader). record { name = g.name; nodes = g.nodes; reader = f }) (put_self n g.reader)

pub same_desk : (g : Gateway) → from_desk (idle g.name) g ≡ g
unfolding from_desk swept
same_desk g = refl

-- ---- a call about a node's list changes nothing else: a reader and the gateway serve it alike, and nothing is put back
kept : Gateway → Gateway → Gateway
kept h g = h

module _ (b : Bench) (g : Gateway) where
  by_node : (n : ℕ) → is_node b n ≡ true → (P : ℕ → Type 0) → (is_reader b n ≡ true → P n) → (is_reader b hub ≡ false → P hub) → P n
  by_node n is P x y = by_reader (is_reader b n) refl
    where
      by_reader : (t : Bool) → is_reader b n ≡ t → P n
      by_reader true r = x r
      by_reader false r = let h = hub_named b n is r in subst P (sym h) (y (ap (is_reader b) (sym h) ∙ r))

  -- ---- acknowledge
  module _ (n h : ℕ) (is : is_node b n ≡ true) where
    relief : ℕ → List (List ℕ) → Outcome
    relief k l = settled b g (lifted kept k g (acknowledging (g.nodes k).handover h l))

    acknowledged : step b g (acknowledge n h) ≡ relief n (g.nodes n).pending
    unfolding judged asked named serves at_reader at_hub lifted settled acknowledging relief
    acknowledged =
        by_node n is (λ k. step b g (acknowledge k h) ≡ relief k (g.nodes k).pending)
        (λ r. step_reader b g (acknowledge n h) n (none 7 (ap not is)) refl r ∙ alike (set_reader n) n (g.nodes n).pending)
        (λ r. step_hub b g (acknowledge hub h) (none 7 (ap not (node_hub b))) refl r refl ∙ alike from_desk hub (g.nodes hub).pending)
      where
        alike : {A : Type 0} (into : A → Gateway → Gateway) (k : ℕ) (l : List (List ℕ))
            → settled b g (lifted into k g (acknowledging (g.nodes k).handover h l)) ≡ relief k l
        alike into k [] = refl
        alike into k (w ∷ ws) = by_handover (eqb h (g.nodes k).handover)
          where
            by_handover : (t : Bool) → settled b g (lifted into k g (cond t Local.acked (Local.refuse 15)))
                ≡ settled b g (lifted kept k g (cond t Local.acked (Local.refuse 15)))
            by_handover true = refl
            by_handover false = refl

    pub acknowledge_14 : (g.nodes n).pending ≡ [] → step b g (acknowledge n h) ≡ saying (refused 14) g
    unfolding lifted settled acknowledging relief
    acknowledge_14 e = rw (acknowledged, e)

    module _ (w : List ℕ) (ws : List (List ℕ)) (e : (g.nodes n).pending ≡ w ∷ ws) where
      pub acknowledge_15 : eqb h (g.nodes n).handover ≡ false → step b g (acknowledge n h) ≡ saying (refused 15) g
      unfolding lifted settled acknowledging relief
      acknowledge_15 d = rw (acknowledged, e, d)

      pub acknowledge_0 : eqb h (g.nodes n).handover ≡ true → step b g (acknowledge n h) ≡ saying (answered done)
          (set_node n (taken (g.nodes n)) g)
      unfolding lifted settled acknowledging relief
      acknowledge_0 d = acknowledged ∙ ap (relief n) e ∙ rw d

  -- ---- collect
  module _ (f : Form) (n room : ℕ) where
    offer : ℕ → List (List ℕ) → Outcome
    offer k l = settled b g (lifted kept k g (collecting g f k room (g.nodes k).handover l))

    collected : is_node b n ≡ true → step b g (collect f n room) ≡ offer n (g.nodes n).pending
    unfolding judged asked named serves at_reader at_hub lifted settled collecting offer kept
    collected is =
        by_node n is (λ k. step b g (collect f k room) ≡ offer k (g.nodes k).pending)
        (λ r. step_reader b g (collect f n room) n (none 7 (ap not is)) refl r
        ∙ alike (set_reader n) (same_reader g n) n (g.nodes n).pending)
        (λ r. step_hub b g (collect f hub room) (none 7 (ap not (node_hub b))) refl r refl
        ∙ alike from_desk (same_desk g) hub (g.nodes hub).pending)
      where
        alike : {A : Type 0} (into : A → Gateway → Gateway) {a : A} → into a g ≡ g → (k : ℕ) (l : List (List ℕ))
            → settled b g (lifted into k g (collecting a f k room (g.nodes k).handover l)) ≡ offer k l
        alike into e k [] = refl
        alike into {a} e k (w ∷ ws) = by_room (leb (length (shown f k w)) room)
          where
            h : Result
            h = handed (shown f k w) (g.nodes k).handover

            by_room : (t : Bool) → settled b g (lifted into k g (cond t (Local.give h a) (Local.refuse 16)))
                ≡ settled b g (lifted kept k g (cond t (Local.give h g) (Local.refuse 16)))
            by_room true = ap (saying _) e
            by_room false = refl

    pub collect_7 : is_node b n ≡ false → step b g (collect f n room) ≡ saying (refused 7) g
    unfolding judged asked
    collect_7 r = step_refused b g (collect f n room) 7 (this 7 (ap not r)) (λ z. omega arith)

    pub collect_14 : is_node b n ≡ true → (g.nodes n).pending ≡ [] → step b g (collect f n room) ≡ saying (refused 14) g
    unfolding lifted settled collecting offer
    collect_14 is e = rw (collected is, e)

    module _ (is : is_node b n ≡ true) (w : List ℕ) (ws : List (List ℕ)) (e : (g.nodes n).pending ≡ w ∷ ws) where
      pub collect_16 : leb (length (shown f n w)) room ≡ false → step b g (collect f n room) ≡ saying (refused 16) g
      unfolding lifted settled collecting offer
      collect_16 d = rw (collected is, e, d)

      pub collect_0 : leb (length (shown f n w)) room ≡ true
          → step b g (collect f n room) ≡ saying (answered (handed (shown f n w) (g.nodes n).handover)) g
      unfolding lifted settled collecting offer kept
      collect_0 d = rw (collected is, e, d)

    -- collect changes nothing
    pub collect_keeps : (step b g (collect f n room)).next ≡ g
    unfolding lifted settled collecting offer kept
    collect_keeps = by_test (is_node b n) refl
      where
        list : (l : List (List ℕ)) → (offer n l).next ≡ g
        list [] = refl
        list (w ∷ ws) = each (leb (length (shown f n w)) room)
          where
            each : (t : Bool) → (settled b g (lifted kept n g
                (cond t (Local.give (handed (shown f n w) (g.nodes n).handover) g) (Local.refuse 16)))).next ≡ g
            each true = refl
            each false = refl

        by_test : (t : Bool) → is_node b n ≡ t → (step b g (collect f n room)).next ≡ g
        by_test true p = ap (λ (o : Outcome). o.next) (collected p) ∙ list (g.nodes n).pending
        by_test false p = ap (λ (o : Outcome). o.next) (collect_7 p)
