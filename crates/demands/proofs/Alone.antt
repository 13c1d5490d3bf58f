-- The third demand's second half: a reader that stays within its share, on a gateway that does, never notices the others.
-- Assumes nothing.
use Rattle.units.proofs.Common.{yes_or, rules, sym, ◌∙◌, ◌≡◌, refl, ap, true, false, Bool, cond, true≢false, List, [], ◌∷◌, ℕ, eqb, eq-eqb}
use Rattle.units.proofs.Common.{ne_eqb, eqb-true, eqb-false}
use mathlib.Core.Path.{ap₂}
use Rattle.meaning.proofs.Terms.{at_hub, Bench, hub, Node, Reader, Gateway, put, joined, join, taken, swept, fresh, set_node, set_reader, fits}
use Rattle.meaning.proofs.Terms.{Call, Try, Local, Outcome, Whom, nobody, gateway, one, lifted, heeded, tried, settled, roomed, step, run}
use Rattle.meaning.proofs.Terms.{from_desk, Desk, judged, whom, named, Result, done}
use Rattle.demands.specs.Sound.{Sound}
use Rattle.demands.specs.Demand.{Bounds, kept, spared, stays, struck, line, log, of_ours, Same, ours, Eased, Ease}
use Rattle.demands.proofs.Local.{cond_all}
use Rattle.demands.proofs.Aim.{Aim, aim, reader_apart}
use Rattle.demands.proofs.Numbers.{or_right}
use Rattle.demands.proofs.Room.{put_other, BoundsT, bounds_tried, bounds_step, bounds_fresh, fits_within}

-- ---- what is struck out: exactly the calls for a reader that is not i
spared_others : (i : ℕ) (v : Whom) → spared i v ≡ false → (n : ℕ) × (v ≡ one n) × (n ≡ i → ⊥)
unfolding spared
spared_others i nobody e = absurd (true≢false e)
spared_others i gateway e = absurd (true≢false e)
spared_others i (one n) e = (n, refl, eqb-false n i e)

pub struck_others : (b : Bench) (i : ℕ) (c : Call) → stays b i c ≡ false → (n : ℕ) × (whom b c ≡ one n) × (n ≡ i → ⊥)
unfolding stays
struck_others b i c e = spared_others i (whom b c) e

pub others_struck : (b : Bench) (i : ℕ) (c : Call) (n : ℕ) → whom b c ≡ one n → (n ≡ i → ⊥) → stays b i c ≡ false
unfolding stays spared
others_struck b i c n e h = rw e (ne_eqb n i h)

-- ---- what reader i sees
same_refl : (i : ℕ) (g : Gateway) → Same i g g
same_refl i g = record { name = refl; own = refl; hubs = refl; side = refl }

-- ---- what is done alike to both keeps them the same
put_alike : {A : Type 0} (n : ℕ) (a : A) (f k : ℕ → A) (m : ℕ) → f m ≡ k m → put n a f m ≡ put n a k m
unfolding put
put_alike n a f k m e = ap (λ y. cond (eqb m n) a y) e

same_set_node : (i n : ℕ) (x : Node) (g s : Gateway) → Same i g s → Same i (set_node n x g) (set_node n x s)
same_set_node i n x g s e = search (rules, put_alike)

same_set_reader : (i n : ℕ) (r : Reader) (g s : Gateway) → Same i g s → Same i (set_reader n r g) (set_reader n r s)
same_set_reader i n r g s e = search (rules, put_alike)

same_from_desk : (i : ℕ) (d : Desk) (g s : Gateway) → Same i g s → Same i (from_desk d g) (from_desk d s)
unfolding from_desk
same_from_desk i d g s e =
    record { name = refl; own = ap (swept d.broom) e.own; hubs = ap (swept d.broom) e.hubs; side = e.side }

-- the nodes that are the same in both: reader i's and the gateway's own, which are those that the proviso speaks of
data Seen (i : ℕ) : ℕ → Type 0 where
  own : Seen i i
  desk : Seen i hub

same_at : {i n : ℕ} → Seen i n → (g s : Gateway) → Same i g s → g.nodes n ≡ s.nodes n
same_at own g s e = e.own
same_at desk g s e = e.hubs

ours_seen : {i n : ℕ} → Seen i n → ours i n ≡ true
ours_seen {i} own = yes_or _ (eq-eqb i i refl)
ours_seen {i} desk = or_right (eqb hub i) true refl

-- ---- a call that stays
-- two tries that differ at most in what reader i can't see
data Alike (i : ℕ) : Try → Try → Type 0 where
  refuse : (k : ℕ) → Alike i (Try.refuse k) (Try.refuse k)
  give : {g s : Gateway} (r : Result) → Same i g s → Alike i (Try.give r g) (Try.give r s)
  due : {g s : Gateway} (n : ℕ) (w : List ℕ) → Seen i n → Same i g s → Alike i (Try.due n g w) (Try.due n s w)

alike_lifted : {A : Type 0} (i : ℕ) (into : A → Gateway → Gateway) (n : ℕ) (g s : Gateway) (l : Local A)
    → ((a : A) → Same i (into a g) (into a s)) → Seen i n → Same i g s → Alike i (lifted into n g l) (lifted into n s l)
unfolding lifted
alike_lifted i into n g s (Local.refuse k) f o e = Alike.refuse k
alike_lifted i into n g s (Local.give r a) f o e = Alike.give r (f a)
alike_lifted i into n g s Local.acked f o e = rw (← same_at o g s e) (Alike.give done (same_set_node i n (taken (g.nodes n)) g s e))
alike_lifted i into n g s (Local.due a w) f o e = Alike.due n w o (f a)

alike_heeded : (b : Bench) (i : ℕ) (g s : Gateway) (c : Call) → Same i g s → (v : Whom) → spared i v ≡ true
    → Alike i (heeded b g c v) (heeded b s c v)
unfolding heeded spared
alike_heeded b i g s c e nobody q = Alike.refuse 7
alike_heeded b i g s c e gateway q =
    let p : at_hub b (s.nodes hub) s.name c ≡ at_hub b (g.nodes hub) g.name c = cc in
    rw p (alike_lifted i from_desk hub g s _ (λ d. same_from_desk i d g s e) desk e)
alike_heeded b i g s c e (one n) q =
    let m : n ≡ i = eqb-true n i q in
    rw (m, ← e.own, ← e.side) (alike_lifted i (set_reader i) i g s _ (λ a. same_set_reader i i a g s e) own e)

alike_tried : (b : Bench) (i : ℕ) (g s : Gateway) (c : Call) → Same i g s → stays b i c ≡ true → Alike i (tried b g c) (tried b s c)
unfolding tried stays
alike_tried b i g s c e q = by_judgement (eqb (judged b c) 0)
  where
    by_judgement : (t : Bool) → Alike i (cond t (heeded b g c (whom b c)) (Try.refuse (judged b c)))
        (cond t (heeded b s c (whom b c)) (Try.refuse (judged b c)))
    by_judgement true = alike_heeded b i g s c e (whom b c) q
    by_judgement false = Alike.refuse (judged b c)

-- what both say, and that they are the same to reader i afterwards
record Agree (i : ℕ) (o u : Outcome) : Type 0 where
  said : o.said ≡ u.said
  next : Same i o.next u.next

agree_joined : (i n : ℕ) (w : List ℕ) (g s h k : Gateway) (t u : Bool) → t ≡ true → u ≡ true → Seen i n → Same i h k
    → Agree i (roomed t g (join n w h)) (roomed u s (join n w k))
unfolding roomed
agree_joined i n w g s h k t u p q o e =
    rw (p, q, ← same_at o h k e) (record { said = refl; next = same_set_node i n (joined w (h.nodes n)) h k e })

agree_settled : (b : Bench) → Sound b → (i : ℕ) (g s : Gateway) → Same i g s → {t u : Try} → Alike i t u
    → BoundsT b t → BoundsT b u → Eased b i t → Agree i (settled b g t) (settled b s u)
unfolding settled BoundsT Eased
agree_settled b ok i g s e (Alike.refuse k) x y z = record { said = refl; next = e }
agree_settled b ok i g s e (Alike.give r f) x y z = record { said = refl; next = f }
agree_settled b ok i g s e (Alike.due {g = h} {s = k} n w o f) x y z =
    agree_joined i n w g s h k _ _ (fits_within b ok n w h x (z (ours_seen o)))
    (fits_within b ok n w k y (rw (same_at o h k f) at (z (ours_seen o)))) o f

agree_step : (b : Bench) → Sound b → (i : ℕ) (g s : Gateway) (c : Call) → Same i g s → Bounds b g → Bounds b s
    → stays b i c ≡ true → Eased b i (tried b g c) → Agree i (step b g c) (step b s c)
unfolding step
agree_step b ok i g s c e x y q z = agree_settled b ok i g s e (alike_tried b i g s c e q) (bounds_tried b g c x) (bounds_tried b s c y) z

-- ---- a call for another reader
-- a try that touches neither i nor the gateway's own node
data Apart (i : ℕ) (s : Gateway) : Try → Type 0 where
  refuse : (k : ℕ) → Apart i s (Try.refuse k)
  give : {h : Gateway} (r : Result) → Same i h s → Apart i s (Try.give r h)
  due : {h : Gateway} (n : ℕ) (w : List ℕ) → (i ≡ n → ⊥) → (hub ≡ n → ⊥) → Same i h s → Apart i s (Try.due n h w)

apart_set_node : (i n : ℕ) (x : Node) (g s : Gateway) → (i ≡ n → ⊥) → (hub ≡ n → ⊥) → Same i g s → Same i (set_node n x g) s
apart_set_node i n x g s p q e =
    let own = put_other n x g.nodes i p ∙ e.own in
    let hubs = put_other n x g.nodes hub q ∙ e.hubs in
    search rules

apart_set_reader : (i n : ℕ) (r : Reader) (g s : Gateway) → (i ≡ n → ⊥) → Same i g s → Same i (set_reader n r g) s
apart_set_reader i n r g s p e = let side = put_other n r g.reader i p ∙ e.side in search rules

apart_lifted : (i n : ℕ) (g s : Gateway) (l : Local Reader) → (i ≡ n → ⊥) → (hub ≡ n → ⊥) → Same i g s → Apart i s
    (lifted (set_reader n) n g l)
unfolding lifted
apart_lifted i n g s (Local.refuse k) p q e = Apart.refuse k
apart_lifted i n g s (Local.give r a) p q e = Apart.give r (apart_set_reader i n a g s p e)
apart_lifted i n g s Local.acked p q e = Apart.give done (apart_set_node i n (taken (g.nodes n)) g s p q e)
apart_lifted i n g s (Local.due a w) p q e = Apart.due n w p q (apart_set_reader i n a g s p e)

apart_heeded : (b : Bench) → Sound b → (i : ℕ) (g s : Gateway) (c : Call) → Same i g s → {v : Whom} → Aim b c v → spared i v ≡ false
    → Apart i s (heeded b g c v)
unfolding heeded spared
apart_heeded b ok i g s c e (Aim.nowhere p w) q = absurd (true≢false q)
apart_heeded b ok i g s c e (Aim.desk p w) q = absurd (true≢false q)
apart_heeded b ok i g s c e (Aim.reader p) q =
    apart_lifted i (named c) g s _
    (λ r. eqb-false (named c) i q (sym r)) (λ r. reader_apart b ok (named c) p (sym r)) e

apart_tried : (b : Bench) → Sound b → (i : ℕ) (g s : Gateway) (c : Call) → Same i g s → stays b i c ≡ false → Apart i s (tried b g c)
unfolding tried stays
apart_tried b ok i g s c e q = cond_all (Apart i s) (eqb (judged b c) 0) _ _ (apart_heeded b ok i g s c e (aim b c) q) (Apart.refuse _)

apart_roomed : (i n : ℕ) (w : List ℕ) (g h s : Gateway) (t : Bool) → Same i g s → (i ≡ n → ⊥) → (hub ≡ n → ⊥) → Same i h s
    → Same i (roomed t g (join n w h)).next s
unfolding roomed
apart_roomed i n w g h s true e p q f = apart_set_node i n (joined w (h.nodes n)) h s p q f
apart_roomed i n w g h s false e p q f = e

apart_settled : (b : Bench) (i : ℕ) (g s : Gateway) → Same i g s → {t : Try} → Apart i s t → Same i (settled b g t).next s
unfolding settled
apart_settled b i g s e (Apart.refuse k) = e
apart_settled b i g s e (Apart.give r f) = f
apart_settled b i g s e (Apart.due {h = h} n w p q f) = apart_roomed i n w g h s (fits b n (join n w h)) e p q f

apart_step : (b : Bench) → Sound b → (i : ℕ) (g s : Gateway) (c : Call) → Same i g s → stays b i c ≡ false → Same i (step b g c).next s
unfolding step
apart_step b ok i g s c e q = apart_settled b i g s e (apart_tried b ok i g s c e q)

-- ---- runs
same_line : (i : ℕ) (c : Call) (o u : Outcome) → Agree i o u → line i c o ≡ line i c u
unfolding line
same_line i c o u a = cc (a.said, a.next.own, a.next.side, a.next.name)

-- line for line the same, and the same at the end
abbrev Alone : Bench → ℕ → List Call → Gateway → Gateway → Type 0
Alone b i cs g s = (kept (of_ours b i) (log b i g cs) ≡ log b i s (struck b i cs)) × Same i (run b g cs) (run b s (struck b i cs))

module _ (b : Bench) (ok : Sound b) (i : ℕ) where
  alone_from : (cs : List Call) (g s : Gateway) → Same i g s → Bounds b g → Bounds b s → Ease b i g cs → Alone b i cs g s
  unfolding kept struck log line run Ease
  alone_from [] g s e x y z = (refl, e)
  alone_from (c ∷ cs) g s e x y z =
      by_stay (λ u f w. alone_from cs (step b g c).next u f (bounds_step b g c x) w z.1) (stays b i c) refl
    where
      by_stay : ((u : Gateway) → Same i (step b g c).next u → Bounds b u → Alone b i cs (step b g c).next u)
          → (t : Bool) → stays b i c ≡ t
          → (cond t (line i c (step b g c) ∷ kept (of_ours b i) (log b i (step b g c).next cs))
          (kept (of_ours b i) (log b i (step b g c).next cs)) ≡ log b i s (cond t (c ∷ struck b i cs) (struck b i cs)))
          × Same i (run b (step b g c).next cs) (run b s (cond t (c ∷ struck b i cs) (struck b i cs)))
      by_stay rest true q =
          let a = agree_step b ok i g s c e x y q z.0 in
          let r = rest (step b s c).next a.next (bounds_step b s c y) in
          (ap₂ ◌∷◌ (same_line i c (step b g c) (step b s c) a) r.0, r.1)
      by_stay rest false q = rest s (apart_step b ok i g s c e q) y

  module _ (memory : ℕ → List ℕ) (cs : List Call) (z : Ease b i (fresh memory) cs) where
    alone : Alone b i cs (fresh memory) (fresh memory)
    alone = let o = bounds_fresh b ok memory in alone_from cs (fresh memory) (fresh memory) (same_refl i (fresh memory)) o o z

    -- From a fresh state, over any calls, if every answer due from reader i or from the gateway's own node is within its node's share,
    -- then the run's log without the lines of the calls for other readers is the log of the run without those calls:
    -- line for line the same results, the same pending answers and counts of reader i, the same plaque, mode and memory, and the same name
    pub strike_out : kept (of_ours b i) (log b i (fresh memory) cs) ≡ log b i (fresh memory) (struck b i cs)
    strike_out = alone.0

    -- the same of the states that the two runs come to; with `bounds-run`, both bounds hold in both
    pub strike_out_state : Same i (run b (fresh memory) cs) (run b (fresh memory) (struck b i cs))
    strike_out_state = alone.1
