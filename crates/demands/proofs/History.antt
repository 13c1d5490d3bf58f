-- A node's pending answers are those made at it, in order, without those that went: by acknowledgement the oldest, by 61 and 79 all.
-- Assumes nothing.
use Rattle.units.proofs.Common.{sym, ◌∙◌, ◌≡◌, refl, ap, true, false, Bool, cond, ◌&&◌, List, [], ◌∷◌, ◌++◌, ℕ, ◌≤◌, ◌+◌, le_refl, arith}
use Rattle.units.proofs.Common.{eqb, length, drop, length-drop, length-append, drop-drop, eqb-true}
use lib.Seq.{drop-append-le, drop-length}
use Rattle.meaning.proofs.Terms.{Bench, hub, Node, Reader, Gateway, put, set_reader, join, joined, taken, Sweep, none, clearing, resetting}
use Rattle.meaning.proofs.Terms.{emptied, swept, fresh, added, held, fits, Call, Local, Try, Whom, named, Desk, judged, whom, lifted}
use Rattle.meaning.proofs.Terms.{from_desk, heeded, tried, roomed, settled, step, run}
use Rattle.demands.specs.Counts.{node_for, broom_call, broom_for, is_sweep, is_ack, Past, answer_due, past_after, past, unmade, Tells}
use Rattle.demands.proofs.Local.{cond_all, FineL, fine_at_reader, fine_at_hub}
use Rattle.demands.proofs.Aim.{Aim, aim}
use Rattle.demands.proofs.Counted.{Brooms, brooms_at_hub}

emptied_pending : (x : Node) (ws : List (List ℕ)) → x.pending ≡ ws → (emptied x ws).pending ≡ []
unfolding emptied
emptied_pending x [] e = e
emptied_pending x (w ∷ ws) e = refl

swept_pending : (s : Sweep) (x : Node) → (swept s x).pending ≡ cond (is_sweep s) [] x.pending
unfolding swept is_sweep
swept_pending none x = refl
swept_pending clearing x = emptied_pending x x.pending refl
swept_pending resetting x = emptied_pending x x.pending refl

swept_idle : (s : Sweep) (x : Node) → s ≡ none → swept s x ≡ x
unfolding swept
swept_idle s x e = rw e

-- ---- what a call does to a list: m is the node that it is for, z its broom, a says whether it acknowledges
-- the oldest goes, and there is one
data Went (ws : List (List ℕ)) : Bool → List (List ℕ) → Type 0 where
  kept : Went ws false ws
  went : 1 ≤ length ws → Went ws true (drop 1 ws)

PendT : ℕ → ℕ → Sweep → Bool → Gateway → Try → Type 0
PendT n m z a g (Try.refuse k) = Unit
PendT n m z a g (Try.give r h) = Went (g.nodes n).pending (a && eqb n m) (h.nodes n).pending
PendT n m z a g (Try.due j h w) = (j ≡ m) × ((h.nodes n).pending ≡ cond (is_sweep z) [] (g.nodes n).pending)

pend_taken : (n m : ℕ) (g : Gateway) → 1 ≤ length (g.nodes m).pending
    → Went (g.nodes n).pending (eqb n m) (put m (taken (g.nodes m)) g.nodes n).pending
unfolding put taken
pend_taken n m g h = by_number (eqb n m) refl
  where
    by_number : (t : Bool) → eqb n m ≡ t → Went (g.nodes n).pending t (cond t (taken (g.nodes m)) (g.nodes n)).pending
    by_number true e = rw (eqb-true n m e) (went h)
    by_number false e = kept

module _ (n : ℕ) (a : Bool) (g : Gateway) (Q : Type 0) (k : ℕ) where
  pend_reader : (m : ℕ) (l : Local Reader) → FineL Q a (g.nodes m).pending k l → PendT n m none a g (lifted (set_reader m) m g l)
  unfolding lifted PendT FineL is_sweep
  pend_reader m (Local.refuse j) p = tt
  pend_reader m (Local.give r x) p = rw p.0 kept
  pend_reader m Local.acked p = rw p.0 (pend_taken n m g p.1)
  pend_reader m (Local.due x w) p = (refl, refl)

  pend_hub : (z : Sweep) (l : Local Desk) → FineL Q a (g.nodes hub).pending k l → Brooms z l → PendT n hub z a g (lifted from_desk hub g l)
  unfolding lifted PendT FineL Brooms from_desk
  pend_hub z (Local.refuse j) p e = tt
  pend_hub z (Local.give r d) p e = rw (p.0, swept_idle d.broom (g.nodes n) e.0) kept
  pend_hub z Local.acked p e = rw p.0 (pend_taken n hub g p.1)
  pend_hub z (Local.due d w) p e =
      (refl, swept_pending d.broom (g.nodes n) ∙ ap (λ (y : Sweep). cond (is_sweep y) [] (g.nodes n).pending) e.0)

pend_heeded : (b : Bench) (n : ℕ) (g : Gateway) (c : Call) {v : Whom} → Aim b c v
    → PendT n (node_for v) (broom_for b c v) (is_ack c) g (heeded b g c v)
unfolding heeded PendT node_for broom_for
pend_heeded b n g c (Aim.nowhere p q) = tt
pend_heeded b n g c (Aim.desk p q) =
    pend_hub n (is_ack c) g _ _ (broom_call b c) _ (fine_at_hub b (g.nodes hub) (g.reader hub) g.name c p)
    (brooms_at_hub b (g.nodes hub) g.name c)
pend_heeded b n g c (Aim.reader p) =
    pend_reader n (is_ack c) g _ _ (named c) _ (fine_at_reader b (g.nodes (named c)) (g.reader (named c)) c)

pend_tried : (b : Bench) (n : ℕ) (g : Gateway) (c : Call) → PendT n (node_for (whom b c)) (broom_for b c (whom b c)) (is_ack c) g (tried b g c)
unfolding tried PendT
pend_tried b n g c =
    cond_all (PendT n (node_for (whom b c)) (broom_for b c (whom b c)) (is_ack c) g) (eqb (judged b c) 0) _ _
    (pend_heeded b n g c (aim b c)) tt

-- ---- a list and its past
tells_went : (p : Past) {ws vs : List (List ℕ)} {t : Bool} → Tells p ws → Went ws t vs
    → Tells (record { made = p.made; gone = cond t (p.gone + 1) p.gone }) vs
tells_went p h kept = h
tells_went p {ws} h (went q) = record {
  pending = ap (drop 1) h.pending ∙ drop-drop 1 p.gone p.made;
  within = omega (arith, ap length h.pending, length-drop p.gone p.made, h.within);
}

tells_swept : (p : Past) (ws vs : List (List ℕ)) (z : Bool) → Tells p ws → vs ≡ cond z [] ws
    → Tells (record { made = p.made; gone = cond z (length p.made) p.gone }) vs
tells_swept p ws vs true h e = record { pending = e ∙ sym (drop-length p.made); within = le_refl _ }
tells_swept p ws vs false h e = record { pending = e ∙ h.pending; within = h.within }

tells_join : (p : Past) (vs : List (List ℕ)) (mine : Bool) (w : List ℕ) → Tells p vs
    → Tells (record { made = cond mine (p.made ++ (w ∷ [])) p.made; gone = p.gone }) (cond mine (vs ++ (w ∷ [])) vs)
tells_join p vs true w h = record {
  pending = ap (λ (l : List (List ℕ)). l ++ (w ∷ [])) h.pending ∙ sym (drop-append-le p.gone p.made (w ∷ []) h.within);
  within = omega (arith, length-append p.made (w ∷ []), h.within);
}
tells_join p vs false w h = h

-- ---- runs
pend_join : (n j : ℕ) (w : List ℕ) (h : Gateway)
    → (put j (joined w (h.nodes j)) h.nodes n).pending ≡ cond (eqb n j) ((h.nodes n).pending ++ (w ∷ [])) (h.nodes n).pending
unfolding put joined
pend_join n j w h = by_node (eqb n j) refl
  where
    by_node : (t : Bool) → eqb n j ≡ t
        → (cond t (joined w (h.nodes j)) (h.nodes n)).pending ≡ cond t ((h.nodes n).pending ++ (w ∷ [])) (h.nodes n).pending
    by_node true e = rw (eqb-true n j e)
    by_node false e = refl

tells_roomed : (n j : ℕ) (z : Sweep) (a : Bool) (w : List ℕ) (g h : Gateway) (p : Past) → Tells p (g.nodes n).pending
    → (h.nodes n).pending ≡ cond (is_sweep z) [] (g.nodes n).pending → (t : Bool)
    → Tells (past_after (roomed t g (join j w h)).said z a (eqb n j) w p) ((roomed t g (join j w h)).next.nodes n).pending
unfolding roomed past_after
tells_roomed n j z a w g h p e f true =
    rw (pend_join n j w h)
    (tells_join (record { made = p.made; gone = cond (is_sweep z) (length p.made) p.gone }) (h.nodes n).pending (eqb n j) w
    (tells_swept p (g.nodes n).pending (h.nodes n).pending (is_sweep z) e f))
tells_roomed n j z a w g h p e f false = e

tells_settled : (b : Bench) (n m : ℕ) (z : Sweep) (a : Bool) (g : Gateway) (p : Past) → Tells p (g.nodes n).pending
    → (t : Try) → PendT n m z a g t → Tells (past_after (settled b g t).said z a (eqb n m) (answer_due t) p)
    ((settled b g t).next.nodes n).pending
unfolding settled PendT past_after answer_due
tells_settled b n m z a g p e (Try.refuse k) q = e
tells_settled b n m z a g p e (Try.give r h) q = tells_went p e q
tells_settled b n m z a g p e (Try.due j h w) q = rw (← q.0) (tells_roomed n j z a w g h p e q.1 (fits b j (join j w h)))

tells_from : (b : Bench) (n : ℕ) (cs : List Call) (g : Gateway) (p : Past) → Tells p (g.nodes n).pending
    → Tells (past b n g cs p) ((run b g cs).nodes n).pending
unfolding run past step
tells_from b n [] g p e = e
tells_from b n (c ∷ cs) g p e =
    tells_from b n cs (step b g c).next _
    (tells_settled b n (node_for (whom b c)) (broom_for b c (whom b c)) (is_ack c) g p e (tried b g c) (pend_tried b n g c))

-- from a fresh state: node n's list is what was made there, in order, without as many of the oldest as went
pub history : (b : Bench) (n : ℕ) (memory : ℕ → List ℕ) (cs : List Call)
    → Tells (past b n (fresh memory) cs unmade) ((run b (fresh memory) cs).nodes n).pending
unfolding fresh
history b n memory cs = tells_from b n cs (fresh memory) unmade (record { pending = refl; within = le_refl _ })

-- and its held words are those of these answers
pub held_counted : (b : Bench) (n : ℕ) (memory : ℕ → List ℕ) (cs : List Call) → let p = past b n (fresh memory) cs unmade in
    held ((run b (fresh memory) cs).nodes n) ≡ added (drop p.gone p.made)
held_counted b n memory cs = ap added (history b n memory cs).pending
