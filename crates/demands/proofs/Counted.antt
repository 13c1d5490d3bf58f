-- A node's instance count is the number of its answers since the start or the last 61, modulo 256, counted from the calls.
-- Assumes nothing.
use Rattle.units.proofs.Common.{◌∙◌, ◌≡◌, refl, ap, subst, true, false, Bool, cond, ◌&&◌, false≢true, List, [], ◌∷◌, ℕ, ◌+◌, ◌%◌, arith}
use Rattle.units.proofs.Common.{eqb, leb, length, eqb-true}
use Rattle.units.specs.declared.Form.{Form}
use Rattle.units.specs.declared.stamp.Stamp.{Stamp}
use Rattle.meaning.proofs.Terms.{Bench, hub, word_no, response_body, shown, Node, Reader, Gateway, put, set_reader, join, joined, taken, Sweep}
use Rattle.meaning.proofs.Terms.{none, clearing, resetting, emptied, swept, fresh, fits, Call, command, check, arrive, leave, collect}
use Rattle.meaning.proofs.Terms.{acknowledge, Local, Try, Whom, nobody, gateway, one, Desk, idle, Outcome, judged, whom, kind_in, bytes_in}
use Rattle.meaning.proofs.Terms.{answer, collecting, acknowledging, ruled, governed, at_hub, lifted, from_desk, heeded, tried, roomed}
use Rattle.meaning.proofs.Terms.{settled, step, run}
use Rattle.meaning.specs.declared.table.OfGateway.{OfGateway}
use Rattle.meaning.specs.declared.table.OfGateway.TheVariants.{GetName, SetName, Initialise, ResetGateway, Clear}
use Rattle.meaning.specs.declared.table.Kind.{Kind}
use Rattle.meaning.specs.declared.table.Kind.TheVariants as K
use Rattle.demands.specs.Demand.{line, log}
use Rattle.demands.specs.Counts.{is_queued, node_for, broom_of, broom_kind, broom_call, broom_for, is_reset, is_sweep, counting, tally}
use Rattle.demands.proofs.Room.{put_all}
use Rattle.demands.proofs.Local.{cond_all}

emptied_count : (x : Node) (ws : List (List ℕ)) → (emptied x ws).count ≡ x.count
unfolding emptied
emptied_count x [] = refl
emptied_count x (w ∷ ws) = refl

swept_count : (s : Sweep) (x : Node) → (swept s x).count ≡ cond (is_reset s) 0 x.count
unfolding swept is_reset
swept_count none x = refl
swept_count clearing x = emptied_count x x.pending
swept_count resetting x = refl

-- the broom of a local outcome is the call's; and a 61 or 79 is given an answer of 6 words
unfoldable pub Brooms : Sweep → Local Desk → Type 0
Brooms z (Local.refuse k) = is_sweep z ≡ false
Brooms z (Local.give r d) = (d.broom ≡ none) × (is_sweep z ≡ false)
Brooms z Local.acked = is_sweep z ≡ false
Brooms z (Local.due d w) = (d.broom ≡ z) × (is_sweep z ≡ true → word_no 1 w ≡ 6)

brooms_ruled : (x : Node) (s : List ℕ) (t : Stamp) (k : OfGateway) (bs : List ℕ) → Brooms (broom_of k) (ruled x s t k bs)
unfolding ruled Brooms broom_of is_sweep answer response_body
brooms_ruled x s t GetName bs = (refl, λ e. absurd (false≢true e))
brooms_ruled x s t SetName bs = (refl, λ e. refl)
brooms_ruled x s t Initialise bs = (refl, λ e. refl)
brooms_ruled x s t ResetGateway bs = (refl, λ e. refl)
brooms_ruled x s t Clear bs = (refl, λ e. refl)

brooms_governed : (x : Node) (s : List ℕ) (t : Stamp) (k : Kind) (bs : List ℕ) → Brooms (broom_kind k) (governed x s t k bs)
unfolding governed Brooms broom_kind is_sweep
brooms_governed x s t (K.Gateway k) bs = brooms_ruled x s t k bs
brooms_governed x s t (K.Plaque k) bs = refl
brooms_governed x s t K.Continuous bs = refl
brooms_governed x s t K.ResetReader bs = refl
brooms_governed x s t K.Unknown bs = refl

brooms_collecting : (s : List ℕ) (f : Form) (m room h : ℕ) (ws : List (List ℕ)) → Brooms none (collecting (idle s) f m room h ws)
unfolding collecting Brooms is_sweep
brooms_collecting s f m room h [] = refl
brooms_collecting s f m room h (w ∷ ws) = cond_all (Brooms none) (leb (length (shown f m w)) room) _ _ (refl, refl) refl

brooms_acknowledging : (h k : ℕ) (ws : List (List ℕ)) → Brooms none (acknowledging h k ws)
unfolding acknowledging Brooms is_sweep
brooms_acknowledging h k [] = refl
brooms_acknowledging h k (w ∷ ws) = cond_all (Brooms none) (eqb k h) _ _ refl refl

pub brooms_at_hub : (b : Bench) (x : Node) (s : List ℕ) (c : Call) → Brooms (broom_call b c) (at_hub b x s c)
unfolding at_hub Brooms broom_call is_sweep
brooms_at_hub b x s (command t f ws) = brooms_governed x s t (kind_in b f ws) (bytes_in b f ws)
brooms_at_hub b x s (check m t clock) = refl
brooms_at_hub b x s (arrive m id bs) = refl
brooms_at_hub b x s (leave m) = refl
brooms_at_hub b x s (collect f m room) = brooms_collecting s f hub room x.handover x.pending
brooms_at_hub b x s (acknowledge m h) = brooms_acknowledging x.handover h x.pending

-- ---- the count at node n in a try: m is the node that the call is for, and z says whether it is a 61
CountT : ℕ → ℕ → Bool → Gateway → Try → Type 0
CountT n m z g (Try.refuse k) = Unit
CountT n m z g (Try.give r h) = (h.nodes n).count ≡ (g.nodes n).count
CountT n m z g (Try.due j h w) = (j ≡ m) × ((h.nodes n).count ≡ cond z 0 (g.nodes n).count)

count_taken : (n m : ℕ) (g : Gateway) → (put m (taken (g.nodes m)) g.nodes n).count ≡ (g.nodes n).count
unfolding taken
count_taken n m g = put_all (λ k x. x.count ≡ (g.nodes k).count) m (taken (g.nodes m)) g.nodes refl (λ k. refl) n

count_reader : (n m : ℕ) (g : Gateway) (l : Local Reader) → CountT n m false g (lifted (set_reader m) m g l)
unfolding lifted CountT
count_reader n m g (Local.refuse k) = tt
count_reader n m g (Local.give r a) = refl
count_reader n m g Local.acked = count_taken n m g
count_reader n m g (Local.due a w) = (refl, refl)

count_hub : (n : ℕ) (z : Sweep) (g : Gateway) (l : Local Desk) → Brooms z l → CountT n hub (is_reset z) g (lifted from_desk hub g l)
unfolding lifted CountT Brooms from_desk is_reset
count_hub n z g (Local.refuse k) e = tt
count_hub n z g (Local.give r d) e = swept_count d.broom (g.nodes n) ∙ ap (λ (y : Sweep). cond (is_reset y) 0 (g.nodes n).count) e.0
count_hub n z g Local.acked e = count_taken n hub g
count_hub n z g (Local.due d w) e = (refl, rw (← e.0) (swept_count d.broom (g.nodes n)))

count_heeded : (b : Bench) (n : ℕ) (g : Gateway) (c : Call) (v : Whom) → CountT n (node_for v) (is_reset (broom_for b c v)) g (heeded b g c v)
unfolding heeded CountT node_for broom_for is_reset
count_heeded b n g c nobody = tt
count_heeded b n g c gateway = count_hub n (broom_call b c) g _ (brooms_at_hub b (g.nodes hub) g.name c)
count_heeded b n g c (one m) = count_reader n m g _

count_tried : (b : Bench) (n : ℕ) (g : Gateway) (c : Call) → CountT n (node_for (whom b c)) (is_reset (broom_for b c (whom b c))) g
    (tried b g c)
unfolding tried CountT
count_tried b n g c =
    cond_all (CountT n (node_for (whom b c)) (is_reset (broom_for b c (whom b c))) g) (eqb (judged b c) 0) _ _
    (count_heeded b n g c (whom b c)) tt

-- ---- and in the outcome
Counts : ℕ → ℕ → Bool → Gateway → Outcome → Type 0
Counts n m z g o = (k : ℕ) → (g.nodes n).count ≡ k % 256
    → (o.next.nodes n).count ≡ (cond (is_queued o.said && z) 0 k + cond (is_queued o.said && eqb n m) 1 0) % 256

counts_joined : (n j : ℕ) (z : Bool) (w : List ℕ) (g h : Gateway) → (h.nodes n).count ≡ cond z 0 (g.nodes n).count
    → (k : ℕ) → (g.nodes n).count ≡ k % 256
    → (put j (joined w (h.nodes j)) h.nodes n).count ≡ (cond z 0 k + cond (eqb n j) 1 0) % 256
unfolding put joined
counts_joined n j z w g h e k f = by_number (eqb n j) refl z e
  where
    by_number : (t : Bool) → eqb n j ≡ t → (u : Bool) → (h.nodes n).count ≡ cond u 0 (g.nodes n).count
        → (cond t (joined w (h.nodes j)) (h.nodes n)).count ≡ (cond u 0 k + cond t 1 0) % 256
    by_number true p true q = rw (← eqb-true n j p, q)
    by_number true p false q = rw (← eqb-true n j p, q, f) (omega arith)
    by_number false p true q = q
    by_number false p false q = rw (q, f) (omega arith)

counts_roomed : (n j : ℕ) (z : Bool) (w : List ℕ) (g h : Gateway) → (h.nodes n).count ≡ cond z 0 (g.nodes n).count
    → (t : Bool) → Counts n j z g (roomed t g (join j w h))
unfolding Counts roomed is_queued
counts_roomed n j z w g h e true k f = counts_joined n j z w g h e k f
counts_roomed n j z w g h e false k f = omega arith

counts_settled : (b : Bench) (n m : ℕ) (z : Bool) (g : Gateway) (t : Try) → CountT n m z g t → Counts n m z g (settled b g t)
unfolding CountT Counts settled is_queued
counts_settled b n m z g (Try.refuse r) e k f = omega arith
counts_settled b n m z g (Try.give r h) e k f = omega arith
counts_settled b n m z g (Try.due j h w) e k f =
    subst (λ i. Counts n i z g (roomed (fits b j (join j w h)) g (join j w h))) e.0
    (counts_roomed n j z w g h e.1 (fits b j (join j w h))) k f

counts_step : (b : Bench) (n : ℕ) (g : Gateway) (c : Call) (k : ℕ) → (g.nodes n).count ≡ k % 256
    → ((step b g c).next.nodes n).count ≡ counting b n k c (step b g c).said % 256
unfolding step Counts
counts_step b n g c = counts_settled b n (node_for (whom b c)) (is_reset (broom_for b c (whom b c))) g (tried b g c) (count_tried b n g c)

counts_from : (b : Bench) (n i : ℕ) (cs : List Call) (g : Gateway) (k : ℕ) → (g.nodes n).count ≡ k % 256
    → ((run b g cs).nodes n).count ≡ tally b n k (log b i g cs) % 256
unfolding run log line tally
counts_from b n i [] g k e = e
counts_from b n i (c ∷ cs) g k e =
    counts_from b n i cs (step b g c).next (counting b n k c (step b g c).said) (counts_step b n g c k e)

pub counted : (b : Bench) (n i : ℕ) (memory : ℕ → List ℕ) (cs : List Call)
    → ((run b (fresh memory) cs).nodes n).count ≡ tally b n 0 (log b i (fresh memory) cs) % 256
unfolding fresh
counted b n i memory cs = counts_from b n i cs (fresh memory) 0 refl
