-- "The lowest number that applies is given, but a response being read is checked in the order 4, 5, 6, 7, 9, 3, 10, 11." `refusal` gives
-- the number of the first doubt that applies; the numbers of every other list never fall, so the first is the lowest.
-- Assumes nothing.
use Rattle.units.proofs.Common.{◌≡◌, refl, true, false, Bool, cond, List, [], ◌∷◌, ◌++◌, ℕ, ◌≤◌, le_refl, arith, eqb, leb, ne_eqb, le-leb}
use Rattle.units.proofs.Common.{leb-true, and_true}
use Rattle.units.specs.declared.Form.{Form}
use Rattle.meaning.proofs.Terms.{Doubts, ◌when◌, ◌or_else◌, refusal, Bench, row_of, frame_doubts, who_doubts, limit_doubts, unused_doubts}
use Rattle.meaning.proofs.Terms.{row_doubts, command_doubts, response_doubts, Call, command, check, arrive, leave, collect, acknowledge, asked}
use Rattle.meaning.proofs.Terms.{judged}
use Rattle.meaning.specs.Refusal.{◌at◌when◌}
use Rattle.meaning.specs.Command.{writer_doubts}
use Rattle.meaning.specs.Response.{origin_doubts, content_doubts, responder_doubts}
use Rattle.meaning.specs.declared.packet.Command.{Command}
use Rattle.meaning.specs.declared.packet.Response.{Response}
use Rattle.demands.specs.Order.{Doubt, doubts, numbers, rise, positive, once, First, none, this, next, Applies, here, later}

-- ---- every chain
positive_append : (ds es : List Doubt) → positive (numbers (ds ++ es)) ≡ true → (positive (numbers ds) ≡ true) ×
    (positive (numbers es) ≡ true)
unfolding positive numbers
positive_append [] es e = (refl, e)
positive_append (d ∷ ds) es e =
    let p = and_true (leb 1 d.number) _ e in
    let q = positive_append ds es p.1 in
    (rw (p.0, q.0), q.1)

first_append : {m n : ℕ} {ds es : List Doubt} → First m ds → First n es → positive (numbers ds) ≡ true → First (cond (eqb m 0) n m)
    (ds ++ es)
unfolding positive numbers
first_append none g e = g
first_append {es = es} (this m ds) g e =
    let le : 1 ≤ m = leb-true 1 m (and_true (leb 1 m) _ e).0 in
    rw (ne_eqb m 0 (λ q. omega arith)) (this m (ds ++ es))
first_append (next k {ds = ds} f) g e = next k (first_append f g (and_true (leb 1 k) (positive (numbers ds)) e).1)

first_one : (n : ℕ) (t : Bool) → First (cond t n 0) (record { number = n; applies = t } ∷ [])
first_one n true = this n []
first_one n false = next n none

pub refusal_first : (ds : Doubts) → positive (numbers (doubts ds)) ≡ true → First (refusal ds) (doubts ds)
unfolding refusal doubts
refusal_first (n when t) e = first_one n t
refusal_first (n at k when t) e = first_one n t
refusal_first (ds or_else es) e =
    let p = positive_append (doubts ds) (doubts es) e in
    first_append (refusal_first ds p.0) (refusal_first es p.1) p.0

first_applies : {n : ℕ} {ds : List Doubt} → First n ds → (n ≡ 0 → ⊥) → Applies n ds
first_applies none h = absurd (h refl)
first_applies (this n ds) h = here ds
first_applies (next m f) h = later _ (first_applies f h)

-- ---- chains whose numbers never fall
pub rise_positive : (k : ℕ) (ns : List ℕ) → 1 ≤ k → rise k ns ≡ true → positive ns ≡ true
unfolding rise positive
rise_positive k [] h e = refl
rise_positive k (n ∷ ns) h e =
    let p = and_true (leb k n) _ e in
    let le : 1 ≤ n = omega (arith, leb-true k n p.0) in
    rw (le-leb 1 n le, rise_positive n ns le p.1)

above : {n k : ℕ} {ds : List Doubt} → Applies n ds → rise k (numbers ds) ≡ true → k ≤ n
unfolding rise numbers
above {n} {k} (here ds) e = leb-true k n (and_true (leb k n) _ e).0
above {n} {k} (later d {ds = ds} a) e =
    let p = and_true (leb k d.number) (rise d.number (numbers ds)) e in
    omega (arith, leb-true k d.number p.0, above a p.1)

first_least : (k : ℕ) {n m : ℕ} {ds : List Doubt} → First n ds → rise k (numbers ds) ≡ true → Applies m ds → n ≤ m
unfolding rise numbers
first_least k {m = m} none e a = elim a [ ]
first_least k (this n ds) e a = above a (rw (le-leb n n (le_refl n)) (and_true (leb k n) (rise n (numbers ds)) e).1)
first_least k (next j {ds = ds} f) e (later d a) = first_least j f (and_true (leb k j) (rise j (numbers ds)) e).1 a

first_some : {n m : ℕ} {ds : List Doubt} → First n ds → positive (numbers ds) ≡ true → Applies m ds → 1 ≤ n
unfolding positive numbers
first_some {m = m} none e a = elim a [ ]
first_some (this n ds) e a = leb-true 1 n (and_true (leb 1 n) (positive (numbers ds)) e).0
first_some (next j {ds = ds} f) e (later d a) = first_some f (and_true (leb 1 j) (positive (numbers ds)) e).1 a

-- what is given applies ..
pub refusal_applies : (ds : Doubts) → positive (numbers (doubts ds)) ≡ true → (refusal ds ≡ 0 → ⊥) → Applies (refusal ds) (doubts ds)
refusal_applies ds e h = first_applies (refusal_first ds e) h

-- .. and if any applies, one is given, and no lower one applies
pub refusal_lowest : (ds : Doubts) → rise 1 (numbers (doubts ds)) ≡ true → (n : ℕ) → Applies n (doubts ds) → (1 ≤ refusal ds) ×
    (refusal ds ≤ n)
refusal_lowest ds e n a =
    let p = rise_positive 1 (numbers (doubts ds)) (le_refl 1) e in
    let f = refusal_first ds p in
    (first_some f p a, first_least 1 f e a)

-- ---- the chains of document 01. Their numbers are computed, whatever the tests beside them say
pub asked_rise : (b : Bench) (c : Call) → rise 1 (numbers (doubts (asked b c))) ≡ true
unfolding rise numbers doubts asked command_doubts frame_doubts row_doubts who_doubts limit_doubts unused_doubts
asked_rise b (command t f ws) = refl
asked_rise b (check n t k) = refl
asked_rise b (arrive n id s) = refl
asked_rise b (leave n) = refl
asked_rise b (collect f n k) = refl
asked_rise b (acknowledge n h) = refl

asked_positive : (b : Bench) (c : Call) → positive (numbers (doubts (asked b c))) ≡ true
asked_positive b c = rise_positive 1 _ (le_refl 1) (asked_rise b c)

pub judged_first : (b : Bench) (c : Call) → First (judged b c) (doubts (asked b c))
unfolding judged
judged_first b c = refusal_first (asked b c) (asked_positive b c)

pub judged_lowest : (b : Bench) (c : Call) (n : ℕ) → Applies n (doubts (asked b c)) → (1 ≤ judged b c) × (judged b c ≤ n)
unfolding judged
judged_lowest b c n a = refusal_lowest (asked b c) (asked_rise b c) n a

-- a command packet being read, and both writers
pub command_rise : (b : Bench) (f : Form) (ws : List ℕ) → rise 1 (numbers (doubts (command_doubts b f ws))) ≡ true
unfolding rise numbers doubts command_doubts frame_doubts row_doubts who_doubts limit_doubts unused_doubts
command_rise b f ws = refl

pub writer_rise : (b : Bench) (f : Form) (m : Command) (bytes room : ℕ)
    → rise 1 (numbers (doubts (writer_doubts b (row_of b m.command) f m bytes room))) ≡ true
unfolding rise numbers doubts writer_doubts who_doubts limit_doubts unused_doubts
writer_rise b f m bytes room = refl

pub responder_rise : (b : Bench) (f : Form) (r : Response) (bytes room : ℕ) → rise 1 (numbers (doubts (responder_doubts b f r bytes room))) ≡
    true
unfolding rise numbers doubts responder_doubts
responder_rise b f r bytes room = refl

-- a response being read: the paper's order; with `first_least`, the first of them that applies is given
pub response_order : (b : Bench) (f : Form) (ws : List ℕ)
    → once (numbers (doubts (response_doubts b f ws))) ≡ 4 ∷ 5 ∷ 6 ∷ 7 ∷ 9 ∷ 3 ∷ 10 ∷ 11 ∷ []
unfolding once numbers doubts response_doubts origin_doubts content_doubts
response_order b f ws = refl

pub response_first : (b : Bench) (f : Form) (ws : List ℕ) → First (refusal (response_doubts b f ws)) (doubts (response_doubts b f ws))
response_first b f ws =
    refusal_first (response_doubts b f ws) (unfold positive numbers doubts response_doubts origin_doubts content_doubts in refl)
