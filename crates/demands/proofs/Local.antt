-- What its own node makes of a call: no refusal but 12, 14, 15 and 16, each by its own test of `Wrong`; only an acknowledgement takes
-- an answer away.
-- Assumes nothing.
use Rattle.units.proofs.Common.{◌≡◌, refl, true, false, Bool, cond, not, ◌&&◌, false≢true, List, [], ◌∷◌, ℕ, ◌≤◌, ◌+◌, arith, eqb, leb}
use Rattle.units.proofs.Common.{length, eqb-true, within}
use Rattle.units.specs.declared.Form.{Form}
use Rattle.units.specs.declared.stamp.Stamp.{Stamp}
use Rattle.meaning.proofs.Terms.{◌when◌, ◌or_else◌, refusal, named, Bench, hub, suits, shown, Node, Reader, Field, empty, plaque}
use Rattle.meaning.proofs.Terms.{Mode, off, on, Call, command, check, arrive, leave, collect, acknowledge, Local, collecting, acknowledging}
use Rattle.meaning.proofs.Terms.{ranged, tagged, obeyed, repeats, looked, left, kind_in, command_in, bytes_in, at_reader, ruled, governed}
use Rattle.meaning.proofs.Terms.{at_hub}
use Rattle.meaning.specs.declared.table.OnPlaque.{OnPlaque}
use Rattle.meaning.specs.declared.table.OnPlaque.TheVariants.{Fill, Read, Write, ReadId, Search}
use Rattle.meaning.specs.declared.table.OfGateway.{OfGateway}
use Rattle.meaning.specs.declared.table.OfGateway.TheVariants.{GetName, SetName, Initialise, ResetGateway, Clear}
use Rattle.meaning.specs.declared.table.Kind.{Kind}
use Rattle.meaning.specs.declared.table.Kind.TheVariants as K
use Rattle.meaning.specs.declared.packet.Command.{Command}
use Rattle.demands.specs.Counts.{is_ack}
use Rattle.demands.specs.Wrong.{ranges, ranging, passes, report_passes, past_plaque, none, away, nothing, other_number, longer, too_short}

pub cond_all {ℓ} : {A : Type ℓ} (Q : A → Type 0) (t : Bool) (x y : A) → Q x → Q y → Q (cond t x y)
cond_all Q true x y p q = p
cond_all Q false x y p q = q

-- a number of a refusal by a node's own state
unfoldable pub late : ℕ → Bool
late k = within 12 16 k && not (eqb k 13)

-- 12, 14, 15 and 16, each with its test: the numbers room aside
abbrev pub roomless : Bool → Bool → Bool → Bool → ℕ
roomless p q r s = refusal (12 when p or_else 14 when q or_else 15 when r or_else 16 when s)

-- where the call suits (Q), a refusal has such a number, and it is k, which is 0 for all else; and an answer of the node's list ws is taken
-- away exactly by an acknowledgement (a), which finds one there
unfoldable pub FineL : {A : Type 0} → Type 0 → Bool → List (List ℕ) → ℕ → Local A → Type 0
FineL Q a ws k (Local.refuse j) = Q → (late j ≡ true) × (j ≡ k)
FineL Q a ws k (Local.give r x) = (a ≡ false) × (Q → 0 ≡ k)
FineL Q a ws k Local.acked = (a ≡ true) × (1 ≤ length ws) × (Q → 0 ≡ k)
FineL Q a ws k (Local.due x w) = (a ≡ false) × (Q → 0 ≡ k)

module _ (Q : Type 0) where
  -- an outcome without a number or, by a test, a refusal; n is the number by the test
  fine_if : {A : Type 0} (a : Bool) (ws : List (List ℕ)) (t : Bool) (l : Local A) (j : ℕ) (n : Bool → ℕ) → late j ≡ true → j ≡ n true
      → FineL Q a ws (n false) l → FineL Q a ws (n (not t)) (cond t l (Local.refuse j))
  unfolding FineL
  fine_if a ws true l j n e f p = p
  fine_if a ws false l j n e f p = λ q. (e, f)

  fine_collecting : {A : Type 0} (a : A) (f : Form) (n room h : ℕ) (ws : List (List ℕ))
      → FineL Q false ws (roomless false (none ws) false (longer f n room ws)) (collecting a f n room h ws)
  unfolding collecting none longer FineL late refusal
  fine_collecting a f n room h [] = λ q. (refl, refl)
  fine_collecting a f n room h (w ∷ ws) =
      fine_if false (w ∷ ws) (leb (length (shown f n w)) room) _ 16 (λ u. roomless false false false u) refl refl (refl, λ q. refl)

  fine_acknowledging : (A : Type 0) (h k : ℕ) (ws : List (List ℕ))
      → FineL Q true ws (roomless false (none ws) (not (eqb k h)) false) (acknowledging {A = A} h k ws)
  unfolding acknowledging none FineL late refusal
  fine_acknowledging A h k [] = λ q. (refl, refl)
  fine_acknowledging A h k (w ∷ ws) =
      fine_if true (w ∷ ws) (eqb k h) Local.acked 15 (λ u. roomless false false u false) refl refl (refl, omega arith, λ q. refl)

  module _ (ws : List (List ℕ)) where
    -- by the range
    fine_within : (t : Bool) (l : Local Reader) → FineL Q false ws 0 l
        → FineL Q false ws (roomless (not t) false false false) (cond t l (Local.refuse 12))
    unfolding late refusal
    fine_within t l p = fine_if false ws t l 12 (λ u. roomless u false false false) refl refl p

    fine_tagged : (n : ℕ) (x : Node) (t : Stamp) (k : OnPlaque) (m : Command) (bs : List ℕ) (r : Reader) (p : Field)
        → FineL Q false ws (roomless (ranges k && passes (m.start + m.size) p) false false false) (tagged n x t k m bs r p)
    unfolding tagged ranged ranges passes FineL refusal
    fine_tagged n x t Fill m bs r empty = (refl, λ q. refl)
    fine_tagged n x t Read m bs r empty = (refl, λ q. refl)
    fine_tagged n x t Write m bs r empty = (refl, λ q. refl)
    fine_tagged n x t ReadId m bs r empty = (refl, λ q. refl)
    fine_tagged n x t Search m bs r empty = (refl, λ q. refl)
    fine_tagged n x t Fill m bs r (plaque id len) = fine_within (leb (m.start + m.size) len) _ (refl, λ q. refl)
    fine_tagged n x t Read m bs r (plaque id len) = fine_within (leb (m.start + m.size) len) _ (refl, λ q. refl)
    fine_tagged n x t Write m bs r (plaque id len) = fine_within (leb (m.start + m.size) len) _ (refl, λ q. refl)
    fine_tagged n x t ReadId m bs r (plaque id len) = (refl, λ q. refl)
    fine_tagged n x t Search m bs r (plaque id len) = (refl, λ q. refl)

    -- quiet, or by the range
    fine_unless : (u t : Bool) (a l : Local Reader) → FineL Q false ws 0 a → FineL Q false ws (roomless t false false false) l
        → FineL Q false ws (roomless (not u && t) false false false) (cond u a l)
    unfolding refusal
    fine_unless true t a l p q = p
    fine_unless false t a l p q = q

    fine_looked : (n : ℕ) (x : Node) (t : Stamp) (clock : ℕ) (r : Reader) (p : Field) (m : Mode)
        → FineL Q false ws (roomless (report_passes clock p m) false false false) (looked n x t clock r p m)
    unfolding looked report_passes FineL refusal
    fine_looked n x t clock r empty m = (refl, λ q. refl)
    fine_looked n x t clock r (plaque id len) off = (refl, λ q. refl)
    fine_looked n x t clock r (plaque id len) (on start size delay rep) =
        fine_unless (repeats id clock delay rep) (not (leb (start + size) len)) _ _ (refl, λ q. refl)
        (fine_within (leb (start + size) len) _ (refl, λ q. refl))

    fine_left : (r : Reader) (p : Field) → FineL Q false ws (roomless false (away p) false false) (left r p)
    unfolding left away FineL late refusal
    fine_left r empty = λ q. (refl, refl)
    fine_left r (plaque id len) = (refl, λ q. refl)

    fine_ruled : (x : Node) (s : List ℕ) (t : Stamp) (k : OfGateway) (bs : List ℕ) → FineL Q false ws 0 (ruled x s t k bs)
    unfolding ruled FineL
    fine_ruled x s t GetName bs = (refl, λ q. refl)
    fine_ruled x s t SetName bs = (refl, λ q. refl)
    fine_ruled x s t Initialise bs = (refl, λ q. refl)
    fine_ruled x s t ResetGateway bs = (refl, λ q. refl)
    fine_ruled x s t Clear bs = (refl, λ q. refl)

fine_obeyed : (ws : List (List ℕ)) (n : ℕ) (x : Node) (t : Stamp) (k : Kind) (m : Command) (bs : List ℕ) (r : Reader)
    → FineL ((suits k n ≡ true) × (n ≡ hub → ⊥)) false ws (roomless (ranging k && passes (m.start + m.size) r.field) false false false)
    (obeyed n x t k m bs r)
unfolding obeyed ranging FineL suits refusal
fine_obeyed ws n x t (K.Plaque k) m bs r = fine_tagged _ ws n x t k m bs r r.field
fine_obeyed ws n x t K.Continuous m bs r = (refl, λ q. refl)
fine_obeyed ws n x t K.ResetReader m bs r = (refl, λ q. refl)
fine_obeyed ws n x t (K.Gateway k) m bs r = λ q. absurd (q.1 (eqb-true n hub q.0))
fine_obeyed ws n x t K.Unknown m bs r = λ q. absurd (false≢true q.0)

fine_governed : (ws : List (List ℕ)) (x : Node) (s : List ℕ) (t : Stamp) (k : Kind) (bs : List ℕ) (end : ℕ) (p : Field)
    → FineL (suits k hub ≡ true) false ws (roomless (ranging k && passes end p) false false false) (governed x s t k bs)
unfolding governed ranging FineL suits refusal
fine_governed ws x s t (K.Gateway k) bs end p = fine_ruled _ ws x s t k bs
fine_governed ws x s t (K.Plaque k) bs end p = λ q. absurd (false≢true q)
fine_governed ws x s t K.Continuous bs end p = λ q. absurd (false≢true q)
fine_governed ws x s t K.ResetReader bs end p = λ q. absurd (false≢true q)
fine_governed ws x s t K.Unknown bs end p = λ q. absurd (false≢true q)

-- the call is one that reader n may have, or the gateway
unfoldable pub SuitsReader : Bench → ℕ → Call → Type 0
SuitsReader b n (command t f ws) = (suits (kind_in b f ws) n ≡ true) × (n ≡ hub → ⊥)
SuitsReader b n (check m t k) = Unit
SuitsReader b n (arrive m id s) = Unit
SuitsReader b n (leave m) = Unit
SuitsReader b n (collect f m k) = Unit
SuitsReader b n (acknowledge m h) = Unit

unfoldable pub SuitsHub : Bench → Call → Type 0
SuitsHub b (command t f ws) = suits (kind_in b f ws) hub ≡ true
SuitsHub b (check m t k) = ⊥
SuitsHub b (arrive m id s) = ⊥
SuitsHub b (leave m) = ⊥
SuitsHub b (collect f m k) = Unit
SuitsHub b (acknowledge m h) = Unit

-- the tests of a call at node x and reader r
abbrev pub roomless_of : Bench → Node → Reader → Call → ℕ
roomless_of b x r c = roomless (past_plaque b r c) (nothing x r c) (other_number x c) (too_short x c)

pub fine_at_reader : (b : Bench) (x : Node) (r : Reader) (c : Call)
    → FineL (SuitsReader b (named c) c) (is_ack c) x.pending (roomless_of b x r c) (at_reader b (named c) x r c)
unfolding at_reader named past_plaque nothing other_number too_short FineL is_ack SuitsReader refusal
fine_at_reader b x r (command t f ws) = fine_obeyed _ _ x t (kind_in b f ws) (command_in f ws) (bytes_in b f ws) r
fine_at_reader b x r (check n t clock) = fine_looked _ _ n x t clock r r.field r.mode
fine_at_reader b x r (arrive n id s) = (refl, λ q. refl)
fine_at_reader b x r (leave n) = fine_left _ _ r r.field
fine_at_reader b x r (collect f n room) = fine_collecting _ r f n room x.handover x.pending
fine_at_reader b x r (acknowledge n h) = fine_acknowledging _ _ x.handover h x.pending

pub fine_at_hub : (b : Bench) (x : Node) (r : Reader) (s : List ℕ) (c : Call) → named c ≡ hub
    → FineL (SuitsHub b c) (is_ack c) x.pending (roomless_of b x r c) (at_hub b x s c)
unfolding at_hub named past_plaque nothing other_number too_short FineL is_ack SuitsHub refusal
fine_at_hub b x r s (command t f ws) e = fine_governed _ x s t (kind_in b f ws) (bytes_in b f ws) _ r.field
fine_at_hub b x r s (check n t clock) e = λ q. absurd q
fine_at_hub b x r s (arrive n id bs) e = λ q. absurd q
fine_at_hub b x r s (leave n) e = λ q. absurd q
fine_at_hub b x r s (collect f n room) e = rw e (fine_collecting _ _ f hub room x.handover x.pending)
fine_at_hub b x r s (acknowledge n h) e = fine_acknowledging _ _ x.handover h x.pending
