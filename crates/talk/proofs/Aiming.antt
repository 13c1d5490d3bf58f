-- For a caller that reads a line, aims it and plays it: what whom it is for says of the line and of what stands in the buffers.
-- Assumes nothing.
use Rattle.units.proofs.Common.{sym, ◌∙◌, ◌≡◌, refl, ap, subst, true, false, Bool, cond, not, List, ℕ, ◌≤◌, arith, eqb, length, take}
use Rattle.units.proofs.Common.{length-take-le, not-false, eqb-true, eqb-false, is_stamp}
use Rattle.units.specs.declared.Form.{Form}
use Rattle.units.specs.declared.Words.{Words}
use Rattle.units.specs.declared.stamp.Stamp.{Stamp}
use Rattle.meaning.proofs.Terms.{◌when◌, full, hub, is_reader, is_node, Call, command, check, arrive, leave, judged}
use Rattle.meaning.specs.Call as M
use Rattle.meaning.proofs.Chain.{accepts, fine}
use Rattle.machine.proofs.Terms.{Machine, meaning, unfit}
use Rattle.promise.proofs.Parts.{parts}
use Rattle.promise.proofs.Promises.{does_refused}
use Rattle.promise.proofs.Steps.{step_refused}
use Rattle.plaques.proofs.Placing.{limits}
use Rattle.obey.proofs.Packets.{instead}
use Rattle.obey.proofs.Packets as P
use Rattle.text.specs.Text.{Put}
use Rattle.listingout.proofs.Rooms.{refused_short}
use Rattle.dialog.specs.Spoken.{call, spoken}
use Rattle.dialog.specs.Dialog.{said_line, reply_to}
use Rattle.dialogout.proofs.Rooms.{length_unreadable}
use Rattle.demands.specs.Sound.{full_sound}
use Rattle.lines.specs.declared.Heard.{Heard}
use Rattle.aiming.specs.declared.Aside.{Aside}
use Rattle.aiming.specs.declared.Want.{Want}
use Rattle.aiming.specs.declared.Order.{Order}
use Rattle.aiming.specs.declared.Ask.{Ask}
use Rattle.aiming.specs.declared.Whom.{Whom}
use Rattle.talk.specs.Talk.{Plays, Follows}
use Rattle.aiming.specs.Aim.{unless_refused, arrive_refusal, order_of, for_node, aimed}
use Rattle.talk.specs.Parts.{aside_line, Lies, asked, Orders, Asks, wanted}
use Rattle.talk.proofs.Numbers.{judged_most}
use Rattle.talk.proofs.Hearing.{Understood, Buffered}
use Rattle.talk.proofs.Talking.{played, plays_look, plays_call}

-- ---- what a line is, by whom it is for
pub record ForNobody (line : List ℕ) (a : Aside) : Type 0 where
  pub lies : Lies a full.store
  pub plays : {m : Machine} → unfit full m ≡ 0 → {old new : List ℕ} {to at : ℕ} → Put old to (aside_line a m.store) new at
      → Plays full m line old to new at m

pub record ForList (line : List ℕ) (n : ℕ) (w : Want) : Type 0 where
  pub is : is_node full n ≡ true
  pub says : spoken line ≡ call (wanted n w)

pub record ForReader (line : List ℕ) (n : ℕ) (a : Ask) (words id bytes : List ℕ) : Type 0 where
  pub is : is_reader full n ≡ true
  pub asks : Asks full n a words id bytes
  pub says : spoken line ≡ call (asked n a words id bytes)

pub record ForGateway (line : List ℕ) (o : Order) (words : List ℕ) : Type 0 where
  pub orders : Orders full words o
  pub own : o.what.node ≡ hub
  pub says : spoken line ≡ call (command o.stamp o.form (take o.words.0 words))

-- ---- a call's node, which it is not refused for
check_reader : (n : ℕ) (t : Stamp) (clock : ℕ) → judged full (check n t clock) ≡ 0 → is_reader full n ≡ true
unfolding judged M.asked
check_reader n t clock e =
    let p = accepts (3 when not (is_stamp t)) _ e in
    not-false _ (fine 7 (not (is_reader full n)) refl (accepts (7 when not (is_reader full n)) _ p.1).0)

leave_reader : (n : ℕ) → judged full (leave n) ≡ 0 → is_reader full n ≡ true
unfolding judged M.asked
leave_reader n e = not-false _ (fine 7 (not (is_reader full n)) refl e)

want_node : (n : ℕ) (w : Want) → judged full (wanted n w) ≡ 0 → is_node full n ≡ true
unfolding judged M.asked wanted
want_node n (Want.Collect f) e = not-false _ (fine 7 (not (is_node full n)) refl e)
want_node n (Want.Acknowledge h) e = not-false _ (fine 7 (not (is_node full n)) refl e)

-- an arrival is judged by how many bytes there are
arrive_judged : (n : ℕ) (id s : List ℕ) {i k : ℕ} → length id ≡ i → length s ≡ k → judged full (arrive n id s) ≡ arrive_refusal full n i k
unfolding judged M.asked arrive_refusal
arrive_judged n id s {i} {k} e f = ap (λ (i : ℕ). arrive_refusal full n i (length s)) e ∙ ap (arrive_refusal full n i) f

module _ (line words id bytes : List ℕ) where
  unfoldable Aimed : Whom → Type 0
  Aimed (Whom.Nobody a) = ForNobody line a
  Aimed (Whom.List n w) = ForList line n w
  Aimed (Whom.Reader n a) = ForReader line n a words id bytes
  Aimed (Whom.Gateway o) = ForGateway line o words

  -- a call that is refused by what it says, or goes on
  refuses : (c : Call) → spoken line ≡ call c → {k : ℕ} → judged full c ≡ k → (k ≡ 0 → ⊥) → ForNobody line (Aside.Refused k)
  unfolding Lies aside_line said_line
  refuses c e {k} j d = record {
    lies = tt;
    plays = λ {m} fit p. plays_call c e (instead (step_refused full (meaning full m) c k j d) (does_refused full m k)) p
        (omega (arith, p.next, j, judged_most c, refused_short k (omega (arith, j, judged_most c))));
  }

  unless : (c : Call) → spoken line ≡ call c → (k : ℕ) → judged full c ≡ k → (w : Whom) → (judged full c ≡ 0 → Aimed w)
      → Aimed (unless_refused k w)
  unfolding Aimed
  unless c e k j w goes = by_number (eqb k 0) refl
    where
      by_number : (t : Bool) → eqb k 0 ≡ t → Aimed (cond t w (Whom.Nobody (Aside.Refused k)))
      by_number true z = goes (j ∙ eqb-true k 0 z)
      by_number false z = refuses c e j (eqb-false k 0 z)

  -- a list's
  listed : (n : ℕ) (w : Want) → spoken line ≡ call (wanted n w) → Aimed (unless_refused (judged full (wanted n w)) (Whom.List n w))
  unfolding Aimed
  listed n w e = unless (wanted n w) e _ refl (Whom.List n w) (λ j. record { is = want_node n w j; says = e })

  -- a command's, for a reader or for the gateway itself
  ordered : (t : Stamp) (f : Form) (n : Words) → n.0 ≤ length words → spoken line ≡ call (command t f (take n.0 words))
      → judged full (command t f (take n.0 words)) ≡ 0 → Aimed (for_node full (order_of full t f n words))
  unfolding Aimed for_node order_of asked Asks
  ordered t f n l e j = by_node (eqb o.what.node hub) refl
    where
      o : Order
      o = order_of full t f n words

      orders : Orders full words o
      orders = record { long = l; fine = j; kind = refl; what = refl }

      by_node : (z : Bool) → eqb o.what.node hub ≡ z → Aimed (cond z (Whom.Gateway o) (Whom.Reader o.what.node (Ask.Command o)))
      by_node true z = record { orders = orders; own = eqb-true _ hub z; says = e }
      by_node false z = record {
        is = P.for_reader full t f (take n.0 words) j (eqb-false _ hub z);
        asks = (orders, refl);
        says = e;
      }

  by_case : (h : Heard) → Understood (spoken line) h words id bytes → Aimed (aimed full h words)
  unfolding Aimed aimed Lies aside_line asked Asks wanted Understood reply_to Follows
  by_case Heard.Passed e = record { lies = tt; plays = λ fit p. played e p refl (omega (arith, p.next)) }
  by_case Heard.Unreadable e = record { lies = tt; plays = λ fit p. played e p refl (omega (arith, p.next, length_unreadable)) }
  by_case (Heard.Store first count) (e, few, inside) = record {
    lies = (inside, few);
    plays = λ {m} fit p. plays_look full_sound fit first count e few (omega (arith, inside, (parts full m fit).store)) p;
  }
  by_case (Heard.Command t f n) (e, l) =
      unless (command t f (take n.0 words)) e _ refl (for_node full (order_of full t f n words)) (ordered t f n l e)
  by_case (Heard.Check n t clock) e =
      unless (check n t clock) e _ refl (Whom.Reader n (Ask.Check t clock))
      (λ j. record { is = check_reader n t clock j; asks = j; says = e })
  by_case (Heard.Arrive n i k) (e, l, g) =
      unless (arrive n (take i.0 id) (take k.0 bytes)) e _
      (arrive_judged n (take i.0 id) (take k.0 bytes) (length-take-le i.0 id l) (length-take-le k.0 bytes g))
      (Whom.Reader n (Ask.Arrive i k))
      (λ j. record { is = (limits n (take i.0 id) (take k.0 bytes) j).reader; asks = (l, g, j); says = e })
  by_case (Heard.Leave n) e =
      unless (leave n) e _ refl (Whom.Reader n Ask.Leave) (λ j. record { is = leave_reader n j; asks = j; says = e })
  by_case (Heard.Collect n f) e = listed n (Want.Collect f) e
  by_case (Heard.Acknowledge n k) e = listed n (Want.Acknowledge k) e

-- ---- for callers
module _ {line words id bytes : List ℕ} {h : Heard} (b : Buffered line h words id bytes) where
  module _ {whom : Whom} (aim : whom ≡ aimed full h words) where
    so : {w : Whom} → whom ≡ w → Aimed line words id bytes w
    so e = subst (Aimed line words id bytes) (sym aim ∙ e) (by_case line words id bytes h b.tells)

    pub for_nobody : {a : Aside} → whom ≡ Whom.Nobody a → ForNobody line a
    unfolding Aimed
    for_nobody e = so e

    pub for_list : {n : ℕ} {w : Want} → whom ≡ Whom.List n w → ForList line n w
    unfolding Aimed
    for_list e = so e

    pub for_reader : {n : ℕ} {a : Ask} → whom ≡ Whom.Reader n a → ForReader line n a words id bytes
    unfolding Aimed
    for_reader e = so e

    pub for_gateway : {o : Order} → whom ≡ Whom.Gateway o → ForGateway line o words
    unfolding Aimed
    for_gateway e = so e
