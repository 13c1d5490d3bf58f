-- An answer collected at its list: that there is none is said, or its words and the handover number; the gateway stays as it is.
-- Assumes nothing.
use Rattle.units.proofs.Common.{sym, ◌∙◌, ◌≡◌, refl, ap, subst, true, false, Bool, List, ℕ, ◌≤◌, ◌-◌, ◌+◌, ◌<◌, ◌^◌, arith, length, drop}
use Rattle.units.proofs.Common.{get_or, take, set, le-leb}
use Rattle.units.specs.declared.Form.{Form}
use Rattle.units.specs.declared.Words.{Words}
use Rattle.meaning.proofs.Terms.{Bench, full, is_node, bears, shown, collect, acknowledge, handed, Said, refused, answered, Outcome, step}
use Rattle.machine.proofs.Terms.{Machine, machine, meaning, node_slot, counts, unfit}
use Rattle.state.specs.declared.node.Node.{Node}
use Rattle.state.specs.declared.State.{State}
use Rattle.machine.proofs.Read.{blank}
use Rattle.lists.specs.Room.{place_of}
use Rattle.store.specs.Changes.{with_lists}
use Rattle.promise.specs.Obeyed.{Does}
use Rattle.promise.proofs.Promises.{saying}
use Rattle.promise.proofs.Steps.{collect_14, collect_0, collect_keeps}
use Rattle.promise.proofs.Oldest.{oldest_first, handover_is, pending_none, shown_headed, shown_bare}
use Rattle.handover.specs.Handed.{Slot}
use Rattle.handover.proofs.Handing.{here, waits, first, lies, slot_back}
use Rattle.text.specs.Text.{Put}
use Rattle.text.proofs.Writing.{put_as}
use Rattle.listing.specs.Lines.{refused_line}
use Rattle.listingout.proofs.Rooms.{refused_short}
use Rattle.dialog.specs.Dialog.{collected_line, said_line, longest_answer}
use Rattle.dialogout.proofs.Rooms.{collected_short}
use Rattle.aiming.specs.declared.Want.{Want}
use Rattle.talk.specs.Parts.{wanted, Tells}

-- ---- the machine stays, as the meaning asks, and what is said was written
tells : (b : Bench) (m : Machine) → unfit b m ≡ 0 → (f : Form) (n : ℕ) (s : Said) {old new : List ℕ} {to r : ℕ}
    → step b (meaning b m) (collect f n 135) ≡ saying s (meaning b m) → Put old to (said_line s) new r → length (said_line s) ≤ longest_answer
    → Tells b (collect f n 135) m old to new r m
tells b m fits f n s e p l = record {
  does = record {
    says = refl;
    refusal = λ _. refl;
    sound = λ _. fits;
    means = λ _. sym (collect_keeps b (meaning b m) f n 135);
  };
  wrote = put_as (sym (ap (λ (o : Outcome). said_line o.said) e)) p;
  room = omega (arith, p.next, l);
}

-- an answer has at most 135 words, word 00 counted
pub shown_few : (f : Form) (n : ℕ) (w : List ℕ) → length w ≤ 134 → length (shown f n w) ≤ 135
shown_few f n w h = by_form (bears f n) refl
  where
    by_form : (t : Bool) → bears f n ≡ t → length (shown f n w) ≤ 135
    by_form true e = omega (arith, ap length (shown_headed f n w e), h)
    by_form false e = omega (arith, ap length (shown_bare f n w e), h)

module _ {i : ℕ} {own : Node} {held : List Words} (s : State) (store memory : List ℕ) (fit : unfit full (machine s store memory) ≡ 0)
    (n : ℕ) (is : is_node full n ≡ true) (at : node_slot full n ≡ i) (a : Slot i own held s) (f : Form) where
  abbrev m : Machine
  m = machine s store memory

  module _ {old new : List ℕ} {to r : ℕ} where
    pub shows_none : own.answers ≡ 0 → Put old to (refused_line 14) new r → Tells full (collect f n 135) m old to new r m
    unfolding said_line
    shows_none e p =
        tells full m fit f n (refused 14)
        (collect_14 full (meaning full m) f n 135 is (pending_none full m fit n i is at own a.node e)) p
        (omega (arith, refused_short 14 (omega arith)))

    -- the words stand at the node's place, as the code lends them
    pub shows_oldest : 0 < own.answers → own.handover < 10 ^ 5 → (place : ℕ) → place ≡ place_of (counts held) i
        → Put old to (collected_line own.handover (shown f n (take (place + get_or store place 0 - place) (drop place store)))) new r
        → Tells full (collect f n 135) m old to new r m
    unfolding said_line
    shows_oldest some short place e p =
        let h = here s store memory fit n is at a some in
        let o = oldest_first full m fit n i h.is h.slot (get_or s.nodes i blank) h.at (waits s store memory fit n is at a some) in
        let w : List ℕ = first s store memory fit n is at a some in
        let l = lies s store memory fit n is at a some place e in
        let few : length (shown f n w) ≤ 135 = shown_few f n w (omega (arith, l.most)) in
        let k : place + get_or store place 0 - place ≡ get_or store place 0 = omega arith in
        let v : take (place + get_or store place 0 - place) (drop place store) ≡ w = ap (λ (j : ℕ). take j (drop place store)) k ∙ l.words in
        tells full m fit f n (answered (handed (shown f n w) own.handover))
        (collect_0 full (meaning full m) f n 135 is w o.0 o.1 (le-leb _ _ few)
        ∙ ap (λ (u : ℕ). saying (answered (handed (shown f n w) u)) (meaning full m)) (handover_is full m fit n i is at own a.node))
        (put_as (ap (λ (ws : List ℕ). collected_line own.handover (shown f n ws)) v) p)
        (collected_short own.handover (shown f n w) short few)

-- ---- as `at_list` hands the parts back
module _ {i : ℕ} {own : Node} {held : List Words} (s : State) (store memory : List ℕ) (n : ℕ) (a : Slot i own held s) where
  abbrev lent : Machine
  lent = machine s store memory

  abbrev back : Machine
  back = machine (with_lists s (set s.nodes i own) held) store memory

  module _ {w : Want} {old new : List ℕ} {to r : ℕ} where
    pub listed_kept : {f : Form} → w ≡ Want.Collect f → Tells full (collect f n 135) lent old to new r lent
        → Tells full (wanted n w) lent old to new r back
    unfolding wanted
    listed_kept {f} e t =
        subst (λ (w : Want). Tells full (wanted n w) lent old to new r back) (sym e)
        (subst (λ (u : State). Tells full (collect f n 135) lent old to new r (machine u store memory)) (sym (slot_back s a)) t)

    pub listed_said : {h : ℕ} {said : Said} {m' : Machine} → w ≡ Want.Acknowledge h
        → Does full (step full (meaning full lent) (acknowledge n h)) lent said m' → Put old to (said_line said) new r
        → r ≤ to + longest_answer → Tells full (wanted n w) lent old to new r m'
    unfolding wanted
    listed_said {h} {said} {m'} e d p l =
        subst (λ (w : Want). Tells full (wanted n w) lent old to new r m') (sym e) (record {
          does = subst (λ (z : Said). Does full (step full (meaning full lent) (acknowledge n h)) lent z m') d.says d;
          wrote = put_as (ap said_line d.says) p;
          room = l;
        })
