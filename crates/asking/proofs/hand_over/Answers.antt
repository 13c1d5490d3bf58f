-- `asking::hand_over` meets its contract: the words that are written are the oldest answer's, since it stands at its node's place on every
-- machine that the parts are of; and the store and the counts are then those without it.
-- Assumes nothing.
use Rattle.units.proofs.Common.{◌∙◌, ◌≡◌, ap, List, ℕ, ◌-◌, ◌+◌, arith, length, drop, get_or, take}
use Rattle.meaning.proofs.Terms.{full}
use Rattle.machine.proofs.Terms.{Machine, machine}
use Rattle.text.specs.Text.{words_line}
use Rattle.text.proofs.Writing.{put_as}
use Rattle.promise.proofs.Parts.{parts}
use Rattle.handover.proofs.Served.{Stands}
use Rattle.handover.proofs.Handing.{first, lies, first_is, slot_takeable, slot_taken}
use Rattle.asking.proofs.hand_over.Goals as goal
use Rattle.asking.proofs.hand_over.Goals.{After-place_of-place}

-- the oldest answer stands at the place that was found, in a store of its whole size
stands_here : (c : After-place_of-place)
    → Stands (machine c.requires.0.state c.args.store.now c.requires.0.memory) c.place_of-place.result
    (let w = c.requires.0 in first w.state c.args.store.now w.memory w.fit w.number w.is w.at w.slot w.some)
stands_here c =
    let w = c.requires.0 in
    lies w.state c.args.store.now w.memory w.fit w.number w.is w.at w.slot w.some _ c.place_of-place.ensures

stored : (c : After-place_of-place) → length c.args.store.now ≡ full.store
stored c = (parts full (machine c.requires.0.state c.args.store.now c.requires.0.memory) c.requires.0.fit).store

-- the part of the store that is lent is the answer
lent : {m : Machine} {place : ℕ} {w : List ℕ} → Stands m place w
    → take (place + get_or m.store place 0 - place) (drop place m.store) ≡ w
lent {m} {place} h =
    let e : place + get_or m.store place 0 - place ≡ get_or m.store place 0 = omega arith in
    ap (λ (k : ℕ). take k (drop place m.store)) e ∙ h.words

pub offset_bounds-store-place : goal.offset_bounds-store-place
offset_bounds-store-place c =
    let h = stands_here c in record { fits = omega (arith, h.inside, stored c) }

pub bounds-store-place : goal.bounds-store-place
bounds-store-place c =
    let h = stands_here (goal.at.bounds-store-place c).After-place_of-place in omega (arith, h.inside, h.least)

pub offset_bounds-store-place-2 : goal.offset_bounds-store-place-2
offset_bounds-store-place-2 c =
    let h = stands_here (goal.at.offset_bounds-store-place-2 c).After-place_of-place in record { fits = omega (arith, h.inside, stored (goal.at.offset_bounds-store-place-2 c).After-place_of-place) }

pub slice_bounds-put_words-end : goal.slice_bounds-put_words-end
slice_bounds-put_words-end c =
    let h = stands_here (goal.at.slice_bounds-put_words-end c).After-place_of-place in omega (arith, h.says, h.inside)

pub put_words-at-requires : goal.put_words-at-requires
put_words-at-requires c =
    let h = stands_here (goal.at.put_words-at-requires c).After-place_of-place in
    omega (arith, h.most, ap length (lent h), c.requires.1)

pub take-less-requires : goal.take-less-requires
take-less-requires c =
    slot_takeable c.requires.0.state c.args.store.now c.requires.0.memory c.requires.0.fit c.requires.0.number c.requires.0.is
    c.requires.0.at c.requires.0.slot c.requires.0.some

pub returns : goal.returns
returns c n is at s memory a fit =
    let store = c.args.store.now in
    let some = c.requires.0.some in
    let l = lies s store memory fit n is at a some _ c.place_of-place.ensures in
    let f = first_is s store memory fit n is at a some in
    let w = slot_taken s store memory fit n is at a some c.take-less.ensures c.taken.ensures in
    record {
      oldest = first s store memory fit n is at a some;
      others = f.0;
      pending = f.1;
      few = l.most;
      line = put_as (ap words_line (lent l)) c.put_words-at.ensures;
      fit = w.fit;
      means = w.means;
    }
