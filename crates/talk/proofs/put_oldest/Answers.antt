-- `put_oldest` says that no answer waits, or writes the words that stand at the node's place (laws of `Collecting`).
-- Assumes nothing.
use Rattle.units.proofs.Common.{◌≡◌, List, ℕ, ◌≤◌, ◌-◌, ◌+◌, arith, length, drop, get_or, take, length-drop, length-take}
use Rattle.meaning.proofs.Terms.{full}
use Rattle.machine.proofs.Terms.{machine}
use Rattle.promise.proofs.Parts.{parts}
use Rattle.handover.proofs.Served.{Stands}
use Rattle.handover.proofs.Handing.{inside, first, lies}
use Rattle.talk.proofs.Collecting.{shows_none, shows_oldest}
use Rattle.talk.proofs.put_oldest.Goals as goal

-- how many words are lent
part : (place : ℕ) (l : List ℕ) → place + get_or l place 0 ≤ length l
    → length (take (place + get_or l place 0 - place) (drop place l)) ≡ get_or l place 0
part place l h = omega (arith, length-take (place + get_or l place 0 - place) (drop place l), length-drop place l)

pub returns-then-own-eq0 : goal.returns-then-own-eq0
returns-then-own-eq0 c is at s memory a fit =
    let b = c.args in
    shows_none s b.store.now memory fit b.node is at a b.form c.if-own-eq0.true c.put_refused.ensures

pub place_of-place-requires : goal.place_of-place-requires
place_of-place-requires c =
    let w = c.requires.0 in
    omega (arith, inside w.state c.args.store.now w.memory w.fit w.number w.is w.at w.slot (omega arith))

pub offset_bounds-store-place : goal.offset_bounds-store-place
offset_bounds-store-place c =
    -- the answer that waits on the machine that is known
    let stands : (let w = c.requires.0 in Stands (machine w.state c.args.store.now w.memory)
    c.place_of-place.result (first w.state c.args.store.now w.memory w.fit w.number w.is w.at w.slot (omega arith))) = let w = c.requires.0 in
    lies w.state c.args.store.now w.memory w.fit w.number w.is w.at w.slot (omega arith) _ c.place_of-place.ensures in
    let stored : length c.args.store.now ≡ full.store = let w = c.requires.0 in (parts full (machine w.state c.args.store.now w.memory) w.fit).store in
    record { fits = omega (arith, (stands).inside, stored) }

pub bounds-store-place : goal.bounds-store-place
bounds-store-place c =
    -- the answer that waits on the machine that is known
    let stands : (let w = c.requires.0 in Stands (machine w.state c.args.store.now w.memory)
    c.place_of-place.result (first w.state c.args.store.now w.memory w.fit w.number w.is w.at w.slot (omega arith))) = let w = c.requires.0 in
    lies w.state c.args.store.now w.memory w.fit w.number w.is w.at w.slot (omega arith) _ c.place_of-place.ensures in
    let h = stands in omega (arith, h.inside, h.least)

pub overflow_cast-end : goal.overflow_cast-end
overflow_cast-end c =
    -- the answer that waits on the machine that is known
    let stands : (let w = c.requires.0 in Stands (machine w.state c.args.store.now w.memory)
    c.place_of-place.result (first w.state c.args.store.now w.memory w.fit w.number w.is w.at w.slot (omega arith))) = let w = c.requires.0 in
    lies w.state c.args.store.now w.memory w.fit w.number w.is w.at w.slot (omega arith) _ c.place_of-place.ensures in
    let h = stands in omega (arith, h.says, h.most)

pub overflow_add-end : goal.overflow_add-end
overflow_add-end c =
    -- the answer that waits on the machine that is known
    let stands : (let w = c.requires.0 in Stands (machine w.state c.args.store.now w.memory)
    c.place_of-place.result (first w.state c.args.store.now w.memory w.fit w.number w.is w.at w.slot (omega arith))) = let w = c.requires.0 in
    lies w.state c.args.store.now w.memory w.fit w.number w.is w.at w.slot (omega arith) _ c.place_of-place.ensures in
    let stored : length c.args.store.now ≡ full.store = let w = c.requires.0 in (parts full (machine w.state c.args.store.now w.memory) w.fit).store in
    let h = stands in omega (arith, h.says, h.inside, stored)

pub offset_bounds-store-place-2 : goal.offset_bounds-store-place-2
offset_bounds-store-place-2 c =
    -- the answer that waits on the machine that is known
    let stands : (let w = c.requires.0 in Stands (machine w.state c.args.store.now w.memory)
    c.place_of-place.result (first w.state c.args.store.now w.memory w.fit w.number w.is w.at w.slot (omega arith))) = let w = c.requires.0 in
    lies w.state c.args.store.now w.memory w.fit w.number w.is w.at w.slot (omega arith) _ c.place_of-place.ensures in
    let stored : length c.args.store.now ≡ full.store = let w = c.requires.0 in (parts full (machine w.state c.args.store.now w.memory) w.fit).store in
    record { fits = omega (arith, (stands).inside, stored) }

pub slice_bounds-put_handed-end : goal.slice_bounds-put_handed-end
slice_bounds-put_handed-end c =
    -- the answer that waits on the machine that is known
    let stands : (let w = c.requires.0 in Stands (machine w.state c.args.store.now w.memory)
    c.place_of-place.result (first w.state c.args.store.now w.memory w.fit w.number w.is w.at w.slot (omega arith))) = let w = c.requires.0 in
    lies w.state c.args.store.now w.memory w.fit w.number w.is w.at w.slot (omega arith) _ c.place_of-place.ensures in
    let h = stands in omega (arith, h.says, h.inside)

pub put_handed-requires : goal.put_handed-requires
put_handed-requires c =
    -- the answer that waits on the machine that is known
    let stands : (let w = c.requires.0 in Stands (machine w.state c.args.store.now w.memory)
    c.place_of-place.result (first w.state c.args.store.now w.memory w.fit w.number w.is w.at w.slot (omega arith))) = let w = c.requires.0 in
    lies w.state c.args.store.now w.memory w.fit w.number w.is w.at w.slot (omega arith) _ c.place_of-place.ensures in
    let b = c.args in
    let h = stands in
    let n = part c.place_of-place.result b.store.now (omega (arith, h.says, h.inside)) in
    (c.requires.1, omega (arith, n, h.says, h.least), omega (arith, n, h.says, h.most))

pub returns : goal.returns
returns c is at s memory a fit =
    let b = c.args in
    shows_oldest s b.store.now memory fit b.node is at a b.form (omega arith) (omega arith) _ c.place_of-place.ensures
    c.put_handed.ensures
