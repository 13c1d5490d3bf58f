-- Room is judged over the swept words, as `room` reads off the calls before; what joins is `inserted` by the promise of `join`.
use Rattle.units.proofs.Common.{sym, ◌∙◌, ◌≡◌, true, arith, length, rules}
use Rattle.meaning.specs.Bench.{node_count}
use Rattle.meaning.proofs.Terms.{full}
use Rattle.machine.proofs.Terms.{counts}
use Rattle.state.proofs.Lists.{length_mapped}
use Rattle.lists.specs.Room.{room_for}
use Rattle.store.specs.Swept.{swept_words}
use Rattle.store.proofs.Enlisting.{swept_long, swept_bounded, place_inside, room_count, room_fits}
use Rattle.enlist.proofs.enlist.Goals as goal

pub has_room-requires : goal.has_room-requires
has_room-requires c =
    let a = c.args in
    (rw c.swept_words-hs.ensures (swept_bounded full a.broom a.held c.requires.bounds), c.requires.index)

pub sweep_store-requires : goal.sweep_store-requires
sweep_store-requires c = rw c.requires.size (place_inside full (counts c.args.held) (node_count full) c.requires.bounds)

pub join-requires : goal.join-requires
join-requires c =
    let a = c.args in
    let hs = swept_words a.broom a.held in
    let room : room_for full (counts hs) a.i (length a.answer.now) ≡ true = rw c.swept_words-hs.ensures at (sym c.has_room.ensures ∙ c.if-not-has_room.false) in
    let n : length a.held ≡ node_count full = search (rules, length_mapped) in
    let m : length hs ≡ node_count full = swept_long a.broom a.held ∙ n in
    let i = c.requires.index in
    let k = room_fits full hs a.i (length a.answer.now) room (node_count full) (omega arith) (omega arith) in
    let l = c.sweep_store.auto in
    (i, rw c.swept_words-hs.ensures (omega (arith, k, c.requires.size, l)))

pub overflow_add-hs : goal.overflow_add-hs
overflow_add-hs c =
    let a = c.args in
    let hs = swept_words a.broom a.held in
    let room : room_for full (counts hs) a.i (length a.answer.now) ≡ true = rw c.swept_words-hs.ensures at (sym c.has_room.ensures ∙ c.if-not-has_room.false) in
    let k = room_count full hs a.i (length a.answer.now) room in
    record { fits = rw c.swept_words-hs.ensures (omega (arith, k)) }
