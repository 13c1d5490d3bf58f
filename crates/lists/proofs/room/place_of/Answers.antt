-- sum is the words of the first k nodes.
-- Assumes nothing.
use Rattle.units.proofs.Common.{◌∙◌, ◌≡◌, ap, List, ◌<◌, arith, length, length-map, rules}
use Rattle.meaning.specs.Bench.{node_count, full}
use Rattle.units.specs.declared.Words.{Words}
use Rattle.machine.proofs.Terms.{counts}
use Rattle.lists.specs.Room.{sum, place_of}
use Rattle.lists.proofs.Charges.{count_at}
use Rattle.lists.proofs.Places.{place_suc}
use Rattle.lists.proofs.room.place_of.Goals as goal

pub loop-k-init : goal.loop-k-init
unfolding sum
loop-k-init c = search rules

pub loop-k-preserved : goal.loop-k-preserved
loop-k-preserved c =
    let hs : List Words = c.args.held in
    let k = c.loop-k.k in
    let n : length hs ≡ node_count full = search rules in
    let l : k < length (counts hs) = rw length-map (omega arith) in
    (omega arith, omega arith, omega (arith, place_suc (counts hs) k l, count_at hs k))

pub returns : goal.returns
returns c =
    let e : c.loop-k.k ≡ c.args.i = omega arith in
    c.loop-k.invariant.2 ∙ ap (place_of (counts c.args.held)) e
