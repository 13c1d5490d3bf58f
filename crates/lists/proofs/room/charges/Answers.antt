-- sum is the charges of the first i nodes.
-- Assumes nothing.
use Rattle.units.proofs.Common.{◌∙◌, ◌≡◌, ap, List, ℕ, ◌≤◌, ◌<◌, max, add-one, arith, length, get_or, take, length-map, take_all}
use Rattle.units.proofs.Common.{rules}
use Rattle.meaning.specs.Bench.{node_count}
use Rattle.units.specs.declared.Words.{Words}
use Rattle.meaning.proofs.Terms.{full}
use Rattle.machine.proofs.Terms.{counts, charges_of}
use Rattle.lists.proofs.Charges.{count_at, charges_more}
use Rattle.lists.proofs.room.charges.Goals as goal

pub loop-i-init : goal.loop-i-init
unfolding charges_of
loop-i-init c = search rules

pub overflow_add-sum : goal.overflow_add-sum
unfolding charges_of
overflow_add-sum c =
    -- what a turn adds
    let added : let h = get_or (counts c.args.hs) c.loop-i.i 0 in
    (c.charge-sum.result.0 ≡ max full.share h) × (h ≤ full.limit) = let e = count_at c.args.hs c.loop-i.i in
    (rw e c.charge-sum.ensures, c.requires _ c.loop-i-test.true) in
    let a = added in record { fits = omega arith }

pub loop-i-preserved : goal.loop-i-preserved
loop-i-preserved c =
    -- what a turn adds
    let added : let h = get_or (counts c.args.hs) c.loop-i.i 0 in
    (c.charge-sum.result.0 ≡ max full.share h) × (h ≤ full.limit) = let e = count_at c.args.hs c.loop-i.i in
    (rw e c.charge-sum.ensures, c.requires _ c.loop-i-test.true) in
    let hs : List Words = c.args.hs in
    let i = c.loop-i.i in
    let a = added in
    let n : length hs ≡ node_count full = search rules in
    let l : i < length (counts hs) = rw length-map (omega arith) in
    (omega arith, omega arith, rw add-one (omega (arith, charges_more full.share (counts hs) i l)))

pub returns : goal.returns
returns c =
    let hs : List Words = c.args.hs in
    let n : length hs ≡ node_count full = search rules in
    let e : c.loop-i.i ≡ node_count full = omega arith in
    c.loop-i.invariant.2 ∙ ap (λ (j : ℕ). charges_of full.share (take j (counts hs))) e
    ∙ ap (charges_of full.share) (take_all (node_count full) (counts hs) (rw length-map (omega arith)))
