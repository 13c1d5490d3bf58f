-- The words from the place to w are marked, and no other.
-- Assumes nothing.
use Rattle.units.proofs.Common.{◌≡◌, ◌-◌, ◌+◌, ◌<◌, arith, length}
use Rattle.placed.proofs.Marks.{marked_none, marked_more}
use Rattle.placed.proofs.fine.mark.Goals as goal

pub loop-w-init : goal.loop-w-init
loop-w-init c = (omega arith, omega arith, (let e : c.args.place - c.args.place ≡ 0 = omega arith in rw e (marked_none _ _)))

pub bounds-used-w : goal.bounds-used-w
bounds-used-w c = omega (arith, c.loop-w.invariant.2.long, c.requires.1)

pub loop-w-preserved : goal.loop-w-preserved
loop-w-preserved c =
    let a = c.args in
    let p = a.place in
    let w = c.loop-w.w in
    let k = c.loop-w.invariant.2 in
    let e : w + 1 - p ≡ w - p + 1 = omega arith in
    let f : w ≡ p + (w - p) = omega arith in
    let l : p + (w - p) < length c.loop-w.used = omega (arith, k.long, c.requires.1) in
    let t = marked_more a.used.now c.loop-w.used p (w - p) k l in
    (omega arith, omega arith, rw e (rw (← f) at t))

pub returns : goal.returns
returns c =
    let e : c.loop-w.w - c.args.place ≡ c.args.len = omega arith in
    rw e at c.loop-w.invariant.2
