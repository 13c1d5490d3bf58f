-- No word from the place to w is marked.
-- Assumes nothing.
use Rattle.units.proofs.Common.{◌≡◌, refl, ⊎_elim, inl, inr, ◌≤◌, ◌<◌, arith}
use Rattle.std.proofs.lemmas.Bool.{cases_lt}
use Rattle.placed.proofs.fine.all_free.Goals as goal

pub loop-w-init : goal.loop-w-init
loop-w-init c = (omega arith, omega arith, λ v a b. absurd (omega arith))

pub returns-then-used-w : goal.returns-then-used-w
returns-then-used-w c = inr (refl, record { place = c.loop-w.w; from = omega arith; to = omega arith; marked = c.if-used-w.true })

pub loop-w-preserved : goal.loop-w-preserved
loop-w-preserved c =
    let w = c.loop-w.w in (
      omega arith,
      omega arith,
      λ v a b. ⊎_elim
          (λ (h : v < w). c.loop-w.invariant.2 v a h)
          (λ (h : w ≤ v). let e : v ≡ w = omega arith in rw e c.if-used-w.false)
          (cases_lt v w),
    )

pub returns : goal.returns
returns c = inl (refl, λ v a b. c.loop-w.invariant.2 v a (omega arith))
