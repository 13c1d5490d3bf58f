-- The loop's invariant: the bytes from the start on are zeros exactly where those from here on are.
use Rattle.units.proofs.Common.{sym, ◌∙◌, arith, eqb, eq-eqb, ne_eqb, yes_and, no_and}
use Rattle.state.proofs.Lists.{every_at, every_end}
use Rattle.fit.proofs.all_zero.Goals as goal

pub returns-then-bytes-i-ne0 : goal.returns-then-bytes-i-ne0
returns-then-bytes-i-ne0 c =
    let a = c.args in
    let l = a.bytes.now in
    sym (c.loop-i.invariant ∙ every_at (λ x. eqb x 0) l c.loop-i.i 0 (omega arith) ∙ no_and _
    (ne_eqb _ _ c.if-bytes-i-ne0.true))

pub loop-i-preserved : goal.loop-i-preserved
loop-i-preserved c =
    let a = c.args in
    let l = a.bytes.now in
    c.loop-i.invariant ∙ every_at (λ x. eqb x 0) l c.loop-i.i 0 (omega arith) ∙ yes_and
    (eq-eqb _ _ c.if-bytes-i-ne0.false)

pub returns : goal.returns
returns c = sym (c.loop-i.invariant ∙ every_end (λ x. eqb x 0) c.args.bytes.now c.loop-i.i (omega arith))
