-- The words from the place on are zeros exactly if those from w on are.
-- Assumes nothing.
use Rattle.units.proofs.Common.{sym, ◌∙◌, arith, eqb, eq-eqb, ne_eqb, yes_and, no_and}
use Rattle.state.proofs.Lists.{every_at, every_end}
use Rattle.lists.proofs.line.all_zero.Goals as goal

pub returns-then-store-w-ne0 : goal.returns-then-store-w-ne0
returns-then-store-w-ne0 c =
    let s = c.args.store.now in
    let w = c.loop-w.w in
    sym (c.loop-w.invariant ∙ every_at (λ x. eqb x 0) s w 0 (omega arith) ∙ no_and _ (ne_eqb _ _ c.if-store-w-ne0.true))

pub loop-w-preserved : goal.loop-w-preserved
loop-w-preserved c =
    let s = c.args.store.now in
    let w = c.loop-w.w in
    c.loop-w.invariant ∙ every_at (λ x. eqb x 0) s w 0 (omega arith) ∙ yes_and (eq-eqb _ _ c.if-store-w-ne0.false)

pub returns : goal.returns
returns c =
    let s = c.args.store.now in
    sym (c.loop-w.invariant ∙ every_end (λ x. eqb x 0) s c.loop-w.w (omega arith))
