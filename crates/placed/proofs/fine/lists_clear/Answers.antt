-- The lists are clear exactly if those from node i on are.
-- Assumes nothing.
use Rattle.units.proofs.Common.{sym, ◌∙◌, ◌≡◌, true, arith, length, get_or, eq-eqb, ne_eqb}
use Rattle.units.proofs.Common.{rules, yes_cond, no_cond, yes_and, no_and}
use Rattle.placed.specs.Consistent.{list_clear}
use Rattle.placed.proofs.InOrder.{blank}
use Rattle.state.proofs.Lists.{length_mapped, every_at, every_end}
use Rattle.placed.proofs.fine.lists_clear.Goals as goal
use Rattle.placed.proofs.fine.lists_clear.Goals.{else-list-eq0-via-then-list-eq0+else-list-ne0, else-list-eq0-via-else-list-eq0}

pub returns-then-list-ne0 : goal.returns-then-list-ne0
unfolding list_clear
returns-then-list-ne0 c =
    let nodes_each : length c.args.nodes ≡ 17 = search (rules, length_mapped) in
    let n = nodes_each in
    let l = c.loop-i in
    let e = yes_cond _ (eq-eqb _ _ c.if-list-eq0.true) ∙ ne_eqb _ _ c.if-list-ne0.true in
    sym (l.invariant.1 ∙ every_at list_clear c.args.nodes l.i _ (omega arith) ∙ no_and _ e)

pub loop-i-preserved : goal.loop-i-preserved
unfolding list_clear
loop-i-preserved c =
    let nodes_each : length c.args.nodes ≡ 17 = search (rules, length_mapped) in
    let n = nodes_each in
    let l = c.loop-i in
    let e : list_clear (get_or c.args.nodes l.i blank) ≡ true =
    elim c.else-list-eq0.branch [
      | else-list-eq0-via-then-list-eq0+else-list-ne0 w ↦ yes_cond _ (eq-eqb _ _ w.if-list-eq0.true) ∙ eq-eqb _ _ w.if-list-ne0.false
      | else-list-eq0-via-else-list-eq0 w ↦ no_cond _ (ne_eqb _ _ w.if-list-eq0.false)
    ] in
    (omega arith, l.invariant.1 ∙ every_at list_clear c.args.nodes l.i blank (omega arith) ∙ yes_and e)

pub returns : goal.returns
returns c =
    let nodes_each : length c.args.nodes ≡ 17 = search (rules, length_mapped) in
    let n = nodes_each in
    sym (c.loop-i.invariant.1 ∙ every_end list_clear _ c.loop-i.i (omega arith))
