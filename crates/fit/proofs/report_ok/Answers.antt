-- A report that is kept has an ID of eight bytes; one that is not is blank.
use Rattle.units.proofs.Common.{sym, ◌∙◌, ◌≡◌, true, eqb, length, eq-eqb, rules, yes_cond, no_cond, yes_and, no_and}
use Rattle.machine.proofs.Terms.{report_ok}
use Rattle.fit.proofs.report_ok.Goals as goal

pub returns-then-x : goal.returns-then-x
unfolding report_ok
returns-then-x c =
    let eight : eqb (length c.args.x.id) 8 ≡ true = let n : length c.args.x.id ≡ 8 = search rules in eq-eqb _ _ n in
    sym (yes_and (eight) ∙ yes_cond _ c.if-x.true)

pub returns-then-not-all_zero : goal.returns-then-not-all_zero
unfolding report_ok
returns-then-not-all_zero c =
    let eight : eqb (length c.args.x.id) 8 ≡ true = let n : length c.args.x.id ≡ 8 = search rules in eq-eqb _ _ n in
    sym (yes_and (eight) ∙ no_cond _ c.if-x.false ∙ no_and _
    (sym c.all_zero.ensures ∙ c.if-not-all_zero.true))

pub returns : goal.returns
unfolding report_ok
returns c =
    let eight : eqb (length c.args.x.id) 8 ≡ true = let n : length c.args.x.id ≡ 8 = search rules in eq-eqb _ _ n in
    sym (yes_and (eight) ∙ no_cond _ c.if-x.false ∙ yes_and
    (sym c.all_zero.ensures ∙ c.if-not-all_zero.false))
