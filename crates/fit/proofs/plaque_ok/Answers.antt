-- The test fails at the first part that is out of order, and else is the last part's.
use Rattle.units.proofs.Common.{sym, ◌∙◌, ◌≡◌, true, eqb, length, eq-eqb, ne_eqb, le-leb, lt-leb, rules, yes_cond, no_cond, yes_and, no_and}
use Rattle.machine.proofs.Terms.{plaque_ok}
use Rattle.fit.proofs.plaque_ok.Goals as goal

pub returns-then-p-lt1 : goal.returns-then-p-lt1
unfolding plaque_ok
returns-then-p-lt1 c =
    let eight : eqb (length c.args.p.id) 8 ≡ true = let n : length c.args.p.id ≡ 8 = search rules in eq-eqb _ _ n in
    sym (yes_and (eight) ∙ yes_cond _ c.if-p.true ∙ no_and _ (lt-leb _ _ c.if-p-lt1.true))

pub returns-then-p : goal.returns-then-p
unfolding plaque_ok
returns-then-p c =
    let eight : eqb (length c.args.p.id) 8 ≡ true = let n : length c.args.p.id ≡ 8 = search rules in eq-eqb _ _ n in
    sym (yes_and (eight) ∙ yes_cond _ c.if-p.true ∙ yes_and
    (le-leb 1 _ c.if-p-lt1.false))

pub returns-then-p-ne0 : goal.returns-then-p-ne0
unfolding plaque_ok
returns-then-p-ne0 c =
    let eight : eqb (length c.args.p.id) 8 ≡ true = let n : length c.args.p.id ≡ 8 = search rules in eq-eqb _ _ n in
    sym (yes_and (eight) ∙ no_cond _ c.if-p.false ∙ no_and _ (ne_eqb _ _ c.if-p-ne0.true))

pub returns : goal.returns
unfolding plaque_ok
returns c =
    let eight : eqb (length c.args.p.id) 8 ≡ true = let n : length c.args.p.id ≡ 8 = search rules in eq-eqb _ _ n in
    c.all_zero.ensures ∙ sym (yes_and (eight) ∙ no_cond _ c.if-p.false ∙ yes_and
    (eq-eqb _ _ c.if-p-ne0.false))
