-- Off, both other parts are 0; on, all three are within their limits: the test fails at the first that is not.
use Rattle.units.proofs.Common.{sym, ◌∙◌, ◌≤◌, ◌+◌, ◌<◌, arith, eq-eqb, ne_eqb, le-leb, lt-leb, yes_cond, no_cond, yes_and, no_and}
use Rattle.meaning.proofs.Terms.{full}
use Rattle.machine.proofs.Terms.{reading_ok}
use Rattle.fit.proofs.reading_ok.Goals as goal

pub returns-then-x-ne0 : goal.returns-then-x-ne0
unfolding reading_ok
returns-then-x-ne0 c = sym (yes_cond _ (eq-eqb _ _ c.if-size-eq0.true) ∙ no_and _ (ne_eqb _ _ c.if-x-ne0.true))

pub returns-then-x-ne0-2 : goal.returns-then-x-ne0-2
unfolding reading_ok
returns-then-x-ne0-2 c =
    sym (yes_cond _ (eq-eqb _ _ c.if-size-eq0.true) ∙ yes_and (eq-eqb _ _ c.if-x-ne0.false) ∙ no_and _
    (ne_eqb _ _ c.if-x-ne0-2.true))

pub returns-then-size-eq0 : goal.returns-then-size-eq0
unfolding reading_ok
returns-then-size-eq0 c =
    sym (yes_cond _ (eq-eqb _ _ c.if-size-eq0.true) ∙ yes_and (eq-eqb _ _ c.if-x-ne0.false) ∙ yes_and
    (eq-eqb _ _ c.if-x-ne0-2.false))

pub returns-then-size : goal.returns-then-size
unfolding reading_ok
returns-then-size c = sym (no_cond _ (ne_eqb _ _ c.if-size-eq0.false) ∙ no_and _ (lt-leb _ _ c.if-size.true))

pub returns-then-size-x : goal.returns-then-size-x
unfolding reading_ok
returns-then-size-x c =
    let a = c.args in
    let x = a.x in
    let h : full.region < x.start + x.size.0 = omega arith in
    sym (no_cond _ (ne_eqb _ _ c.if-size-eq0.false) ∙ yes_and (le-leb _ _ c.if-size.false) ∙ no_and _ (lt-leb _ _ h))

pub returns : goal.returns
unfolding reading_ok
returns c =
    let a = c.args in
    let x = a.x in
    let h : x.start + x.size.0 ≤ full.region = omega arith in
    sym (no_cond _ (ne_eqb _ _ c.if-size-eq0.false) ∙ yes_and (le-leb _ _ c.if-size.false) ∙ yes_and (le-leb _ _ h))
