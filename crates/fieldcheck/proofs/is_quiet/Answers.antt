-- Quiet for want of a plaque or of continuous reading, else where the report would repeat the last one (`Looking`).
use Rattle.units.proofs.Common.{◌∙◌, eq-eqb, ne_eqb, not-false, not-true}
use Rattle.fieldcheck.proofs.Looking.{quiet_absent, quiet_off, quiet_rest}
use Rattle.fieldcheck.proofs.is_quiet.Goals as goal
use Rattle.fieldcheck.proofs.is_quiet.Goals.{then-not-plaque-via-then-not-plaque, then-not-plaque-via-else-not-plaque+then-size-eq0}

pub returns-then-not-plaque : goal.returns-then-not-plaque
returns-then-not-plaque c = elim c.then-not-plaque.branch [
  | then-not-plaque-via-then-not-plaque w ↦ quiet_absent _ _ (not-true _ w.if-not-plaque.true)
  | then-not-plaque-via-else-not-plaque+then-size-eq0 w ↦ quiet_off _ _ (eq-eqb _ _ w.if-size-eq0.true)
]

pub returns : goal.returns
returns c =
    c.repeated.ensures ∙ quiet_rest _ _ (not-false _ c.if-not-plaque.false) (ne_eqb _ _ c.if-size-eq0.false)
