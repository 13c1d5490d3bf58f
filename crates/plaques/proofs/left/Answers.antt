-- `left` hands all back as it was where there is no plaque, else the reader without it (laws of `Placing`).
-- Assumes nothing.
use Rattle.units.proofs.Common.{not-false, not-true}
use Rattle.plaques.proofs.Placing.{leaves_refused, leaves_done}
use Rattle.plaques.proofs.left.Goals as goal

pub returns-then-not-plaque : goal.returns-then-not-plaque
returns-then-not-plaque c n store memory is = leaves_refused n _ _ _ store memory is (not-true _ c.if-not-plaque.true)

pub returns : goal.returns
returns c n store memory is = leaves_done n _ _ _ store memory is (not-false _ c.if-not-plaque.false) c.left-y.ensures
