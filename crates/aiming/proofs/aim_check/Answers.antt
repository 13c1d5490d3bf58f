-- `aim_check` has the doubts of a field check in their order: 3, then 7 (laws of `Aimed`).
-- Assumes nothing.
use Rattle.units.proofs.Common.{◌∙◌}
use Rattle.meaning.proofs.Chain.{flag}
use Rattle.aiming.proofs.Aimed.{check_3, check_7, check_0}
use Rattle.aiming.proofs.aim_check.Goals as goal

pub returns-then-not-is_valid : goal.returns-then-not-is_valid
returns-then-not-is_valid c ws =
    let a = c.args in
    c.refused.ensures ∙ check_3 a.node a.stamp a.clock ws (flag c.is_valid.ensures c.if-not-is_valid.true)

pub returns-then-not-is_reader : goal.returns-then-not-is_reader
returns-then-not-is_reader c ws =
    let a = c.args in
    c.refused-then-not-is_reader.ensures
    ∙ check_7 a.node a.stamp a.clock ws (flag c.is_valid.ensures c.if-not-is_valid.false)
    (flag c.is_reader.ensures c.if-not-is_reader.true)

pub returns : goal.returns
returns c ws =
    let a = c.args in
    check_0 a.node a.stamp a.clock ws (flag c.is_valid.ensures c.if-not-is_valid.false)
    (flag c.is_reader.ensures c.if-not-is_reader.false)
