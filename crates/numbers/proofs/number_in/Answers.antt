-- One digit more is read.
-- Assumes nothing.
use Rattle.units.proofs.Common.{sym, ◌∙◌}
use Rattle.numbers.proofs.Numbers.{so_more}
use Rattle.numbers.proofs.number_in.Goals as goal

pub loop-c-preserved : goal.loop-c-preserved
loop-c-preserved c =
    rw c.from.ensures
    (so_more _ c.loop-c.invariant c.loop-c-test.true (sym c.is_ascii_digit.ensures.value ∙ c.if-not-is_ascii_digit.false))
