-- The name is within its bytes, and zeros stand behind it.
use Rattle.units.proofs.Common.{sym, ◌∙◌, le-leb, lt-leb, yes_and, no_and}
use Rattle.machine.proofs.Terms.{name_ok}
use Rattle.fit.proofs.name_ok.Goals as goal

pub returns-then-length : goal.returns-then-length
unfolding name_ok
returns-then-length c = sym (no_and _ (lt-leb _ _ c.if-length.true))

pub returns : goal.returns
unfolding name_ok
returns c = c.all_zero.ensures ∙ sym (yes_and (le-leb _ _ c.if-length.false))
