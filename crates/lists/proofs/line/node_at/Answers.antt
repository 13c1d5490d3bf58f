-- The code's test for an index of a reader is the definition's.
use Rattle.units.proofs.Common.{sym, le-ltb, lt-ltb, yes_cond, no_cond}
use Rattle.lists.proofs.line.node_at.Goals as goal

pub returns-then-i-lt-READERS : goal.returns-then-i-lt-READERS
returns-then-i-lt-READERS c = sym (yes_cond _ (lt-ltb _ _ c.if-i-lt-READERS.true))

pub returns : goal.returns
returns c = sym (no_cond _ (le-ltb _ _ c.if-i-lt-READERS.false))
