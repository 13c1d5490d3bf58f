-- A write that goes past the plaque's end is refused; else its answer is due, and the bytes are written (`Serving`).
use Rattle.units.proofs.Common.{refl, lit≤}
use Rattle.meaning.proofs.Terms.{tagged}
use Rattle.decided.proofs.Serving.{sayable, past_refused, write_due}
use Rattle.orders.proofs.write.Goals as goal

pub returns-then-past : goal.returns-then-past
unfolding tagged
returns-then-past c = past_refused _ c.past.ensures _ refl c.requires c.if-past.true c.refused.ensures

pub say-said-requires : goal.say-said-requires
say-said-requires c = sayable c.requires.0.readable c.good.ensures 0 (lit≤ tt)

pub returns : goal.returns
unfolding tagged
returns c = write_due _ c.past.ensures c.requires c.if-past.false c.good.ensures c.say-said.ensures c.due.ensures
