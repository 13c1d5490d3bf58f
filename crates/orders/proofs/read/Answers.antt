-- A read that goes past the plaque's end is refused; else the part of the region is said, and its answer is due (`Serving`).
use Rattle.decided.proofs.Serving.{in_region, not_past, past_refused, read_sayable, read_due}
use Rattle.units.proofs.Common.{refl}
use Rattle.meaning.proofs.Terms.{tagged}
use Rattle.orders.proofs.read.Goals as goal

pub returns-then-past : goal.returns-then-past
unfolding tagged
returns-then-past c = past_refused _ c.past.ensures _ refl c.requires c.if-past.true c.refused.ensures

pub slice_bounds-say-end : goal.slice_bounds-say-end
slice_bounds-say-end c = in_region c.requires.0.readable c.requires.1 (not_past c.past.ensures c.if-past.false)

pub say-said-requires : goal.say-said-requires
say-said-requires c = read_sayable c.requires.0 c.good.ensures _

pub returns : goal.returns
unfolding tagged
returns c = read_due _ c.past.ensures c.requires c.if-past.false c.good.ensures c.say-said.ensures c.due.ensures
