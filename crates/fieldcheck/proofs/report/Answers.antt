-- Past the plaque's end the report is refused; else the part that was said is due, and the plaque is reported (`Looking`).
use Rattle.decided.proofs.Serving.{in_region, not_past}
use Rattle.fieldcheck.proofs.Looking.{busy, look_past, look_due, look_sayable}
use Rattle.fieldcheck.proofs.report.Goals as goal

pub returns-then-past : goal.returns-then-past
returns-then-past c = look_past _ _ c.requires.0 (busy _ _ c.requires.1) c.past.ensures c.if-past.true c.refused.ensures

pub slice_bounds-say-end : goal.slice_bounds-say-end
slice_bounds-say-end c =
    in_region c.requires.0 (busy _ _ c.requires.1).here (not_past c.past.ensures c.if-past.false)

pub say-said-requires : goal.say-said-requires
say-said-requires c = look_sayable c.requires.0 (busy _ _ c.requires.1).on c.good.ensures _

pub returns : goal.returns
returns c =
    look_due _ _ c.requires.0 (busy _ _ c.requires.1) c.past.ensures c.if-past.false c.good.ensures c.say-said.ensures
    c.reported.ensures c.due.ensures
