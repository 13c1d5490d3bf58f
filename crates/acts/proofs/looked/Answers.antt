-- Quiet, or what was decided of the report, settled in the reader's parts: the definition's outcome of the check (`Acting`).
use Rattle.units.proofs.Common.{sym, ◌∙◌, rules}
use Rattle.settle.proofs.Seating.{memory_long, lent_inside}
use Rattle.acts.proofs.Acting.{readable, looks, looks_quiet}
use Rattle.acts.proofs.looked.Goals as goal

pub returns-then-is_quiet : goal.returns-then-is_quiet
returns-then-is_quiet c = looks_quiet c.requires.0 _ _ (sym c.is_quiet.ensures ∙ c.if-is_quiet.true)

pub slice_bounds-report-end : goal.slice_bounds-report-end
slice_bounds-report-end c = lent_inside _ c.requires.0.is c.args.plaques.now (memory_long c.requires.0)

pub report-d-requires : goal.report-d-requires
report-d-requires c = (readable c.requires.0 c.requires.1 (search rules), sym c.is_quiet.ensures ∙ c.if-is_quiet.false)

pub returns : goal.returns
returns c =
    looks c.requires.0 _ _ c.report-d.ensures
    c.seat.result c.seat.ensures
