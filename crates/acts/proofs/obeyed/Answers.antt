-- What was decided at the reader, settled in its parts and its region, is the definition's outcome of the command (`Acting`).
use Rattle.units.proofs.Common.{refl, rules}
use Rattle.settle.proofs.Seating.{memory_long, lent_inside, queued_back, still_back}
use Rattle.acts.proofs.Acting.{readable, suited, obeys}
use Rattle.acts.proofs.obeyed.Goals as goal

pub slice_bounds-serve-end : goal.slice_bounds-serve-end
slice_bounds-serve-end c = lent_inside _ c.requires.0.is c.args.plaques.now (memory_long c.requires.0)

pub serve-d-requires : goal.serve-d-requires
serve-d-requires c = record { readable = readable c.requires.0 c.requires.1 (search rules); ready = c.requires.2 }

-- queued
pub returns-in-Queued : goal.returns-in-Queued
returns-in-Queued c =
    let a = c.args in
    obeys c.requires.0 a.t a.kind a.m refl a.words.now c.serve-d.ensures c.seat-r.result c.seat-r.ensures
    (queued_back a.m.node c.requires.0.is a.plaques.now (memory_long c.requires.0) a.words.now c.in-Queued.is _ _
    (suited c.requires.0 a.words.now c.serve-d.result.change c.serve-d.ensures.suits) c.alter.ensures)

pub returns-in_default : goal.returns-in_default
returns-in_default c =
    obeys c.requires.0 _ _ _ refl _ c.serve-d.ensures c.seat-r.result c.seat-r.ensures
    (still_back _ c.requires.0.is _ (memory_long c.requires.0) _ _ _ c.in_default.not-Queued)
