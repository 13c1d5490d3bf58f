-- The record is whole, so the parts that the code lends are inside the file, and they are the definition's: law `arrives_at`.
use Rattle.units.proofs.Common.{arith}
use Rattle.hearing.proofs.Here.{plaque_there, arrives_at}
use Rattle.hearing.proofs.arrive_at.Goals as goal

pub overflow_add-id : goal.overflow_add-id
overflow_add-id c =
    let h = plaque_there c.args.file.now c.args.at c.requires.plaque_here in record { fits = omega (arith, h.inside) }

pub overflow_add-from : goal.overflow_add-from
overflow_add-from c =
    let h = plaque_there c.args.file.now c.args.at c.requires.plaque_here in record { fits = omega (arith, h.inside) }

pub overflow_add-end : goal.overflow_add-end
overflow_add-end c =
    let h = plaque_there c.args.file.now c.args.at c.requires.plaque_here in record { fits = omega (arith, h.inside) }

pub slice_bounds-arrive-end : goal.slice_bounds-arrive-end
slice_bounds-arrive-end c =
    let h = plaque_there c.args.file.now c.args.at c.requires.plaque_here in omega (arith, h.inside)

pub slice_bounds-arrive-end-2 : goal.slice_bounds-arrive-end-2
slice_bounds-arrive-end-2 c =
    let h = plaque_there c.args.file.now c.args.at c.requires.plaque_here in omega (arith, h.inside)

pub returns : goal.returns
returns c = arrives_at c.args.file.now c.args.at c.requires.plaque_here c.requires.plaques_value c.arrive-called.ensures
