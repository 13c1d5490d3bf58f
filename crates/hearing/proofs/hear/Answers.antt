-- The record's bytes are packed into the words lent, and what `judge_command` says of them is handed on: law `hears`.
use Rattle.units.proofs.Common.{sym, arith}
use Rattle.hearing.proofs.Here.{command_there, packs, hears}
use Rattle.hearing.proofs.hear.Goals as goal

pub overflow_add-from : goal.overflow_add-from
overflow_add-from c =
    let h = command_there c.args.file.now c.args.at c.requires.0 in record { fits = omega (arith, h.inside) }

pub bytes-requires : goal.bytes-requires
bytes-requires c =
    let h = command_there c.args.file.now c.args.at c.requires.0 in omega (arith, h.facts.high)

pub overflow_add-end : goal.overflow_add-end
overflow_add-end c =
    let h = command_there c.args.file.now c.args.at c.requires.0 in record { fits = omega (arith, h.inside) }

pub slice_bounds-pack-end : goal.slice_bounds-pack-end
slice_bounds-pack-end c =
    let h = command_there c.args.file.now c.args.at c.requires.0 in omega (arith, h.inside)

pub stamp_at-stamp-requires : goal.stamp_at-stamp-requires
stamp_at-stamp-requires c =
    let h = command_there c.args.file.now c.args.at c.requires.0 in
    omega (arith, h.inside)

pub slice_bounds-judge_command-end : goal.slice_bounds-judge_command-end
slice_bounds-judge_command-end c =
    let h = command_there c.args.file.now c.args.at c.requires.0 in
    let p = packs c.args.file.now c.args.at c.args.words.now c.requires.0 c.bytes.ensures
    c.pack.ensures c.requires.1 in
    omega (arith, h.facts.high, p.long)

pub slice_bounds-judge_command-end-2 : goal.slice_bounds-judge_command-end-2
slice_bounds-judge_command-end-2 c =
    sym (packs c.args.file.now c.args.at c.args.words.now c.requires.0 c.bytes.ensures c.pack.ensures
    c.requires.1).count

pub returns : goal.returns
returns c =
    let a = c.args in
    let p = packs a.file.now a.at a.words.now c.requires.0 c.bytes.ensures c.pack.ensures c.requires.1 in
    hears a.file.now a.at p c.stamp_at-stamp.ensures c.judge_command-j.ensures
