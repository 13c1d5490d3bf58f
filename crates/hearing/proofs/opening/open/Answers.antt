-- A file that is too long or has no count stands for the line `broken`; any other stands for what `bring` makes of it.
use Rattle.units.proofs.Common.{sym, ◌∙◌, arith}
use Rattle.meaning.proofs.Terms.{full}
use Rattle.machine.proofs.Terms.{machine, meaning}
use Rattle.runfile.proofs.Records.{count_read, count_unread}
use Rattle.hearing.proofs.Standing.{too_long, no_plaques, begun, stands_as, stands_broken}
use Rattle.hearing.proofs.opening.open.Goals as goal

pub returns-then-file-gt-LONGEST_FILE : goal.returns-then-file-gt-LONGEST_FILE
returns-then-file-gt-LONGEST_FILE c =
    stands_broken (too_long full (meaning full (machine c.args.s c.args.store.now c.args.plaques.now)) c.args.file.now (omega arith)) c.requires _ c.broken.ensures

pub returns-in_default : goal.returns-in_default
returns-in_default c =
    let e = count_unread c.args.file.now (sym c.in_default.is ∙
    c.read_count.ensures) in
    stands_broken (no_plaques full (meaning full (machine c.args.s c.args.store.now c.args.plaques.now)) c.args.file.now (omega arith) e) c.requires _ c.broken-in_default.ensures

pub bring-requires : goal.bring-requires
bring-requires c =
    let read = count_read c.args.file.now (sym c.in-Some.is ∙ c.read_count.ensures) in
    record {
      in_bounds = (read.there, omega arith);
      plaques_value = c.requires;
    }

pub returns : goal.returns
returns c =
    let r = count_read c.args.file.now (sym c.in-Some.is ∙ c.read_count.ensures) in
    stands_as (begun full (meaning full (machine c.args.s c.args.store.now c.args.plaques.now)) c.args.file.now _ (omega arith) r.whole
    r.said) c.bring.ensures
