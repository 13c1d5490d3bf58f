-- As in `put_words`, two digits a turn.
-- Assumes nothing.
use Rattle.units.proofs.Common.{sym, ◌∙◌, ap, ◌+◌, add-one, arith, drop, length-set, sets, set-get_or}
use Rattle.dialog.specs.Fields.{is_hex, pairs}
use Rattle.dialog.proofs.FieldLaws.{every_is}
use Rattle.units.proofs.PackingLaws.{sets_past}
use Rattle.dialog.proofs.HexLaws.{pairs_next, pairs_end}
use Rattle.hexwords.proofs.put_pairs.Goals as goal

pub returns-then-field-at : goal.returns-then-field-at
returns-then-field-at c =
    set-get_or _ _ _ ∙ sym (ap (sets _ c.loop-byte.byte-index) (pairs_end c.args.field.now c.loop-byte.at (omega arith))) ∙
    c.loop-byte.invariant.2

pub byte_of-requires : goal.byte_of-requires
byte_of-requires c =
    let d = every_is is_hex c.args.field.now 0 c.requires.1 in
    (d c.loop-byte.at (omega arith), d (c.loop-byte.at + 1) (omega arith))

pub loop-byte-preserved : goal.loop-byte-preserved
loop-byte-preserved c =
    let f = c.args.field.now in (
      omega arith,
      simp length-set c.loop-byte.invariant.1,
      rw (add-one c.loop-byte.byte-index, c.byte_of.ensures)
          (sym (ap (sets _ c.loop-byte.byte-index) (pairs_next f c.loop-byte.at (omega arith))) ∙ c.loop-byte.invariant.2),
    )

pub returns : goal.returns
returns c =
    sym (sets_past c.loop-byte.out c.loop-byte.byte-index (pairs (drop c.loop-byte.at c.args.field.now)) (omega arith)) ∙
    c.loop-byte.invariant.2
