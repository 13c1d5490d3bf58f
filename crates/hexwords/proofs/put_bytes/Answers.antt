-- The dash has no bytes; any other field has those of its pairs of digits, whose number is below a word's limit.
-- Assumes nothing.
use Rattle.units.proofs.Common.{sym, ◌∙◌, refl, ap, ◌≤◌, arith, length, rules}
use Rattle.dialog.proofs.HexLaws.{no_bytes, some_bytes, length_pairs, of_bytes}
use Rattle.hexwords.proofs.put_bytes.Goals as goal

pub returns-then-is_dash : goal.returns-then-is_dash
returns-then-is_dash c =
    let e = no_bytes c.args.field.now (sym c.is_dash.ensures ∙ c.if-is_dash.true) in
    record {
      result_value = sym (ap length e);
      out_after = sym (rw e refl);
    }

pub put_pairs-requires : goal.put_pairs-requires
put_pairs-requires c =
    let b = of_bytes c.args.most.0 c.args.field.now (sym c.is_dash.ensures ∙ c.if-is_dash.false) c.requires in
    (b.even, b.digits)

pub overflow_cast-result : goal.overflow_cast-result
overflow_cast-result c =
    let few : c.args.most.0 ≤ 65535 = search rules in
    let b = of_bytes c.args.most.0 c.args.field.now (sym c.is_dash.ensures ∙ c.if-is_dash.false) c.requires in
    omega arith

pub returns : goal.returns
returns c =
    let f = c.args.field.now in
    let e = some_bytes f (sym c.is_dash.ensures ∙ c.if-is_dash.false) in
    record {
      result_value = sym (ap length e ∙ length_pairs f);
      out_after = c.put_pairs.ensures ∙ sym (rw e refl);
    }
