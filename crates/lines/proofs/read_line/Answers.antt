-- A line that is too long, empty or a comment says nothing for the buffers; any other is tried as a call.
-- Assumes nothing.
use Rattle.units.proofs.Common.{sym, ◌∙◌, ◌≡◌, ap, arith, eqb-true, eqb-false}
use Rattle.std.proofs.Common.{unwrap_or}
use Rattle.dialog.specs.Spoken.{passed, spoken}
use Rattle.dialog.proofs.SpokenLaws.{too_long, empty, comment}
use Rattle.lines.specs.declared.Heard.{Heard}
use Rattle.lines.specs.Heard.{heard_of, words_in, id_in, bytes_in}
use Rattle.lines.proofs.Whole.{tried_as, heard_or}
use Rattle.lines.proofs.read_line.Goals as goal
use Rattle.lines.proofs.read_line.Goals.{then-is_empty-via-then-is_empty, then-is_empty-via-else-is_empty+then-line-eq35}

pub returns-then-line-gt-LONGEST_LINE : goal.returns-then-line-gt-LONGEST_LINE
unfolding heard_of words_in id_in bytes_in
returns-then-line-gt-LONGEST_LINE c =
    let e = too_long c.args.line.now (omega arith) in record {
      value = rw e;
      words_after = rw e;
      id_after = rw e;
      bytes_after = rw e;
    }

pub returns-then-is_empty : goal.returns-then-is_empty
unfolding heard_of words_in id_in bytes_in
returns-then-is_empty c =
    let line = c.args.line.now in
    let e : spoken line ≡ passed = elim c.then-is_empty.branch [
      | then-is_empty-via-then-is_empty w ↦ empty line (eqb-true _ _ (sym c.is_empty.ensures ∙ w.if-is_empty.true))
      | then-is_empty-via-else-is_empty+then-line-eq35 w ↦ comment line (omega arith) (eqb-false _ _ (sym c.is_empty.ensures ∙ w.if-is_empty.false)) w.if-line-eq35.true
    ] in record {
      value = rw e;
      words_after = rw e;
      id_after = rw e;
      bytes_after = rw e;
    }

pub returns : goal.returns
returns c =
    let line = c.args.line.now in
    let r = c.read_call.ensures in
    let e = tried_as line (omega arith) (eqb-false _ _ (sym c.is_empty.ensures ∙ c.if-is_empty.false)) c.if-line-eq35.false in record {
      value = rw e (c.unwrap_or.ensures ∙ ap (λ o. unwrap_or o Heard.Unreadable) r.value ∙ heard_or _);
      words_after = rw e r.words_after;
      id_after = rw e r.id_after;
      bytes_after = rw e r.bytes_after;
    }
