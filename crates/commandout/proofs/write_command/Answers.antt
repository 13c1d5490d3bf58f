-- The packet fits: the refusal has made sure of its length.
use Rattle.commandout.proofs.Writable.{writable}
use Rattle.units.proofs.Common.{sym, ◌∙◌, arith, rules}
use Rattle.commandout.proofs.write_command.Goals as goal

pub put_words-requires : goal.put_words-requires
put_words-requires c =
    let a = c.args in
    let w = writable _ a.form a.m _ _ (search rules) (sym c.write_refusal-n.ensures ∙ c.if-n-ne0.false) in
    record { bytes_in_bounds = w.0; bytes_len_bound = w.1 }

pub overflow_cast-bytes : goal.overflow_cast-bytes
overflow_cast-bytes c =
    let a = c.args in
    let w = (writable _ a.form a.m _ _ (search rules) (sym c.write_refusal-n.ensures ∙ c.if-n-ne0.false)).1 in
    omega arith
