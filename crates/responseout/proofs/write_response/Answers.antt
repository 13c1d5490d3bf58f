-- The packet fits: the refusal has made sure of its length.
use Rattle.units.proofs.Common.{sym, ◌∙◌, arith}
use Rattle.meaning.proofs.ResponseLaws.{writable}
use Rattle.responseout.proofs.write_response.Goals as goal

pub put_words-requires : goal.put_words-requires
put_words-requires c =
    let ok = writable _ _ _ _ _ (sym c.respond_refusal-n.ensures ∙ c.if-n-ne0.false) in
    record {
      bytes_len_bound = ok.short;
      bytes_in_bounds = ok.fits;
    }

pub overflow_cast-bytes : goal.overflow_cast-bytes
overflow_cast-bytes c =
    let ok = writable _ _ _ _ _ (sym c.respond_refusal-n.ensures ∙ c.if-n-ne0.false) in
    let h = ok.short in
    omega arith
