-- One digit is the whole text; more are those of the tenth, then the last.
-- Assumes nothing.
use Rattle.units.proofs.Common.{sym, ap, arith, length, length-append}
use Rattle.text.proofs.Writing.{put_then, put_as, decimal_more}
use Rattle.text.proofs.+put_decimal.Goals as goal

pub put_decimal-last-requires : goal.put_decimal-last-requires
put_decimal-last-requires t c = (
  omega (arith, c.decreases),
  omega (arith, simp length-append at (ap length (decimal_more c.args.n (omega arith)))),
)

pub put-requires-2 : goal.put-requires-2
put-requires-2 t c =
    omega (arith, c.put_decimal-last.ensures.next, simp length-append at (ap length (decimal_more c.args.n (omega arith))))

pub returns : goal.returns
returns t c =
    put_as (sym (decimal_more c.args.n (omega arith))) (rw (← c.ten-2.ensures) (put_then c.put_decimal-last.ensures c.put-2.ensures))
