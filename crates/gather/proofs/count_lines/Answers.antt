-- Without bytes there is no line; else the last byte says whether the line feeds are all.
-- Assumes nothing.
use Rattle.units.proofs.Common.{sym, ◌∙◌, ap, ◌-◌, arith, eqb, length}
use Rattle.std.proofs.lemmas.List.Sums.{count_by-le-length}
use Rattle.gather.proofs.Pieces.{lines_end}
use Rattle.gather.proofs.Counts.{lines_whole, lines_part}
use Rattle.gather.proofs.count_lines.Goals as goal

pub returns-then-end-eq0 : goal.returns-then-end-eq0
returns-then-end-eq0 c = sym (ap length (lines_end c.args.bytes.now 0 (omega arith)))

pub returns-then-bytes-end-eq10 : goal.returns-then-bytes-end-eq10
returns-then-bytes-end-eq10 c =
    let bs = c.args.bytes.now in
    c.all_feeds-n.ensures ∙ sym (lines_whole (length bs - 1) bs (omega arith) c.if-bytes-end-eq10.true)

pub overflow_add-result : goal.overflow_add-result
overflow_add-result c = omega (arith, count_by-le-length (λ c. eqb c 10) c.args.bytes.now)

pub returns : goal.returns
returns c =
    let bs = c.args.bytes.now in
    omega (arith, c.all_feeds-n.ensures, lines_part (length bs - 1) bs (omega arith) c.if-bytes-end-eq10.false)
