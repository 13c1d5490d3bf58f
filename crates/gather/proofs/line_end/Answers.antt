-- Past the bytes no line is left; before their end it is that of the two searches, one behind the other.
-- Assumes nothing.
use Rattle.units.proofs.Common.{◌≡◌, List, ℕ, Bool, ◌-◌, ◌+◌, ap, eqb, arith, length, drop, take, take_all, length-drop}
use Rattle.std.specs.List.{position_or_len}
use Rattle.gather.specs.Pieces.{line_in}
use Rattle.gather.proofs.Pieces.{at_end, line_place, line_within}
use Rattle.gather.proofs.line_end.Goals as goal
use Rattle.gather.proofs.line_end.Goals.{After-feed_byte}

tail : (bs : List ℕ) (at : ℕ) → take (length bs - at) (drop at bs) ≡ drop at bs
tail bs at = take_all (length bs - at) (drop at bs) (omega (arith, length-drop at bs))

abbrev feed : ℕ → Bool
feed x = eqb x 10

-- the bytes from a place on, as code lends them
abbrev lent : List ℕ → ℕ → List ℕ
lent bs at = take (length bs - at) (drop at bs)

both : (bs : List ℕ) (from at r : ℕ) → at + position_or_len feed (drop at (lent bs from)) ≡ position_or_len feed (lent bs from)
    → r ≡ position_or_len feed (lent (lent bs from) at) → at + r ≡ length (line_in (drop from bs))
both bs from at r s f =
    let rest = drop from bs in
    let skipped = rw (tail bs from) at s in
    let last = rw (tail bs from, tail rest at) at f in
    omega (arith, line_place rest)

pub returns-then-bytes-from : goal.returns-then-bytes-from
returns-then-bytes-from c = omega (arith, ap length (at_end c.args.bytes.now c.args.from (omega arith)))

found : (c : After-feed_byte) → c.feed_block-skipped.result + c.feed_byte.result ≡ length (line_in (drop c.args.from c.args.bytes.now))
found c =
    let s = c.feed_block-skipped in
    both c.args.bytes.now c.args.from s.result c.feed_byte.result s.ensures.skipped c.feed_byte.ensures

pub overflow_add-result-2 : goal.overflow_add-result-2
overflow_add-result-2 c =
    let f = found (goal.at.overflow_add-result-2 c).After-feed_byte in
    omega (arith, line_within c.args.bytes.now c.args.from (omega arith))

pub returns : goal.returns
returns c = omega (arith, found (goal.at.returns c).After-feed_byte)
