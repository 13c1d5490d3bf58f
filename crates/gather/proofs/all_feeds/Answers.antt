-- A block more, and the rest.
-- Assumes nothing.
use Rattle.units.proofs.Common.{◌∙◌, ◌≡◌, [], ap, length, ◌+◌, ◌/◌, ◌*◌, take, get_or, rules, arith}
use Rattle.gather.proofs.Counts.{feeds_in, block_more, rest_on}
use Rattle.gather.proofs.Blocks.{block_at}
use Rattle.gather.proofs.all_feeds.Goals as goal

pub loop-block-preserved : goal.loop-block-preserved
loop-block-preserved c =
    let bs = c.args.bytes.now in
    let i = c.loop-block.block-index in
    let block = ap (λ l. feeds_in (get_or l i [])) c.as_chunks.ensures.front
    ∙ ap feeds_in (block_at (length bs / 128) i bs (omega arith)) in
    let n : (i + 1) * 128 ≡ i * 128 + 128 = omega arith in
    let more : c.loop-block.n + c.feeds.result ≡ feeds_in (take ((i + 1) * 128) bs) =
    rw n (omega (arith, c.feeds.ensures, block, block_more bs (i * 128) 128, c.loop-block.invariant)) in
    more

pub returns : goal.returns
returns c =
    let bs = c.args.bytes.now in
    let at = length bs / 128 * 128 in
    let counted : c.count.result ≡ feeds_in c.as_chunks.result.1.now = search rules in
    let rest = ap feeds_in c.as_chunks.ensures.back in
    let all : c.loop-block.block-index ≡ length bs / 128 = omega arith in
    let before : c.loop-block.n ≡ feeds_in (take at bs) = c.loop-block.invariant ∙ rw all in
    omega (arith, counted, rest, before, rest_on bs at)
