-- The blocks before the first that has a line feed are passed over.
-- Assumes nothing.
use Rattle.units.proofs.Common.{◌∙◌, ◌≡◌, ap, eqb, length, ◌/◌, ◌*◌, rules, arith}
use borrow.Author.Tests.{tests}
use Rattle.std.specs.List.{position, position_or_len, list_any}
use Rattle.std.specs.Option.{unwrap_or}
use Rattle.std.specs.Simd.{first_chunks}
use Rattle.std.proofs.lemmas.Iterator.{YieldsList-from_slice}
use Rattle.std.proofs.lemmas.Iterator.Search.{position_from_yields_List}
use Rattle.gather.proofs.Blocks.{place_or_length, passed_over}
use Rattle.gather.proofs.feed_block.Goals as goal

pub returns-clause-skipped : goal.returns-clause-skipped
returns-clause-skipped c =
    let bs = c.args.bytes.now in
    let blocks = c.as_chunks.result.0.now in
    let has = list_any (λ x. eqb x 10) in
    let e : c.position.result ≡ position has blocks =
    position_from_yields_List has _ _ c.position.result c.position.ensures.ran (YieldsList-from_slice blocks cc)
    (λ x b q k. search (rules, tests)) in
    let n : c.unwrap_or.result ≡ position_or_len has (first_chunks 16 (length bs / 16) bs) =
    c.unwrap_or.ensures ∙ ap (λ o. unwrap_or o (length blocks)) e ∙ place_or_length has blocks
    ∙ ap (position_or_len has) c.as_chunks.ensures.front in
    passed_over (λ x. eqb x 10) (length bs / 16) bs (16 * c.unwrap_or.result) (omega arith) (omega arith)
