-- The first place, or how many bytes there are.
-- Assumes nothing.
use Rattle.units.proofs.Common.{◌∙◌, ℕ, ap, eqb, length, rules}
use borrow.Author.Tests.{tests}
use Rattle.std.specs.Option.{unwrap_or}
use Rattle.std.proofs.lemmas.Iterator.{YieldsList-from_slice}
use Rattle.std.proofs.lemmas.Iterator.Search.{position_from_yields_List}
use Rattle.gather.proofs.Blocks.{place_or_length}
use Rattle.gather.proofs.feed_byte.Goals as goal

pub returns : goal.returns
returns c =
    let bs = c.args.bytes.now in
    let feed = λ (x : ℕ). eqb x 10 in
    let e = position_from_yields_List feed _ _ c.position.result c.position.ensures.ran (YieldsList-from_slice bs cc)
    (λ x b q k. search (rules, tests)) in
    c.unwrap_or.ensures ∙ ap (λ o. unwrap_or o (length bs)) e ∙ place_or_length feed bs
