-- The digits so far and what is left are all digits just where the whole is.
-- Assumes nothing.
use Rattle.units.proofs.Common.{◌∙◌, true, ◌&&◌, rules}
use borrow.Author.Tests.{tests}
use Rattle.std.proofs.lemmas.Iterator.{YieldsList-from_slice}
use Rattle.std.proofs.lemmas.Iterator.Consumers.{fold_from_yields_List}
use Rattle.dialog.specs.Fields.{is_hex}
use Rattle.hexwords.proofs.Words.{fold_every}
use Rattle.hexwords.proofs.all_hex.Goals as goal

pub returns : goal.returns
returns c =
    let f = c.args.field.now in
    fold_from_yields_List _ (λ a x. a && is_hex x) true _ c.fold.ensures.ran (YieldsList-from_slice f c.iter.ensures.rest)
    (λ a x b q k. search (rules, tests)) ∙ fold_every is_hex true f
