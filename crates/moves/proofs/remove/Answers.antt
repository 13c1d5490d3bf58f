-- Those behind stand moved down, and zeros over what they leave: word by word that is `removed`.
use Rattle.std.proofs.Common.{rules, arith}
use Rattle.std.proofs.lemmas.List.{same_lists, places}
use Rattle.moves.specs.Moved.{removed}
use Rattle.moves.proofs.remove.Goals as goal

pub returns : goal.returns
unfolding removed
returns c =
    rw (c.copy_within.ensures.after, c.fill.ensures.after (λ y h. h))
    (same_lists _ _ (search (rules, places)) (λ k d h. grind (arith, places)))
