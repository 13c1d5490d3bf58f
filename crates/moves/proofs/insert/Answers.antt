-- Those behind the place stand moved up, and the new words over what is left before them: word by word that is `inserted`.
use Rattle.std.proofs.Common.{◌∙◌, rules, arith}
use Rattle.std.proofs.lemmas.List.{same_lists, places}
use lib.Seq.{sets-eq}
use Rattle.moves.specs.Moved.{inserted}
use Rattle.moves.proofs.insert.Goals as goal

pub returns : goal.returns
unfolding inserted
returns c =
    let a = c.args in
    let w = c.copy_within.ensures in
    c.copy_in.ensures
    ∙ sets-eq a.new.now c.copy_within.new.self a.at (omega (arith, w.len))
    ∙ rw w.after (same_lists _ _ (search (rules, places)) (λ k d h. grind (arith, places)))
