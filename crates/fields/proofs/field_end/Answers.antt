-- No blank stands before the first, and where there is none the line's end ends the field.
-- Assumes nothing.
use Rattle.units.proofs.Common.{◌∙◌, ◌≡◌, ℕ, ◌-◌, List, arith, length, drop, take, length-drop, take_all, rules}
use borrow.Author.Tests.{tests}
use Rattle.std.proofs.lemmas.Iterator.{IsFirst-from_position, YieldsList-from_slice}
use Rattle.fields.proofs.Places.{to_blank, to_line_end}
use Rattle.fields.proofs.field_end.Goals as goal

whole : (line : List ℕ) (at : ℕ) → take (length line - at) (drop at line) ≡ drop at line
whole line at = take_all (length line - at) (drop at line) (omega (arith, length-drop at line))

pub returns-in-Some : goal.returns-in-Some
returns-in-Some c =
    let a = c.args in
    let p = IsFirst-from_position _ _ _ (λ x. x ≡ 32) (λ x. x ≡ 32 → ⊥) c.in-Some.ensures.ran
    (YieldsList-from_slice (drop a.at a.line.now) (c.iter.ensures.rest ∙ whole a.line.now a.at))
    (λ x q k. search (rules, tests)) (λ x q k. search (rules, tests)) in
    to_blank a.line.now a.at c.in-Some.n p.0 p.1 p.2

pub returns-in-None : goal.returns-in-None
returns-in-None c =
    let a = c.args in
    let p = IsFirst-from_position _ _ _ (λ x. x ≡ 32) (λ x. x ≡ 32 → ⊥) c.in-None.ensures.ran
    (YieldsList-from_slice (drop a.at a.line.now) (c.iter.ensures.rest ∙ whole a.line.now a.at))
    (λ x q k. search (rules, tests)) (λ x q k. search (rules, tests)) in
    to_line_end a.line.now a.at c.requires p
