-- Where no blank stands among them, the line ends with the bytes looked at, or the field has twelve.
-- Assumes nothing.
use Rattle.units.proofs.Common.{◌≡◌, arith, length, length-drop, rules}
use borrow.Author.Tests.{tests}
use Rattle.std.proofs.lemmas.Iterator.{IsFirst-from_position, YieldsList-from_slice}
use Rattle.numbers.proofs.Numbers.{end_in, end_with, end_behind}
use Rattle.numbers.proofs.near_end.Goals as goal

pub returns-in-Some-clause-end : goal.returns-in-Some-clause-end
returns-in-Some-clause-end c =
    let a = c.args in
    let p = IsFirst-from_position _ _ _ (λ x. x ≡ 32) (λ x. x ≡ 32 → ⊥) c.in-Some.ensures.ran
    (YieldsList-from_slice _ c.iter.ensures.rest)
    (λ x q k. search (rules, tests)) (λ x q k. search (rules, tests)) in
    end_in a.line.now a.at _ c.in-Some.n p.0 p.1 p.2

pub returns-in-None-clause-end : goal.returns-in-None-clause-end
returns-in-None-clause-end c =
    let a = c.args in
    let p = IsFirst-from_position _ _ _ (λ x. x ≡ 32) (λ x. x ≡ 32 → ⊥) c.in-None.ensures.ran
    (YieldsList-from_slice _ c.iter.ensures.rest)
    (λ x q k. search (rules, tests)) (λ x q k. search (rules, tests)) in
    let z : c.min-end.result ≡ length a.line.now = omega (arith, c.if-end-line.true) in
    rw z (end_with a.line.now a.at _ p c.requires (omega (arith, z, length-drop a.at a.line.now)))

pub returns-in-None-2-clause-longer : goal.returns-in-None-2-clause-longer
returns-in-None-2-clause-longer c =
    let a = c.args in
    let p = IsFirst-from_position _ _ _ (λ x. x ≡ 32) (λ x. x ≡ 32 → ⊥) c.in-None.ensures.ran
    (YieldsList-from_slice _ c.iter.ensures.rest)
    (λ x q k. search (rules, tests)) (λ x q k. search (rules, tests)) in
    omega (arith, end_behind a.line.now a.at _ p (omega (arith, c.min-end.ensures, c.requires)), c.min-end.ensures, c.if-end-line.false)
