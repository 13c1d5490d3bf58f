-- No room for the answer, or refused, or queued: each is the outcome that the definition settles (`Housing`).
use Rattle.units.proofs.Common.{not-false, not-true}
use Rattle.settle.proofs.Housing.{house_enlistable, houses_refused, houses_13, houses_queued}
use Rattle.settle.proofs.house.Goals as goal

pub enlist-e-requires : goal.enlist-e-requires
enlist-e-requires c = house_enlistable c.requires.0 c.requires.1 c.in-Due.is c.swept-ns.ensures

pub returns-then-not-e : goal.returns-then-not-e
returns-then-not-e c =
    houses_13 _ _ _ _ _ c.requires.1 c.in-Due.is c.swept-ns.ensures
    c.enlist-e.ensures (not-true _ c.if-not-e.true)

pub returns-in-Refused : goal.returns-in-Refused
returns-in-Refused c = houses_refused _ _ _ _ _ c.requires.1 c.in-Refused.is

pub returns-else-not-e : goal.returns-else-not-e
returns-else-not-e c =
    houses_queued _ _ _ _ _ c.requires.1 c.in-Due.is c.swept-ns.ensures
    c.enlist-e.ensures (not-false _ c.if-not-e.false)
