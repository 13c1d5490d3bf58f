-- No room for the answer, or refused, or queued: each is the outcome that the definition settles (`Seating`).
use Rattle.units.proofs.Common.{not-false, not-true}
use Rattle.settle.proofs.Seating.{seat_enlistable, seats_refused, seats_13, seats_queued}
use Rattle.settle.proofs.seat.Goals as goal

pub enlist-q-requires : goal.enlist-q-requires
enlist-q-requires c = seat_enlistable c.requires.0.1 c.requires.1 c.in-Due.is

pub returns-then-not-q : goal.returns-then-not-q
returns-then-not-q c = seats_13 _ _ _ _ _ _ c.requires.0.1.is c.requires.1 c.in-Due.is c.enlist-q.ensures (not-true _ c.if-not-q.true)

pub returns-in-Refused : goal.returns-in-Refused
returns-in-Refused c = seats_refused _ _ _ _ _ _ c.requires.0.1.is c.requires.1 c.in-Refused.is

pub returns-else-not-q : goal.returns-else-not-q
returns-else-not-q c =
    seats_queued _ _ _ _ _ _ c.requires.0.1.is c.requires.1 c.in-Due.is c.enlist-q.ensures
    (not-false _ c.if-not-q.false)
