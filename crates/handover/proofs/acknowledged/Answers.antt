-- `acknowledged` hands all back as it was where no answer waits or another number was handed out, else the list without its oldest answer
-- (laws of `Handing`).
-- Assumes nothing.
use Rattle.units.proofs.Common.{arith}
use Rattle.promise.specs.Obeyed.{said_of}
use Rattle.handover.proofs.Handing.{slot_takeable, acks_14, acks_15, acks_0}
use Rattle.handover.proofs.acknowledged.Goals as goal

pub returns-then-own-eq0 : goal.returns-then-own-eq0
unfolding said_of
returns-then-own-eq0 c n is at s memory a fit = acks_14 s _ memory fit n is at a _ c.if-own-eq0.true

pub returns-then-number-own : goal.returns-then-number-own
unfolding said_of
returns-then-number-own c n is at s memory a fit = acks_15 s _ memory fit n is at a _ (omega arith) c.if-number-own.true

pub take-rest-requires : goal.take-rest-requires
take-rest-requires c =
    slot_takeable c.requires.state _ c.requires.memory c.requires.fit c.requires.number c.requires.is c.requires.at c.requires.slot
    (omega arith)

pub returns : goal.returns
unfolding said_of
returns c n is at s memory a fit =
    acks_0 s _ memory fit n is at a _ (omega arith) c.if-number-own.false c.take-rest.ensures c.taken.ensures
