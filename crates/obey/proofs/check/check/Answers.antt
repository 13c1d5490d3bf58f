-- A wrong stamp, or no reader: refused; else what the reader's parts come to is the meaning's step (`Taking`).
use Rattle.units.proofs.Common.{sym, ◌∙◌}
use Rattle.meaning.proofs.Terms.{full, check}
use Rattle.machine.proofs.Terms.{machine}
use Rattle.promise.specs.Obeyed.{said_of}
use Rattle.promise.proofs.Commands.{checked_3, checked_7}
use Rattle.answers.specs.Ordered.{looking}
use Rattle.answers.proofs.Indices.{slot_out, slot_in}
use Rattle.answers.proofs.Replies.{stepped, called}
use Rattle.obey.proofs.Taking.{seats_here, checks_here}
use Rattle.obey.proofs.check.check.Goals as goal

pub returns-then-not-is_valid : goal.returns-then-not-is_valid
unfolding said_of
returns-then-not-is_valid c =
    called c.refused.ensures (stepped (check c.args.node c.args.t c.args.clock) c.requires
    (checked_3 full (machine c.args.s c.args.store.now c.args.plaques.now) c.requires c.args.node c.args.t c.args.clock
    (sym c.is_valid.ensures ∙ c.if-not-is_valid.true)))

-- 7
pub returns-then-i-ge-READERS : goal.returns-then-i-ge-READERS
unfolding said_of
returns-then-i-ge-READERS c =
    let a = c.args in
    called c.refused-then-i-ge-READERS.ensures (stepped (check a.node a.t a.clock) c.requires
    (checked_7 full (machine c.args.s c.args.store.now c.args.plaques.now) c.requires a.node a.t a.clock (sym c.is_valid.ensures ∙ c.if-not-is_valid.false)
    (slot_out a.node _ c.reader_slot-i.ensures c.if-i-ge-READERS.true)))

pub returns : goal.returns
returns c =
    let a = c.args in
    let p = slot_in a.node c.reader_slot-i.result c.reader_slot-i.ensures c.if-i-ge-READERS.false in
    checks_here (machine c.args.s c.args.store.now c.args.plaques.now) c.requires a.node _ p.0 p.1 a.t a.clock
    (sym c.is_valid.ensures ∙ c.if-not-is_valid.false)
    (seats_here (machine c.args.s c.args.store.now c.args.plaques.now) c.requires a.node _ p.0 p.1 (λ g. looking full g a.node a.t a.clock) c.looked-r.result
    c.looked-r.ensures c.seated.ensures)
