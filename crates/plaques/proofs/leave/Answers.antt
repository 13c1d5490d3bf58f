-- No reader, or no plaque there: refused; else the reader is stored without its plaque.
use Rattle.units.proofs.Common.{not-false, not-true}
use Rattle.meaning.proofs.Terms.{full, leave}
use Rattle.promise.specs.Obeyed.{said_of}
use Rattle.promise.proofs.Plaques.{left_7, left_14, left_0}
use Rattle.answers.proofs.Indices.{slot_out, slot_in, reader_there}
use Rattle.answers.proofs.Replies.{stepped, stored, called}
use Rattle.plaques.proofs.leave.Goals as goal

pub returns-then-i-ge-READERS : goal.returns-then-i-ge-READERS
unfolding said_of
returns-then-i-ge-READERS c =
    called c.refused.ensures (stepped (leave c.args.node) c.requires
    (left_7 full _ _ c.requires (slot_out c.args.node _ c.reader_slot-i.ensures c.if-i-ge-READERS.true)))

pub returns-then-not-plaque : goal.returns-then-not-plaque
unfolding said_of
returns-then-not-plaque c =
    let p = slot_in c.args.node _ c.reader_slot-i.ensures c.if-i-ge-READERS.false in
    called c.refused-then-not-plaque.ensures (stepped (leave c.args.node) c.requires
    (left_14 full _ _ c.requires p.0 _ (reader_there _ _ _ c.requires p.0 p.1) (not-true _ c.if-not-plaque.true)))

pub returns : goal.returns
unfolding said_of
returns c =
    let p = slot_in c.args.node _ c.reader_slot-i.ensures c.if-i-ge-READERS.false in
    stored c.args.s p.1 c.left-y.ensures (stepped (leave c.args.node) c.requires
    (left_0 full _ _ c.requires p.0 _ (reader_there _ _ _ c.requires p.0 p.1) (not-false _ c.if-not-plaque.false)))
