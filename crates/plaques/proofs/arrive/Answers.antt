-- No reader, or an ID or bytes past their limits: refused; else the reader is stored with its plaque, and the bytes stand in its region.
use Rattle.units.proofs.Common.{◌∙◌, ap, true, List, ℕ, ◌*◌, arith, length, get_or, paste, le-leb, lt-leb, yes_and, no_and}
use Rattle.meaning.proofs.Terms.{full, arrive}
use Rattle.promise.specs.Obeyed.{said_of}
use Rattle.promise.proofs.Parts.{parts}
use Rattle.promise.proofs.Plaques.{arrived_7, arrived_9, arrived_10, arrived_0}
use Rattle.promise.proofs.Readers.{with_plaque}
use Rattle.answers.proofs.Indices.{slot_out, slot_in, blank_reader, reader_there}
use Rattle.answers.proofs.Replies.{stepped, stored, called}
use Rattle.plaques.proofs.arrive.Goals as goal

pub returns-then-i-ge-READERS : goal.returns-then-i-ge-READERS
unfolding said_of
returns-then-i-ge-READERS c =
    called c.refused.ensures (stepped ((arrive c.args.node c.args.id.now c.args.bytes.now)) c.requires
    (arrived_7 full _ _ c.requires _ _ (slot_out c.args.node _ c.reader_slot-i.ensures c.if-i-ge-READERS.true)))

pub returns-then-id : goal.returns-then-id
unfolding said_of
returns-then-id c =
    let p = slot_in c.args.node _ c.reader_slot-i.ensures c.if-i-ge-READERS.false in
    called c.refused-then-id.ensures (stepped ((arrive c.args.node c.args.id.now c.args.bytes.now)) c.requires (arrived_9 full _ _ c.requires _ _ p.0 c.if-id.true))

pub returns-then-bytes-lt1 : goal.returns-then-bytes-lt1
unfolding said_of
returns-then-bytes-lt1 c =
    let p = slot_in c.args.node _ c.reader_slot-i.ensures c.if-i-ge-READERS.false in
    called c.refused-then-bytes-lt1.ensures (stepped ((arrive c.args.node c.args.id.now c.args.bytes.now)) c.requires
    (arrived_10 full _ _ c.requires _ _ p.0 c.if-id.false (no_and _ (lt-leb _ _ c.if-bytes-lt1.true))))

pub returns-then-bytes : goal.returns-then-bytes
unfolding said_of
returns-then-bytes c =
    let p = slot_in c.args.node _ c.reader_slot-i.ensures c.if-i-ge-READERS.false in
    called c.refused-then-bytes.ensures (stepped ((arrive c.args.node c.args.id.now c.args.bytes.now)) c.requires
    (arrived_10 full _ _ c.requires _ _ p.0 c.if-id.false
    (yes_and (le-leb 1 _ c.if-bytes-lt1.false) ∙ lt-leb _ _ c.if-bytes.true)))

pub unwrap-id-requires : goal.unwrap-id-requires
unwrap-id-requires c = c.try_from.ensures.0 c.if-id.false

pub copy_bytes-requires : goal.copy_bytes-requires
copy_bytes-requires c = omega (arith, (parts full _ c.requires).memory, c.if-i-ge-READERS.false, c.if-bytes.false)

pub returns : goal.returns
unfolding said_of
returns c =
    let p = slot_in c.args.node _ c.reader_slot-i.ensures c.if-i-ge-READERS.false in
    stored c.args.s p.1
    (c.arrived-y.ensures ∙ ap (λ (k : List ℕ). with_plaque (get_or c.args.s.readers c.reader_slot-i.result blank_reader)
    (record { present = true; id = k; length = record { 0 = length c.args.bytes.now } }))
    (rw c.unwrap-id.ensures at c.try_from.ensures.1).same)
    (stepped ((arrive c.args.node c.args.id.now c.args.bytes.now)) c.requires (arrived_0 full _ _ c.requires _ _ p.0 c.if-id.false
    (yes_and (le-leb 1 _ c.if-bytes-lt1.false) ∙ le-leb _ _ c.if-bytes.false) _ (reader_there _ _ _ c.requires p.0 p.1) _
    (c.copy_bytes.ensures
    ∙ ap (λ (k : ℕ). paste c.args.plaques.now (k * full.region) c.args.bytes.now (length c.args.bytes.now)) p.1)))
