-- A reader is one below its number; what is no reader is past them all.
use Rattle.units.proofs.Common.{le-leb, lt-leb}
use Rattle.answers.proofs.slots.reader_slot.Goals as goal

pub returns-then-node-lt1 : goal.returns-then-node-lt1
returns-then-node-lt1 c = simp (lt-leb _ _ c.if-node-lt1.true)

pub returns-then-node-gt-LAST_READER : goal.returns-then-node-gt-LAST_READER
returns-then-node-gt-LAST_READER c = simp (le-leb 1 _ c.if-node-lt1.false, lt-leb _ _ c.if-node-gt-LAST_READER.true)

pub returns : goal.returns
returns c = simp (le-leb 1 _ c.if-node-lt1.false, le-leb _ _ c.if-node-gt-LAST_READER.false)
