-- The gateway is last, a reader is one below its number, and what is no node is past them all.
use Rattle.units.proofs.Common.{ne_eqb, le-leb, lt-leb}
use Rattle.answers.proofs.slots.node_slot.Goals as goal

pub returns-then-node-eq-HUB : goal.returns-then-node-eq-HUB
returns-then-node-eq-HUB c = rw c.if-node-eq-HUB.true

pub returns-then-node-lt1 : goal.returns-then-node-lt1
returns-then-node-lt1 c = simp (lt-leb _ _ c.if-node-lt1.true, ne_eqb _ _ c.if-node-eq-HUB.false)

pub returns-then-node-gt-LAST_READER : goal.returns-then-node-gt-LAST_READER
returns-then-node-gt-LAST_READER c =
    simp (le-leb 1 _ c.if-node-lt1.false, lt-leb _ _ c.if-node-gt-LAST_READER.true, ne_eqb _ _ c.if-node-eq-HUB.false)

pub returns : goal.returns
returns c = simp (le-leb 1 _ c.if-node-lt1.false, le-leb _ _ c.if-node-gt-LAST_READER.false, ne_eqb _ _ c.if-node-eq-HUB.false)
