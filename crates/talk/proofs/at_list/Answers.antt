-- `at_list` hands the parts back as they were after a collection, and as `acknowledged` leaves them after an acknowledgement; what is said
-- of it was written (laws of `Collecting`).
-- Assumes nothing.
use Rattle.units.proofs.Common.{arith}
use Rattle.dialogout.proofs.Rooms.{said_short}
use Rattle.talk.proofs.Collecting.{listed_kept, listed_said}
use Rattle.talk.proofs.at_list.Goals as goal

pub returns-in-Collect : goal.returns-in-Collect
returns-in-Collect c is at s memory a fit =
    let b = c.args in
    listed_kept s b.store.now memory b.node a c.in-Collect.is (c.put_oldest-at.ensures is at s memory a fit)

pub returns-in-Acknowledge : goal.returns-in-Acknowledge
returns-in-Acknowledge c is at s memory a fit =
    let b = c.args in
    let q = c.put_said-at.ensures in
    listed_said s b.store.now memory b.node a c.in-Acknowledge.is (c.acknowledged-r.ensures b.node is at s memory a fit) q
    (omega (arith, q.next, said_short c.acknowledged-r.result.reply _ c.acknowledged-r.type_inv.1.1.1.1.0))
