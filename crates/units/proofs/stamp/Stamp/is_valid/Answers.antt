-- One part of `isStamp` that is false makes it false, whatever the others are; past all the tests each part is true.
-- Assumes nothing.
use Rattle.units.proofs.Base.{sym, ◌∙◌, and-false, arith, le-leb, lt-leb, rules}
use Rattle.units.specs.Stamp.{last_day, is_stamp}
use Rattle.units.proofs.Choice.{yes_and}
use Rattle.units.proofs.stamp.Stamp.is_valid.Goals as goal

pub returns-then-day-lt1 : goal.returns-then-day-lt1
unfolding is_stamp
returns-then-day-lt1 c = rw (lt-leb _ _ c.if-day-lt1.true)

pub returns-then-last_day-day : goal.returns-then-last_day-day
unfolding is_stamp
returns-then-last_day-day c =
    let t = c.args.self in
    let e = c.last_day.ensures in
    rw (lt-leb t.day (last_day t.month) (omega arith), and-false)

pub returns-then-self-gt23 : goal.returns-then-self-gt23
unfolding is_stamp
returns-then-self-gt23 c = rw (lt-leb c.args.self.hour 23 (omega arith), and-false)

pub returns-then-self-gt59 : goal.returns-then-self-gt59
unfolding is_stamp
returns-then-self-gt59 c = rw (lt-leb c.args.self.minute 59 (omega arith), and-false)

pub returns : goal.returns
unfolding is_stamp
returns c =
    let t = c.args.self in
    let e = c.last_day.ensures in
    let first = le-leb 1 t.day (omega arith) in
    let last = le-leb t.day (last_day t.month) (omega arith) in
    let hour = le-leb t.hour 23 (omega arith) in
    let minute = le-leb t.minute 59 (omega arith) in
    sym (yes_and (yes_and (yes_and (yes_and first ∙ last) ∙ hour) ∙ minute))
