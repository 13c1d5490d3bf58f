-- `aim_arrive` has the doubts of an arrival in their order: 7, 9, then 10 (laws of `Aimed`).
-- Assumes nothing.
use Rattle.units.proofs.Common.{◌∙◌}
use Rattle.meaning.proofs.Chain.{flag}
use Rattle.aiming.proofs.Aimed.{arrive_7, arrive_9, arrive_few, arrive_many, arrive_0}
use Rattle.aiming.proofs.aim_arrive.Goals as goal

pub returns-then-not-is_reader : goal.returns-then-not-is_reader
returns-then-not-is_reader c ws =
    let a = c.args in
    c.refused.ensures ∙ arrive_7 a.node a.id a.bytes ws (flag c.is_reader.ensures c.if-not-is_reader.true)

pub returns-then-id : goal.returns-then-id
returns-then-id c ws =
    let a = c.args in
    c.refused-then-id.ensures
    ∙ arrive_9 a.node a.id a.bytes ws (flag c.is_reader.ensures c.if-not-is_reader.false) c.if-id.true

pub returns-then-bytes-lt1 : goal.returns-then-bytes-lt1
returns-then-bytes-lt1 c ws =
    let a = c.args in
    c.refused-then-bytes-lt1.ensures
    ∙ arrive_few a.node a.id a.bytes ws (flag c.is_reader.ensures c.if-not-is_reader.false) c.if-id.false
    c.if-bytes-lt1.true

pub returns-then-bytes : goal.returns-then-bytes
returns-then-bytes c ws =
    let a = c.args in
    c.refused-then-bytes.ensures
    ∙ arrive_many a.node a.id a.bytes ws (flag c.is_reader.ensures c.if-not-is_reader.false) c.if-id.false c.if-bytes-lt1.false
    c.if-bytes.true

pub returns : goal.returns
returns c ws =
    let a = c.args in
    arrive_0 a.node a.id a.bytes ws (flag c.is_reader.ensures c.if-not-is_reader.false) c.if-id.false c.if-bytes-lt1.false
    c.if-bytes.false
