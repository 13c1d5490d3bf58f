-- `put_handed` writes the line of an answer handed over: its beginning, word 00 where the form has it, and the words (laws of `Collected`).
-- Assumes nothing.
use Rattle.units.proofs.Common.{arith}
use Rattle.meaning.proofs.Chain.{flag}
use Rattle.text.proofs.Writing.{put_length, length_hex, decimal_short}
use Rattle.dialogout.proofs.Collected.{begun, collected_headed, collected_bare}
use Rattle.dialogout.proofs.put_handed.Goals as goal

pub put_decimal-end-requires : goal.put_decimal-end-requires
put_decimal-end-requires c =
    let p = c.put_text-from.ensures in
    omega (arith, p.next, put_length p, decimal_short 4 c.args.number (omega arith))

pub put-to-requires : goal.put-to-requires
put-to-requires c =
    let p = c.put_text-from.ensures in
    let q = c.put_decimal-end.ensures in
    omega (arith, p.next, put_length p, q.next, put_length q, decimal_short 4 c.args.number (omega arith))

pub put_hex-next-requires : goal.put_hex-next-requires
put_hex-next-requires c =
    let b = begun {number = c.args.number} (omega arith) c.put_text-from.ensures c.put_decimal-end.ensures c.put-to.ensures in
    omega (arith, b.near, b.long, c.requires)

pub put-then-requires : goal.put-then-requires
put-then-requires c =
    let b = begun {number = c.args.number} (omega arith) c.put_text-from.ensures c.put_decimal-end.ensures c.put-to.ensures in
    let w = c.put_hex-next.ensures in
    omega (arith, b.near, b.long, c.requires, w.next, put_length w, length_hex c.word.result)

pub put_words-requires : goal.put_words-requires
put_words-requires c =
    let b = begun {number = c.args.number} (omega arith) c.put_text-from.ensures c.put_decimal-end.ensures c.put-to.ensures in
    let w = c.put_hex-next.ensures in
    let z = c.put-then.ensures in
    omega (arith, b.near, b.long, c.requires, w.next, put_length w, length_hex c.word.result, z.next, put_length z)

pub returns-then-bears : goal.returns-then-bears
returns-then-bears c =
    let a = c.args in
    let b = begun {number = a.number} (omega arith) c.put_text-from.ensures c.put_decimal-end.ensures c.put-to.ensures in
    collected_headed b a.form a.node a.words.now (flag c.bears.ensures c.if-bears.true)
    c.word.ensures c.requires.1 c.put_hex-next.ensures c.put-then.ensures c.put_words.ensures

pub put_words-requires-2 : goal.put_words-requires-2
put_words-requires-2 c =
    let b = begun {number = c.args.number} (omega arith) c.put_text-from.ensures c.put_decimal-end.ensures c.put-to.ensures in
    omega (arith, b.near, b.long, c.requires)

pub returns : goal.returns
returns c =
    let a = c.args in
    let b = begun {number = a.number} (omega arith) c.put_text-from.ensures c.put_decimal-end.ensures c.put-to.ensures in
    collected_bare b a.form a.node a.words.now (flag c.bears.ensures c.if-bears.false) c.put_words-2.ensures
