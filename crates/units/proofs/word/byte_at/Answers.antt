-- The byte at i is that of the word at i / 2: its MSB where i is even, its LSB where i is odd.
-- Assumes nothing.
use Rattle.units.proofs.Base.{sym, ◌∙◌, ap, ◌/◌, arith, rules}
use Rattle.units.specs.Packing.{byte_at}
use Rattle.units.proofs.PackingLaws.{byte_at_even, byte_at_odd, byte_at_past}
use Rattle.units.proofs.word.byte_at.Goals as goal

pub returns-then-words-at : goal.returns-then-words-at
returns-then-words-at c =
    let a = c.args in
    sym (byte_at_past a.words.now a.i (omega arith))

pub returns-then-i-eq0 : goal.returns-then-i-eq0
returns-then-i-eq0 c =
    let a = c.args in
    c.msb.ensures ∙ sym (ap (byte_at a.words.now) (omega arith) ∙ byte_at_even a.words.now (a.i / 2))

pub returns : goal.returns
returns c =
    let a = c.args in
    c.lsb.ensures ∙ sym (ap (byte_at a.words.now) (omega arith) ∙ byte_at_odd a.words.now (a.i / 2))
