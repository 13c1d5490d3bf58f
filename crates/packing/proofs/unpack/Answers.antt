-- A turn puts the two bytes of a word. There is no word more, or no room, or the first byte of a word joins them; `filled` and `put_last`
-- say that this is all.
-- Assumes nothing.
use Rattle.units.proofs.Common.{◌∙◌, ◌≡◌, ap, ◌+◌, get_or, length, min, arith}
use Rattle.units.specs.Packing.{bytes_of}
use Rattle.units.proofs.PackingLaws.{length_bytes_of, byte_at_even, byte_at_odd, put_two, filled, put_last}
use Rattle.packing.proofs.unpack.Goals as goal
use Rattle.packing.proofs.unpack.Goals.{else-n-words-via-then-n-words+else-n-out, else-n-words-via-else-n-words}

pub loop-i-preserved : goal.loop-i-preserved
loop-i-preserved c =
    let a = c.args in
    let ws = a.words.now in
    let i = c.loop-i.i in
    let e = length_bytes_of ws in
    let t = c.type_inv.words i in
    put_two a.out.now (bytes_of ws) i c.loop-i.invariant
    (ap (λ l. get_or l 0 0) c.to_be_bytes.ensures ∙ omega (arith, byte_at_even ws i))
    (ap (λ l. get_or l 1 0) c.to_be_bytes.ensures ∙ omega (arith, byte_at_odd ws i))
    (omega arith) (omega arith)

-- the first byte of a word
pub returns-then-n-out : goal.returns-then-n-out
returns-then-n-out c =
    let a = c.args in
    let ws = a.words.now in
    let i = c.loop-i.i in
    let q : c.min-n.result ≡ i = omega arith in
    let e = length_bytes_of ws in
    let w = c.type_inv.words i in
    rw q (put_last (bytes_of ws) a.out.now (i + i) c.loop-i.invariant
    (ap (λ l. get_or l 0 0) (rw q at c.to_be_bytes-then-n-out.ensures) ∙ omega (arith, byte_at_even ws i))
    (omega arith))

-- no word more, or no room
pub returns-else-n-words : goal.returns-else-n-words
returns-else-n-words c =
    let a = c.args in
    let ws = a.words.now in
    let i = c.loop-i.i in
    let e = length_bytes_of ws in
    let all : i + i ≡ min (length (bytes_of ws)) (length a.out.now) =
    elim c.else-n-words.branch [
      | else-n-words-via-then-n-words+else-n-out w ↦ omega arith
      | else-n-words-via-else-n-words w ↦ omega arith
    ] in
    c.loop-i.invariant ∙ filled (bytes_of ws) a.out.now (i + i) all
