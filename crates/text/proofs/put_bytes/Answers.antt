-- A turn writes the text of one byte more behind what was written.
-- Assumes nothing.
use Rattle.units.proofs.Common.{sym, refl, arith, take, length-take}
use Rattle.text.proofs.Writing.{put_then, put_as, length_bytes, bytes_more}
use Rattle.text.specs.Text.{bytes_hex_of}
use Rattle.text.proofs.put_bytes.Goals as goal

pub loop-b-init : goal.loop-b-init
unfolding bytes_hex_of
loop-b-init c = record { next = omega arith; wrote = refl }

pub put_byte_hex-to-requires : goal.put_byte_hex-to-requires
put_byte_hex-to-requires c =
    let bs = c.args.bytes.now in
    let i = c.loop-b.b-index in
    omega (arith, c.loop-b.invariant.next, length_bytes (take i bs), length-take i bs)

pub loop-b-preserved : goal.loop-b-preserved
loop-b-preserved c =
    put_as (sym (bytes_more c.args.bytes.now c.loop-b.b-index (omega arith))) (put_then c.loop-b.invariant c.put_byte_hex-to.ensures)
