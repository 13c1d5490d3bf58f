-- A turn puts one word more behind those that stand there.
-- Assumes nothing.
use Rattle.std.proofs.Common.{◌≡◌, List, ℕ, length, take, get_or, arith}
use native.Mathlib.Numerals.{add-one}
use lib.Seq.{take-suc, length-take-le}
use Rattle.moves.proofs.Moves.{put_next}
use Rattle.moves.proofs.copy_in.Goals as goal

pub loop-i-preserved : goal.loop-i-preserved
loop-i-preserved c =
    let a = c.args in
    let l = c.loop-i in
    let s : List ℕ = a.src.now in
    let e : length (take l.i s) ≡ l.i = length-take-le l.i s (omega arith) in
    rw (l.invariant, add-one, take-suc s l.i 0 (omega arith)) (rw e at (put_next a.dst.now a.to (take l.i s) (get_or s l.i 0)))
