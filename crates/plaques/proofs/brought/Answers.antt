-- `brought` hands back the reader with the plaque, whose bytes stand at the front of the reader's region (laws of `Placing`).
-- Assumes nothing.
use Rattle.units.proofs.Common.{◌∙◌, ap, true, List, ℕ, arith, length}
use Rattle.meaning.proofs.Terms.{full}
use Rattle.promise.proofs.Tables.{reader_range}
use Rattle.promise.proofs.Readers.{with_plaque}
use Rattle.plaques.proofs.Placing.{Limits, limits, arrives_done}
use Rattle.plaques.proofs.brought.Goals as goal
use Rattle.plaques.proofs.brought.Goals.{Start}

here : (c : Start) → Limits c.args.node c.args.id.now c.args.bytes.now
here c = limits c.args.node c.args.id.now c.args.bytes.now c.requires.0

pub overflow_sub-i : goal.overflow_sub-i
overflow_sub-i c =
    let l = here (goal.at.overflow_sub-i c).Start in
    omega (arith, reader_range full c.args.node l.reader)

pub unwrap-id-requires : goal.unwrap-id-requires
unwrap-id-requires c =
    let l = here (goal.at.unwrap-id-requires c).Start in
    c.try_from.ensures.0 l.eight

pub overflow_cast-bytes : goal.overflow_cast-bytes
overflow_cast-bytes c =
    let l = here (goal.at.overflow_cast-bytes c).Start in
    omega arith

pub copy_bytes-requires : goal.copy_bytes-requires
copy_bytes-requires c =
    let l = here (goal.at.copy_bytes-requires c).Start in
    omega (arith, reader_range full c.args.node l.reader, l.few, c.requires.1)

pub returns : goal.returns
returns c store =
    let a = c.args in
    let id = (rw c.unwrap-id.ensures at c.try_from.ensures.1).same in
    arrives_done a.node a.own a.x a.held store a.plaques.now a.id.now a.bytes.now c.requires.0
    (c.arrived-y.ensures ∙ ap (λ (k : List ℕ). with_plaque a.x (record {
      present = true;
      id = k;
      length = record { 0 = length a.bytes.now };
    })) id)
    _ c.copy_bytes.ensures
