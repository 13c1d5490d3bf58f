-- As in `put_words`, two digits a turn.
-- Assumes nothing.
use Rattle.units.proofs.Common.{◌≡◌, ◌*◌, length, drop, sets}
use Rattle.dialog.specs.Fields.{pairs}
use Rattle.hexwords.proofs.put_pairs.Given as goal

abbrev pub invariant-loop-byte : goal.invariant-loop-byte
invariant-loop-byte l = (l.at ≡ 2 * l.byte-index) × (length l.out ≡ length l.initial.out)
    × (sets l.out l.byte-index (pairs (drop l.at l.field)) ≡ sets l.initial.out 0 (pairs l.field))
