-- What is lent to a call comes back as long as it was, and the machine stays consistent.
-- Assumes nothing.
use Rattle.units.proofs.Common.{◌≡◌, ◌≤◌, length}
use Rattle.meaning.proofs.Terms.{full}
use Rattle.machine.proofs.Terms.{machine, unfit}
use Rattle.console.proofs.play_into.Given as goal

abbrev pub invariant-loop : goal.invariant-loop
invariant-loop l =
    (length l.piece ≡ 2048) × (length l.input ≡ 6449) × (l.kept ≤ 4401) × (unfit full (machine l.s l.store l.plaques) ≡ 0)
