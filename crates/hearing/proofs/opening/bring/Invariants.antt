-- The loop's invariant: the lines from here on, with as many plaques as are to come, are the lines from the start on.
use Rattle.units.proofs.Common.{◌≡◌, ◌≤◌, ◌-◌, length, drop}
use Rattle.meaning.proofs.Terms.{full}
use Rattle.machine.proofs.Terms.{machine, meaning, unfit}
use Rattle.listing.specs.Listing.{plaque_lines}
use Rattle.hearing.proofs.opening.bring.Given as goal

abbrev pub invariant-loop : goal.invariant-loop
invariant-loop l = (l.at ≤ length l.file) × (length l.plaques ≡ length l.initial.plaques) × (unfit full (machine l.t l.store l.plaques) ≡ 0)
    × (plaque_lines full (l.count - l.counter) (meaning full (machine l.t l.store l.plaques)) (drop l.at l.file)
    ≡ plaque_lines full l.count (meaning full (machine l.initial.t l.store l.initial.plaques)) (drop l.initial.at l.file))
