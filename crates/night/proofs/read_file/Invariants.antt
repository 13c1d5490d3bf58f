-- The loop keeps the place inside the file, and each turn that adds bytes moves it on.
use Rattle.units.proofs.Common.{◌≡◌, ◌≤◌, ◌-◌, length}
use Rattle.night.proofs.read_file.Given as goal

abbrev pub invariant-loop-n : goal.invariant-loop-n
invariant-loop-n g l = (length l.chunk ≡ 4096) × (l.n ≤ length l.file)

abbrev pub decreases-loop-n : goal.decreases-loop-n
decreases-loop-n g l = length l.file - l.n
