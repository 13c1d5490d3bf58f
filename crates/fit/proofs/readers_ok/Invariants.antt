-- The loop's invariant: all readers are in order exactly where those from here on are.
use Rattle.units.proofs.Common.{◌≡◌, ◌≤◌, ◌-◌, drop}
use Rattle.units.proofs.Common.{every}
use Rattle.meaning.proofs.Terms.{full}
use Rattle.machine.proofs.Terms.{reader_ok}
use Rattle.fit.proofs.readers_ok.Given as goal

abbrev pub invariant-loop-i : goal.invariant-loop-i
invariant-loop-i l = (l.i ≤ full.readers) × (every (reader_ok full) l.readers ≡ every (reader_ok full) (drop l.i l.readers))

abbrev pub decreases-loop-i : goal.decreases-loop-i
decreases-loop-i l = full.readers - l.i
