-- No count passes the limit exactly if none does from i on; so charges may be added up.
-- Assumes nothing.
use Rattle.units.proofs.Common.{◌≡◌, ◌≤◌, ◌-◌, drop}
use Rattle.meaning.specs.Bench.{node_count}
use Rattle.meaning.proofs.Terms.{full}
use Rattle.machine.proofs.Terms.{counts}
use Rattle.lists.proofs.Charges.{limited}
use Rattle.lists.proofs.line.bounds_met.Given as goal

abbrev pub invariant-loop-i : goal.invariant-loop-i
invariant-loop-i l = (l.i ≤ node_count full) × (limited full.limit (counts l.hs) ≡ limited full.limit (drop l.i (counts l.hs)))

abbrev pub decreases-loop-i : goal.decreases-loop-i
decreases-loop-i l = node_count full - l.i
