-- After so many steps the place to come is where the words of the nodes passed end, as `old_nodes` counts it.
use Rattle.units.proofs.Common.{◌≡◌, ◌≤◌, ◌-◌, length, take}
use Rattle.machine.proofs.Terms.{counts}
use Rattle.lists.specs.Room.{place_of}
use Rattle.convert.specs.Convert.{old_nodes}
use Rattle.convert.proofs.with_places.Given as goal

abbrev pub invariant-loop-k : goal.invariant-loop-k
invariant-loop-k l = (l.k ≤ 17) × (length l.ns ≡ 17) × (l.to ≡ place_of (counts l.held) l.k) × (take l.k l.ns ≡ old_nodes 0 (take l.k l.nodes) (take l.k l.held))

abbrev pub decreases-loop-k : goal.decreases-loop-k
decreases-loop-k l = 17 - l.k
