-- After so many steps the nodes passed have lost their places, and the others are still fresh; at the end that is `map`.
use Rattle.units.proofs.Common.{◌≡◌, map, ◌≤◌, ◌-◌, length, take}
use Rattle.convert.specs.Convert.{new_node}
use Rattle.convert.proofs.without_places.Given as goal

abbrev pub invariant-loop-k : goal.invariant-loop-k
invariant-loop-k l = (l.k ≤ 17) × (length l.ns ≡ 17) × (take l.k l.ns ≡ map new_node (take l.k l.nodes))

abbrev pub decreases-loop-k : goal.decreases-loop-k
decreases-loop-k l = 17 - l.k
