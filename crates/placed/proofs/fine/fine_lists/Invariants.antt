-- A walk over the pending answers (`Walk`): the marks are those of the answers passed, and the lists are fine exactly if the rest is.
-- Each way on, and each way out, is one law of the walk. No more answers are passed than words.
-- Assumes nothing.
use Rattle.units.proofs.Common.{◌≡◌, true, ◌≤◌, ◌-◌}
use Rattle.meaning.proofs.Terms.{full}
use Rattle.placed.proofs.Marks.{Walk, nodes_left, left}
use Rattle.placed.proofs.fine.fine_lists.Given as goal

abbrev pub invariant-loop-k : goal.invariant-loop-k
invariant-loop-k l = (l.k ≤ l.count) × (l.k ≤ l.place) × (l.fine ≡ true) × Walk full 4096 l.store l.nodes l.used (left l.store l.nodes l.i (l.count - l.k) l.place)

abbrev pub decreases-loop-k : goal.decreases-loop-k
decreases-loop-k l = l.count - l.k

abbrev pub invariant-nodes : goal.invariant-nodes
invariant-nodes l = (l.i ≤ 17) × (l.fine ≡ true) × Walk full 4096 l.store l.nodes l.used (nodes_left l.store l.nodes l.i)

abbrev pub decreases-nodes : goal.decreases-nodes
decreases-nodes l = 17 - l.i
