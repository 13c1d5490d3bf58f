-- Whether there is a line feed among the bytes so far.
-- Assumes nothing.
use Rattle.units.proofs.Common.{◌≡◌, eqb, take}
use Rattle.std.specs.List.{list_any}
use Rattle.gather.proofs.any_feed.Given as goal

abbrev pub invariant-loop-b : goal.invariant-loop-b
invariant-loop-b l = l.any ≡ list_any (λ c. eqb c 10) (take l.b-index l.block)
