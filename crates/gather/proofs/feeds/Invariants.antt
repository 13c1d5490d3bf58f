-- The count is that of the line feeds among the bytes so far.
-- Assumes nothing.
use Rattle.units.proofs.Common.{◌≡◌, eqb, take}
use Rattle.std.specs.List.{count_by}
use Rattle.gather.proofs.feeds.Given as goal

abbrev pub invariant-loop-b : goal.invariant-loop-b
invariant-loop-b l = l.n ≡ count_by (λ c. eqb c 10) (take l.b-index l.bytes)
