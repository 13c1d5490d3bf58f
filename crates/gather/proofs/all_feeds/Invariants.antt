-- The count is that of the line feeds of the blocks so far.
-- Assumes nothing.
use Rattle.units.proofs.Common.{◌≡◌, ◌*◌, eqb, take}
use Rattle.std.specs.List.{count_by}
use Rattle.gather.proofs.all_feeds.Given as goal

abbrev pub invariant-loop-block : goal.invariant-loop-block
invariant-loop-block l = l.n ≡ count_by (λ c. eqb c 10) (take (l.block-index * 128) l.bytes)
