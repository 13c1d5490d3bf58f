-- After so many steps the words of the first lists stand one behind the other; at the end that is the store without gaps.
use Rattle.units.proofs.Common.{◌≡◌, ◌++◌, length, take, drop}
use Rattle.convert.specs.Convert.{runs_of}
use Rattle.convert.proofs.lay.Given as goal

abbrev pub invariant-loop-n : goal.invariant-loop-n
invariant-loop-n l = record {
  place : l.to ≡ length (runs_of l.store (take l.n-index l.n-items));
  words : l.out ≡ runs_of l.store (take l.n-index l.n-items) ++ drop l.to l.initial.out;
}
