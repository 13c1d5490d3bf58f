-- The closure sweeps the node that it is given, and stays as it is.
use Rattle.std.proofs.Common.{rules}
use Rattle.state.proofs.Lists.{length_mapped}
use Rattle.units.proofs.Slices.{map_same}
use Rattle.store.proofs.swept.Goals as goal

pub returns : goal.returns
returns c = map_same _ _ _ (λ x y f' k. search rules) c.args.nodes _ 17 (search (rules, length_mapped)) c.map.ensures.items
