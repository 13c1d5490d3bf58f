-- What was decided at the gateway's own node, settled in its parts, is the definition's outcome of the command (`Acting`).
use Rattle.units.proofs.Common.{rules}
use Rattle.acts.proofs.Acting.{governable, houses}
use Rattle.acts.proofs.governed.Goals as goal

pub govern-d-requires : goal.govern-d-requires
govern-d-requires c = governable c.requires.0 _ _ _ _ c.requires.1 c.requires.2 (search rules)

pub returns : goal.returns
returns c = houses c.requires.0 _ _ _ _ c.govern-d.ensures c.house.result c.house.ensures
