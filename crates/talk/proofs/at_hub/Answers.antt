-- What `governed` promises of an accepted packet is the meaning's step of it.
-- Assumes nothing.
use Rattle.units.proofs.Common.{sym, length-take-le}
use Rattle.talk.proofs.Reading.{hub_needs, hub_houses}
use Rattle.talk.proofs.at_hub.Goals as goal

pub slice_bounds-command_data-end : goal.slice_bounds-command_data-end
slice_bounds-command_data-end c = sym (length-take-le _ _ c.requires.0.long)

pub governed-requires : goal.governed-requires
governed-requires c =
    let n = hub_needs c.requires.2 c.requires.0 c.command_data-data.ensures in
    (c.requires.2, n.0, n.1)

pub returns : goal.returns
returns c = hub_houses c.requires.2 c.requires.0 c.command_data-data.ensures c.requires.1 c.governed.result c.governed.ensures
