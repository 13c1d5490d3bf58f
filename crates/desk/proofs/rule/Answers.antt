-- By the command's kind, 11, 21, 60, 61, 79: the answer that was said is due, with the name and the sweep of the definition (`Ruling`).
use Rattle.units.proofs.Common.{sym, refl, lit≤, length-take-le}
use Rattle.answers.proofs.Saying.{good_sayable}
use Rattle.desk.proofs.Names.{name_inside, name_short}
use Rattle.desk.proofs.Ruling.{name_told, name_whole, renamed, nameless, restarted, cleared}
use Rattle.desk.proofs.rule.Goals as goal

pub slice_bounds-bytes-end : goal.slice_bounds-bytes-end
slice_bounds-bytes-end c = name_inside _ c.requires.in_order c.requires.wide

pub slice_bounds-say-end : goal.slice_bounds-say-end
slice_bounds-say-end c = sym (length-take-le _ _ (name_inside _ c.requires.in_order c.requires.wide))

pub say-said-requires : goal.say-said-requires
say-said-requires c =
    good_sayable c.good.ensures refl c.requires.stamp _ (name_short c.args.name c.requires.wide) c.requires.long

pub slice_bounds-bytes-end-in-SetName : goal.slice_bounds-bytes-end-in-SetName
slice_bounds-bytes-end-in-SetName c = (name_whole _ _ c.requires c.in-SetName.is).0

pub slice_bounds-unpack-end : goal.slice_bounds-unpack-end
slice_bounds-unpack-end c = sym (length-take-le _ _ (name_whole _ _ c.requires c.in-SetName.is).0)

pub say-said-requires-in-SetName : goal.say-said-requires-in-SetName
say-said-requires-in-SetName c = good_sayable c.good-in-SetName.ensures refl c.requires.stamp 0 (lit≤ tt) c.requires.long

pub say-said-requires-in-Initialise : goal.say-said-requires-in-Initialise
say-said-requires-in-Initialise c = good_sayable c.good-in-Initialise.ensures refl c.requires.stamp 0 (lit≤ tt) c.requires.long

pub say-requires : goal.say-requires
say-requires c = good_sayable c.good-in-ResetGateway.ensures refl c.requires.stamp 0 (lit≤ tt) c.requires.long

pub say-requires-in-Clear : goal.say-requires-in-Clear
say-requires-in-Clear c = good_sayable c.good-in-Clear.ensures refl c.requires.stamp 0 (lit≤ tt) c.requires.long

pub returns-in-GetName : goal.returns-in-GetName
returns-in-GetName c =
    name_told _ _ _ _ _ _ c.requires c.in-GetName.is c.good.ensures c.say-said.ensures c.due.ensures

pub returns-in-SetName : goal.returns-in-SetName
returns-in-SetName c =
    renamed _ _ _ _ _ _ c.requires c.in-SetName.is c.good-in-SetName.ensures c.say-said-in-SetName.ensures c.unpack.ensures
    c.due-in-SetName.ensures

pub returns-in-Initialise : goal.returns-in-Initialise
returns-in-Initialise c =
    nameless _ _ _ _ _ _ c.requires c.in-Initialise.is c.good-in-Initialise.ensures c.say-said-in-Initialise.ensures c.no_name.ensures
    c.due-in-Initialise.ensures

pub returns-in-ResetGateway : goal.returns-in-ResetGateway
returns-in-ResetGateway c =
    restarted _ _ _ _ _ _ c.requires c.in-ResetGateway.is c.good-in-ResetGateway.ensures c.say.ensures c.due-in-ResetGateway.ensures

pub returns-in-Clear : goal.returns-in-Clear
returns-in-Clear c =
    cleared _ _ _ _ _ _ c.requires c.in-Clear.is c.good-in-Clear.ensures c.say-in-Clear.ensures c.due-in-Clear.ensures
