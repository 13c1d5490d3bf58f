-- Each command on a plaque is served by its own function, whose promise is that of the definition for its kind.
use Rattle.units.proofs.Common.{ap, lit≤, not-false, not-true}
use Rattle.meaning.specs.declared.table.Kind.TheVariants as K
use Rattle.decided.proofs.Serving.{sayable, not_found_sayable, id_sayable, servable_as, as_kind, none_due, id_due, search_due}
use Rattle.orders.proofs.on_plaque.Goals as goal

pub say-requires : goal.say-requires
say-requires c = not_found_sayable c.requires.readable c.args.count

pub returns-then-not-plaque : goal.returns-then-not-plaque
returns-then-not-plaque c = none_due c.args.count c.requires (not-true _ c.if-not-plaque.true) c.say.ensures c.due.ensures

pub fill-requires : goal.fill-requires
fill-requires c = (servable_as (ap K.Plaque c.in-Fill.is) c.requires, not-false _ c.if-not-plaque.false)

pub read-requires : goal.read-requires
read-requires c = (servable_as (ap K.Plaque c.in-Read.is) c.requires, not-false _ c.if-not-plaque.false)

pub write-requires : goal.write-requires
write-requires c = (servable_as (ap K.Plaque c.in-Write.is) c.requires, not-false _ c.if-not-plaque.false)

pub say-said-requires : goal.say-said-requires
say-said-requires c = id_sayable c.requires.readable c.good.ensures

pub say-said-requires-in-Search : goal.say-said-requires-in-Search
say-said-requires-in-Search c = sayable c.requires.readable c.good-in-Search.ensures 0 (lit≤ tt)

pub returns-in-Fill : goal.returns-in-Fill
returns-in-Fill c = as_kind c.args.count c.requires (ap K.Plaque c.in-Fill.is) c.fill.ensures

pub returns-in-Read : goal.returns-in-Read
returns-in-Read c = as_kind c.args.count c.requires (ap K.Plaque c.in-Read.is) c.read.ensures

pub returns-in-Write : goal.returns-in-Write
returns-in-Write c = as_kind c.args.count c.requires (ap K.Plaque c.in-Write.is) c.write.ensures

pub returns-in-ReadId : goal.returns-in-ReadId
returns-in-ReadId c =
    let e = ap K.Plaque c.in-ReadId.is in
    as_kind c.args.count c.requires e
    (id_due c.args.count (not-false _ c.if-not-plaque.false) (servable_as e c.requires) c.good.ensures c.say-said.ensures c.due-in-ReadId.ensures)

pub returns-in-Search : goal.returns-in-Search
returns-in-Search c =
    let e = ap K.Plaque c.in-Search.is in
    as_kind c.args.count c.requires e
    (search_due c.args.count (not-false _ c.if-not-plaque.false) (servable_as e c.requires) c.good-in-Search.ensures c.say-said-in-Search.ensures
    c.due-in-Search.ensures)
