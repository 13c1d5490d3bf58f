-- By the command's kind: what its own function promises, or an answer that is due, or refusal 8 (`Serving`).
use Rattle.units.proofs.Common.{refl, lit≤}
use Rattle.meaning.proofs.Terms.{obeyed}
use Rattle.decided.proofs.Serving.{sayable, servable_as, as_kind, start_due, stop_due, foreign}
use Rattle.orders.proofs.serve.Goals as goal

pub on_plaque-requires : goal.on_plaque-requires
on_plaque-requires c = servable_as c.in-Plaque.is c.requires

pub say-said-requires : goal.say-said-requires
say-said-requires c = sayable c.requires.readable c.good.ensures 0 (lit≤ tt)

pub say-said-requires-in-ResetReader : goal.say-said-requires-in-ResetReader
say-said-requires-in-ResetReader c = sayable c.requires.readable c.good-in-ResetReader.ensures 0 (lit≤ tt)

pub returns-in-Plaque : goal.returns-in-Plaque
returns-in-Plaque c = as_kind _ c.requires c.in-Plaque.is c.on_plaque.ensures

pub returns-in-Continuous : goal.returns-in-Continuous
returns-in-Continuous c =
    let e = c.in-Continuous.is in
    as_kind _ c.requires e
    (start_due _ (servable_as e c.requires) c.good.ensures c.say-said.ensures c.started.ensures c.due.ensures)

pub returns-in-ResetReader : goal.returns-in-ResetReader
returns-in-ResetReader c =
    let e = c.in-ResetReader.is in
    as_kind _ c.requires e
    (stop_due _ (servable_as e c.requires) c.good-in-ResetReader.ensures c.say-said-in-ResetReader.ensures
    c.started-in-ResetReader.ensures c.due-in-ResetReader.ensures)

pub returns-in-Gateway : goal.returns-in-Gateway
unfolding obeyed
returns-in-Gateway c =
    let e = c.in-Gateway.is in
    as_kind _ c.requires e (foreign c.args.count (servable_as e c.requires) refl c.refused.ensures)

pub returns-in-Unknown : goal.returns-in-Unknown
unfolding obeyed
returns-in-Unknown c =
    let e = c.in-Unknown.is in
    as_kind _ c.requires e (foreign c.args.count (servable_as e c.requires) refl c.refused-in-Unknown.ensures)
