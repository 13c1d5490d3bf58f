-- At fault, what is lent refuses a field check so; else the promise of its own crate is that of the call.
use Rattle.units.proofs.Common.{sym, ◌∙◌, refl}
use Rattle.meaning.proofs.Terms.{full}
use Rattle.promise.specs.Obeyed.{said_of}
use Rattle.promise.proofs.Promises.{unlent, by_step}
use Rattle.answers.proofs.Replies.{called}
use Rattle.gateway.proofs.check.Goals as goal

pub returns-then-k-ne0 : goal.returns-then-k-ne0
unfolding said_of
returns-then-k-ne0 c = called c.refused.ensures (unlent full _ _ _ (sym c.unfit-k.ensures) c.if-k-ne0.true)

pub returns : goal.returns
unfolding said_of
returns c =
    by_step full _ _ (sym c.unfit-k.ensures ∙
    c.if-k-ne0.false) refl c.check.ensures
