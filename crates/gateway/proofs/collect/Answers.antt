-- At fault, what is lent refuses the collection so; else the promise of its own crate is that of the call.
use Rattle.gateway.proofs.Faults.{collect_unlent}
use Rattle.units.proofs.Common.{sym}
use Rattle.meaning.proofs.Terms.{full}
use Rattle.gateway.proofs.collect.Goals as goal

pub returns-then-k-ne0 : goal.returns-then-k-ne0
returns-then-k-ne0 c = collect_unlent full _ _ _ _ (sym c.unfit-k.ensures) c.if-k-ne0.true
