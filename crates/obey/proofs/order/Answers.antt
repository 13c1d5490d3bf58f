-- The reader's parts are taken out at its index and put back there: what holds of them holds of the state (`Taking`).
use Rattle.units.proofs.Common.{refl}
use Rattle.meaning.proofs.Terms.{full}
use Rattle.machine.proofs.Terms.{machine}
use Rattle.answers.specs.Ordered.{load_of, ordered}
use Rattle.obey.proofs.Taking.{seats_here}
use Rattle.obey.proofs.order.Goals as goal

pub returns : goal.returns
returns c =
    seats_here (machine c.args.s c.args.store.now c.args.plaques.now) c.requires.fit c.args.m.node _ c.requires.reader refl
    (λ g. ordered full g c.args.t c.args.kind c.args.m (load_of full c.args.m c.args.words.now))
    c.obeyed-r.result c.obeyed-r.ensures c.seated.ensures
