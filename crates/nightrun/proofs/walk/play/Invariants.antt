-- The loop's invariant is `Along`: what is still to come makes the whole text. Each way around writes one line of it, and leaves a
-- consistent machine that means the gateway after that command.
use Rattle.units.proofs.Common.{◌≡◌, ◌-◌, length}
use Rattle.meaning.proofs.Terms.{full}
use Rattle.machine.proofs.Terms.{machine, meaning}
use Rattle.asking.specs.Ask.{longest}
use Rattle.nightrun.proofs.Playing.{Along}
use Rattle.nightrun.proofs.walk.play.Given as goal

abbrev pub invariant-loop : goal.invariant-loop
invariant-loop l = (length l.packet ≡ longest)
    × Along full l.file l.fn.begun (meaning full (machine l.fn.opened l.fn.store l.fn.plaques)) l.fn.out l.fn.start l.out l.to l.at (l.fn.begun.left - l.counter)
    (machine l.s l.store l.plaques)
