-- Document 01, "Refusal numbers": what may be wrong with a call on a machine, all sixteen numbers.
-- Assumes nothing.
use Rattle.meaning.specs.Refusal.{Doubts, ◌or_else◌}
use Rattle.meaning.specs.Bench.{Bench}
use Rattle.meaning.specs.Call.{Call}
use Rattle.machine.specs.Machine.{Machine, meaning}
use Rattle.machine.specs.Consistent.{lent}
use Rattle.demands.specs.Wrong.{wrong}

-- 1 and 2 by what is lent, 3 to 16 by the call in the gateway that is meant
unfoldable pub faults : Bench → Machine → Call → Doubts
faults b m c = lent b m or_else wrong b (meaning b m) c
