-- What an accepted command makes of the gateway, by its node; and what it brings that the code rests on.
-- Assumes nothing.
use Rattle.std.specs.Prelude.{ℕ, ◌≡◌, true, List}
use Rattle.units.specs.Stamp.{is_stamp}
use Rattle.units.specs.declared.stamp.Stamp.{Stamp}
use Rattle.meaning.specs.Bench.{Bench, is_reader}
use Rattle.meaning.specs.declared.table.Kind.{Kind}
use Rattle.meaning.specs.declared.packet.Command.{Command}
use Rattle.machine.specs.Machine.{Machine}
use Rattle.machine.specs.Consistent.{unfit}
use Rattle.answers.specs.Ordered.{Ready}
use Rattle.desk.specs.Ruled.{LimitedOf}

-- ---- what an accepted command brings, on a consistent machine
-- for a reader
pub record Orderly (b : Bench) (t : Stamp) (k : Kind) (m : Command) (words : List ℕ) (x : Machine) : Type 0 where
  pub fit : unfit b x ≡ 0
  pub reader : is_reader b m.node ≡ true
  pub stamp : is_stamp t ≡ true
  pub ready : Ready b k m words

-- for the gateway itself
pub record Heeded (b : Bench) (t : Stamp) (k : Kind) (m : Command) (words : List ℕ) (x : Machine) : Type 0 where
  pub fit : unfit b x ≡ 0
  pub stamp : is_stamp t ≡ true
  pub told : LimitedOf b k m words
