-- What was decided of the gateway's own command, as the definition says it: an outcome that is `Local`.
-- Assumes nothing.
use Rattle.std.specs.Prelude.{ℕ, ◌≤◌, ◌≡◌, true, List, length, take}
use Rattle.units.specs.Stamp.{is_stamp}
use Rattle.units.specs.declared.stamp.Stamp.{Stamp}
use Rattle.meaning.specs.Bench.{Bench, hub}
use Rattle.meaning.specs.Packet.{overall}
use Rattle.meaning.specs.Call.{Local, Desk, governed}
use Rattle.meaning.specs.declared.table.OfGateway.{OfGateway}
use Rattle.meaning.specs.declared.table.OfGateway.TheVariants.{GetName, SetName, Initialise, ResetGateway, Clear}
use Rattle.meaning.specs.declared.table.Kind.{Kind}
use Rattle.meaning.specs.declared.table.Kind.TheVariants as K
use Rattle.meaning.specs.declared.packet.Command.{Command}
use Rattle.machine.specs.Consistent.{name_ok}
use Rattle.state.specs.declared.Name.{Name}
use Rattle.store.specs.Swept.{broom_of}
use Rattle.answers.specs.Ordered.{load_of}
use Rattle.answers.specs.Decided.{bare, told, Formed}
use Rattle.desk.specs.declared.Ruled.{Ruled}

abbrev pub title_of : Name → List ℕ
title_of n = take n.length.0 n.bytes

-- limits that an accepted packet has kept, as far as the code rests on them: a name has at most 64 bytes, and all of them came
unfoldable pub Limited : Bench → OfGateway → Command → List ℕ → Type 0
Limited b GetName m words = Unit
Limited b SetName m words = (m.size ≤ 64) × (m.size ≡ length (load_of b m words))
Limited b Initialise m words = Unit
Limited b ResetGateway m words = Unit
Limited b Clear m words = Unit

unfoldable pub LimitedOf : Bench → Kind → Command → List ℕ → Type 0
LimitedOf b (K.Plaque k) m words = Unit
LimitedOf b K.Continuous m words = Unit
LimitedOf b K.ResetReader m words = Unit
LimitedOf b (K.Gateway k) m words = Limited b k m words
LimitedOf b K.Unknown m words = Unit

-- ---- what the code rests on
pub record Governable (b : Bench) (t : Stamp) (k : Kind) (m : Command) (words : List ℕ) (name : Name) (answer : ℕ) : Type 0 where
  pub stamp : is_stamp t ≡ true
  pub told : LimitedOf b k m words
  pub in_order : name_ok name ≡ true
  pub wide : length name.bytes ≡ 64
  pub long : overall 255 ≤ answer

-- ---- the decision d is the local outcome l of the definition
abbrev pub desk_of : Ruled → Desk
desk_of d = record { broom = broom_of d.broom; title = title_of d.name }

abbrev pub decided : Ruled → List ℕ → Local Desk
decided d answer = told d.verdict (desk_of d) (take d.words.0 answer)

-- what settling it rests on
pub record Settles (b : Bench) (d : Ruled) (answer : List ℕ) : Type 0 where
  pub in_order : name_ok d.name ≡ true
  pub wide : length d.name.bytes ≡ 64
  pub inside : d.words.0 ≤ length answer
  pub formed : Formed b hub d.verdict (take d.words.0 answer)

pub record Rules (b : Bench) (l : Local Desk) (d : Ruled) (answer : List ℕ) : Type 0 where
  pub same : decided d answer ≡ l
  pub settles : Settles b d answer

-- a command, of a gateway with so many earlier answers
abbrev pub Governs : Bench → ℕ → Name → Stamp → Kind → Command → List ℕ → Ruled → List ℕ → Type 0
Governs b count name t k m ws d answer = Rules b (governed (bare count) (title_of name) t k (load_of b m ws)) d answer
