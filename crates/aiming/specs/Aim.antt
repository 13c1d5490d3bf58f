-- Whom a line is for, by what it says alone.
-- Assumes nothing.
use Rattle.std.specs.Prelude.{ℕ, ◌≤◌, not, cond, List, eqb, take}
use Rattle.units.specs.Count.{within}
use Rattle.units.specs.declared.Form.{Form}
use Rattle.units.specs.declared.Words.{Words}
use Rattle.units.specs.declared.stamp.Stamp.{Stamp}
use Rattle.meaning.specs.Refusal.{◌when◌, ◌or_else◌, refusal}
use Rattle.meaning.specs.Bench.{Bench, hub, is_reader}
use Rattle.meaning.specs.Call.{command, check, leave, collect, acknowledge, judged, command_in, kind_in}
use Rattle.lines.specs.declared.Heard.{Heard}
use Rattle.aiming.specs.declared.Aside.{Aside}
use Rattle.aiming.specs.declared.Want.{Want}
use Rattle.aiming.specs.declared.Order.{Order}
use Rattle.aiming.specs.declared.Ask.{Ask}
use Rattle.aiming.specs.declared.Whom.{Whom}

-- "The lowest number that applies is given": by what the call says alone, else it goes to whom it is for
abbrev pub unless_refused : ℕ → Whom → Whom
unless_refused k w = cond (eqb k 0) w (Whom.Nobody (Aside.Refused k))

-- an arrival is judged by its node and by how many bytes there are (law `arrive-judged`)
unfoldable pub arrive_refusal : Bench → ℕ → ℕ → ℕ → ℕ
arrive_refusal b n id bytes =
    refusal (7 when not (is_reader b n) or_else 9 when not (eqb id 8) or_else 10 when not (within 1 b.region bytes))

module _ (b : Bench) where
  -- a command packet: what it says, and its row's kind
  unfoldable pub order_of : Stamp → Form → Words → List ℕ → Order
  order_of t f n ws = record { stamp = t; form = f; words = n; kind = kind_in b f (take n.0 ws); what = command_in f (take n.0 ws) }

  -- "a packet [is] for that of word 03"
  unfoldable pub for_node : Order → Whom
  for_node o = cond (eqb o.what.node hub) (Whom.Gateway o) (Whom.Reader o.what.node (Ask.Command o))

  -- ws are the words of the buffer
  unfoldable pub aimed : Heard → List ℕ → Whom
  aimed Heard.Passed ws = Whom.Nobody Aside.Passed
  aimed Heard.Unreadable ws = Whom.Nobody Aside.Unreadable
  aimed (Heard.Store first count) ws = Whom.Nobody (Aside.Look first count)
  aimed (Heard.Command t f n) ws = unless_refused (judged b (command t f (take n.0 ws))) (for_node (order_of t f n ws))
  aimed (Heard.Check n t clock) ws = unless_refused (judged b (check n t clock)) (Whom.Reader n (Ask.Check t clock))
  aimed (Heard.Arrive n id bytes) ws = unless_refused (arrive_refusal b n id.0 bytes.0) (Whom.Reader n (Ask.Arrive id bytes))
  aimed (Heard.Leave n) ws = unless_refused (judged b (leave n)) (Whom.Reader n Ask.Leave)
  aimed (Heard.Collect n f) ws = unless_refused (judged b (collect f n 135)) (Whom.List n (Want.Collect f))
  aimed (Heard.Acknowledge n h) ws = unless_refused (judged b (acknowledge n h)) (Whom.List n (Want.Acknowledge h))

-- a packet's words stand in a buffer of so many
unfoldable pub Fits : Heard → ℕ → Type 0
Fits Heard.Passed room = Unit {0}
Fits Heard.Unreadable room = Unit {0}
Fits (Heard.Store first count) room = Unit {0}
Fits (Heard.Command t f n) room = n.0 ≤ room
Fits (Heard.Check n t clock) room = Unit {0}
Fits (Heard.Arrive n id bytes) room = Unit {0}
Fits (Heard.Leave n) room = Unit {0}
Fits (Heard.Collect n f) room = Unit {0}
Fits (Heard.Acknowledge n h) room = Unit {0}
