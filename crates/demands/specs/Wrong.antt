-- Document 01, "Refusal numbers": what may be wrong with a call in a gateway, each number with the case in which it applies.
-- Assumes nothing.
use Rattle.std.specs.Prelude.{ℕ, ◌+◌, Bool, true, false, not, ◌&&◌, List, [], ◌∷◌, leb, eqb, length}
use Rattle.units.specs.declared.Form.{Form}
use Rattle.meaning.specs.Refusal.{Doubts, ◌when◌, ◌or_else◌}
use Rattle.meaning.specs.Bench.{Bench}
use Rattle.meaning.specs.Response.{shown}
use Rattle.meaning.specs.Room.{fits}
use Rattle.meaning.specs.Gateway.{Node, Reader, Gateway, Field, empty, plaque, Mode, off, on, join}
use Rattle.meaning.specs.declared.table.OnPlaque.{OnPlaque}
use Rattle.meaning.specs.declared.table.OnPlaque.TheVariants.{Fill, Read, Write, ReadId, Search}
use Rattle.meaning.specs.declared.table.Kind.{Kind}
use Rattle.meaning.specs.declared.table.Kind.TheVariants as K
use Rattle.meaning.specs.Call.{Call, command, check, arrive, leave, collect, acknowledge, Try, asked, tried, named, repeats, kind_in}
use Rattle.meaning.specs.Call.{command_in}

-- ---- 12: "range runs past the plaque"
-- "04 to 06 need start + size at most the plaque's length"
unfoldable pub ranges : OnPlaque → Bool
ranges Fill = true
ranges Read = true
ranges Write = true
ranges ReadId = false
ranges Search = false

unfoldable pub ranging : Kind → Bool
ranging (K.Plaque k) = ranges k
ranging (K.Gateway k) = false
ranging K.Continuous = false
ranging K.ResetReader = false
ranging K.Unknown = false

unfoldable pub passes : ℕ → Field → Bool
passes end empty = false
passes end (plaque id len) = not (leb end len)

-- a field check that is not quiet
unfoldable pub report_passes : ℕ → Field → Mode → Bool
report_passes clock empty m = false
report_passes clock (plaque id len) off = false
report_passes clock (plaque id len) (on start size delay rep) = not (repeats id clock delay rep) && not (leb (start + size) len)

unfoldable pub past_plaque : Bench → Reader → Call → Bool
past_plaque b r (command t f ws) = ranging (kind_in b f ws) && passes ((command_in f ws).start + (command_in f ws).size) r.field
past_plaque b r (check n t clock) = report_passes clock r.field r.mode
past_plaque b r (arrive n id s) = false
past_plaque b r (leave n) = false
past_plaque b r (collect f n k) = false
past_plaque b r (acknowledge n h) = false

-- ---- 13: "no room", for an answer that is due
unfoldable pub no_room : Bench → Try → Bool
no_room b (Try.refuse k) = false
no_room b (Try.give r h) = false
no_room b (Try.due n h w) = not (fits b n (join n w h))

-- ---- 14: "nothing pending; no plaque to leave"
unfoldable pub none : List (List ℕ) → Bool
none [] = true
none (w ∷ ws) = false

unfoldable pub away : Field → Bool
away empty = true
away (plaque id len) = false

unfoldable pub nothing : Node → Reader → Call → Bool
nothing x r (command t f ws) = false
nothing x r (check n t clock) = false
nothing x r (arrive n id s) = false
nothing x r (leave n) = away r.field
nothing x r (collect f n k) = none x.pending
nothing x r (acknowledge n h) = none x.pending

-- ---- 15: "handover number isn't the current one (0 too, never 10)"
unfoldable pub other_number : Node → Call → Bool
other_number x (command t f ws) = false
other_number x (check n t clock) = false
other_number x (arrive n id s) = false
other_number x (leave n) = false
other_number x (collect f n k) = false
other_number x (acknowledge n h) = not (eqb h x.handover)

-- ---- 16: "lent output too short", for the oldest answer in the form asked for
unfoldable pub longer : Form → ℕ → ℕ → List (List ℕ) → Bool
longer f n room [] = false
longer f n room (w ∷ ws) = not (leb (length (shown f n w)) room)

unfoldable pub too_short : Node → Call → Bool
too_short x (command t f ws) = false
too_short x (check n t clock) = false
too_short x (arrive n id s) = false
too_short x (leave n) = false
too_short x (collect f n k) = longer f n k x.pending
too_short x (acknowledge n h) = false

-- ---- all of them: 3 to 11 by what the call says alone, then 12 to 16 by the state of its own node
unfoldable pub state_doubts : Bench → Gateway → Call → Doubts
state_doubts b g c =
    12 when past_plaque b (g.reader (named c)) c
    or_else 13 when no_room b (tried b g c)
    or_else 14 when nothing (g.nodes (named c)) (g.reader (named c)) c
    or_else 15 when other_number (g.nodes (named c)) c
    or_else 16 when too_short (g.nodes (named c)) c

unfoldable pub wrong : Bench → Gateway → Call → Doubts
wrong b g c = asked b c or_else state_doubts b g c
