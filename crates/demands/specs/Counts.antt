-- Instance counts, counted from the calls and their results: the answers of a node since the start or the last 61.
-- Assumes nothing.
use Rattle.std.specs.Prelude.{ℕ, ◌+◌, ◌≤◌, ◌≡◌, ◌⊎◌, Bool, true, false, ◌&&◌, cond, List, [], ◌∷◌, ◌++◌, eqb, length, drop}
use Rattle.units.specs.declared.Form.{Form}
use Rattle.meaning.specs.Bench.{Bench, hub}
use Rattle.meaning.specs.declared.table.OfGateway.{OfGateway}
use Rattle.meaning.specs.declared.table.OfGateway.TheVariants.{GetName, SetName, Initialise, ResetGateway, Clear}
use Rattle.meaning.specs.declared.table.Kind.{Kind}
use Rattle.meaning.specs.declared.table.Kind.TheVariants as K
use Rattle.meaning.specs.Call.{Call, command, check, arrive, leave, collect, acknowledge, Said, refused, answered, queued}
use Rattle.meaning.specs.Call.{Whom, nobody, gateway, one, whom, Try, tried, step, command_in, kind_in}
use Rattle.meaning.specs.Gateway.{Gateway, Sweep, none, clearing, resetting}
use Rattle.demands.specs.Demand.{Line}

unfoldable pub is_queued : Said → Bool
is_queued (refused k) = false
is_queued (answered r) = false
is_queued queued = true

-- the node that a call is for, 0 for nobody's
unfoldable pub node_for : Whom → ℕ
node_for nobody = 0
node_for gateway = hub
node_for (one n) = n

-- what a call of the gateway does to all lists: 61 and 79
unfoldable pub broom_of : OfGateway → Sweep
broom_of ResetGateway = resetting
broom_of Clear = clearing
broom_of GetName = none
broom_of SetName = none
broom_of Initialise = none

unfoldable pub broom_kind : Kind → Sweep
broom_kind (K.Gateway k) = broom_of k
broom_kind (K.Plaque k) = none
broom_kind K.Continuous = none
broom_kind K.ResetReader = none
broom_kind K.Unknown = none

unfoldable pub broom_call : Bench → Call → Sweep
broom_call b (command t f ws) = broom_kind (kind_in b f ws)
broom_call b (check n t c) = none
broom_call b (arrive n id s) = none
broom_call b (leave n) = none
broom_call b (collect f n k) = none
broom_call b (acknowledge n h) = none

unfoldable pub broom_for : Bench → Call → Whom → Sweep
broom_for b c nobody = none
broom_for b c gateway = broom_call b c
broom_for b c (one n) = none

-- a command packet that empties all lists, by its number: 61 or 79
abbrev pub Sweeps : Form → List ℕ → Type 0
Sweeps f ws = ((command_in f ws).command ≡ 0x61) ⊎ ((command_in f ws).command ≡ 0x79)

unfoldable pub is_reset : Sweep → Bool
is_reset none = false
is_reset clearing = false
is_reset resetting = true

unfoldable pub is_sweep : Sweep → Bool
is_sweep none = false
is_sweep clearing = true
is_sweep resetting = true

unfoldable pub is_ack : Call → Bool
is_ack (command t f ws) = false
is_ack (check n t c) = false
is_ack (arrive n id s) = false
is_ack (leave n) = false
is_ack (collect f n k) = false
is_ack (acknowledge n h) = true

-- ---- instance counts
-- one call more: an accepted 61 forgets what was counted, and an answer of node n counts
abbrev pub counting : Bench → ℕ → ℕ → Call → Said → ℕ
counting b n k c a = cond (is_queued a && is_reset (broom_for b c (whom b c))) 0 k + cond (is_queued a && eqb n (node_for (whom b c))) 1 0

unfoldable pub tally : Bench → ℕ → ℕ → List Line → ℕ
tally b n k [] = k
tally b n k (l ∷ ls) = tally b n (counting b n k l.call l.said) ls

-- ---- answers: those made at a node since the start, in order, and how many of them are gone
pub record Past : Type 0 where
  pub made : List (List ℕ)
  pub gone : ℕ

-- the answer that a call is due to give
unfoldable pub answer_due : Try → List ℕ
answer_due (Try.refuse k) = []
answer_due (Try.give r h) = []
answer_due (Try.due n h w) = w

-- one call more: an accepted acknowledgement takes one answer away, an accepted 61 or 79 all; then an answer made joins
unfoldable pub past_after : Said → Sweep → Bool → Bool → List ℕ → Past → Past
past_after (refused k) z ack mine w p = p
past_after (answered r) z ack mine w p = record { made = p.made; gone = cond (ack && mine) (p.gone + 1) p.gone }
past_after queued z ack mine w p = record {
  made = cond mine (p.made ++ (w ∷ [])) p.made;
  gone = cond (is_sweep z) (length p.made) p.gone;
}

unfoldable pub past : Bench → ℕ → Gateway → List Call → Past → Past
past b n g [] p = p
past b n g (c ∷ cs) p =
    past b n (step b g c).next cs
    (past_after (step b g c).said (broom_for b c (whom b c)) (is_ack c) (eqb n (node_for (whom b c))) (answer_due (tried b g c)) p)

-- where every past starts: nothing has been made at the node, and nothing is gone
abbrev pub unmade : Past
unmade = record { made = []; gone = 0 }

-- a list of answers is as its past tells: what was made there, in order, without as many of the oldest as are gone
pub record Tells (p : Past) (ws : List (List ℕ)) : Type 0 where
  pub pending : ws ≡ drop p.gone p.made
  pub within : p.gone ≤ length p.made
