-- Every row of the closed cases of the demands holds; the checker computes them. The proviso of the third is a statement, and so its
-- cases are theorems; so are those of what the theorems ask of a bench.
-- Assumes nothing.
use Rattle.units.proofs.Common.{sym, ◌≡◌, refl, true, true≢false, [], ℕ, lit≤, lit<}
use lib.Dec.{le→leb, lt→ltb}
use Rattle.meaning.proofs.Terms.{Bench, full, Try, unheld}
use Rattle.meaning.specs.Cases.{hex}
use Rattle.meaning.proofs.Opened.{calls}
use Rattle.demands.specs.Sound.{Sound}
use Rattle.demands.specs.Demand.{kept, spared, stays, struck, line, log, Eased}
use Rattle.demands.specs.Counts.{is_queued, node_for, broom_of, broom_kind, broom_call, broom_for, is_reset, is_sweep, is_ack, tally}
use Rattle.demands.specs.Counts.{answer_due}
use Rattle.demands.specs.Counts.{past_after, past}
use Rattle.demands.specs.Wrong.{ranges, ranging, passes, report_passes, past_plaque, no_room, none, away, nothing, other_number, longer}
use Rattle.demands.specs.Wrong.{too_short, state_doubts, wrong}
use Rattle.demands.specs.CasesOfDemands.{blank, holding, number, length_in, delay_in, struck_cases, line_cases, count_cases, past_cases}
use Rattle.demands.specs.CasesOfDemands.{range_cases, room_cases, pending_cases, demand_cases}

-- what the rows compute with: to name one of these on a line of `unfolding` opens all that its own line names
unfoldable pub counts : ℕ
unfolding is_queued node_for broom_of broom_kind broom_call broom_for is_reset is_sweep is_ack tally answer_due past_after past
counts = 0

unfoldable pub numbers : ℕ
unfolding ranges ranging passes report_passes past_plaque no_room none away nothing other_number longer too_short state_doubts wrong
numbers = 0

unfoldable pub demands : ℕ
unfolding calls counts numbers kept spared stays struck line log
demands = 0

unfoldable pub rows : ℕ
unfolding struck_cases line_cases count_cases past_cases range_cases room_cases pending_cases number length_in delay_in
rows = 0

pub demand_cases_hold : unheld demand_cases ≡ []
unfolding unheld demand_cases rows demands
demand_cases_hold = refl

-- ---- the proviso: a node's held words plus the answer are at most 134
-- an answer of 6 words is due at node n, which holds k
abbrev pub due : ℕ → ℕ → Try
due n k = Try.due n (holding n k blank) (hex "0006 AA08 0003 0101 0000 0000")

-- 134 words meet it, at reader 3 and at the gateway's own node; another reader may hold any number
pub proviso_met : Eased full 3 (due 3 128) × Eased full 3 (due 32 128) × Eased full 3 (due 4 804)
unfolding Eased calls
proviso_met = (λ p. lit≤ tt, λ p. lit≤ tt, λ p. absurd (true≢false (sym p)))

-- 135 words do not
pub proviso_unmet : (Eased full 3 (due 3 129) → ⊥) × (Eased full 3 (due 32 129) → ⊥)
unfolding Eased calls
proviso_unmet = (λ h. le→leb 135 134 (h refl), λ h. le→leb 135 134 (h refl))

-- ---- what the theorems ask of a bench
abbrev pub bench : ℕ → ℕ → ℕ → ℕ → Bench
bench readers store share limit =
    record { readers = readers; store = store; share = share; limit = limit; region = 1024; continuous = true }

-- 31 readers, a share of 6 words that is the limit too, and a store of just the 32 shares: it may be no tighter
pub tightest : Sound (bench 31 192 6 6)
tightest = record { apart = lit< tt; modest = lit≤ tt; stored = lit≤ tt; bare = lit≤ tt }

-- a reader more, a limit below the share, a store of a word less, a share of 5
pub too_tight :
    (Sound (bench 32 198 6 6) → ⊥) × (Sound (bench 31 192 6 5) → ⊥) × (Sound (bench 31 191 6 6) → ⊥) × (Sound (bench 31 192 5 6) → ⊥)
too_tight = (λ s. lt→ltb 32 32 s.apart, λ s. le→leb 6 5 s.modest, λ s. le→leb 192 191 s.stored, λ s. le→leb 6 5 s.bare)
