-- What was decided of a call, as the definition says it: an outcome that is `Local`.
-- Assumes nothing.
use Rattle.std.specs.Prelude.{ℕ, ◌≡◌, true, List, []}
use Rattle.meaning.specs.Bench.{Bench}
use Rattle.meaning.specs.Response.{well_formed}
use Rattle.meaning.specs.Gateway.{Node}
use Rattle.meaning.specs.Call.{Local}
use Rattle.answers.specs.declared.Verdict.{Verdict}
use Rattle.answers.specs.declared.Verdict.TheVariants as W

-- a node of which only the count is known: what an answer bears of its node
abbrev pub bare : ℕ → Node
bare count = record { count = count; handover = 1; pending = [] }

-- a verdict, with what the call may change and the answer that may be due
unfoldable pub told : {A : Type 0} → Verdict → A → List ℕ → Local A
told (W.Refused k) a w = Local.refuse k
told W.Due a w = Local.due a w

-- an answer that is due is one of node n
unfoldable pub Formed : Bench → ℕ → Verdict → List ℕ → Type 0
Formed b n (W.Refused k) w = Unit
Formed b n W.Due w = well_formed b n w ≡ true
