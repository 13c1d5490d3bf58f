-- What every call promises, against the meaning.
-- Assumes nothing.
use Rattle.std.specs.Prelude.{ℕ, ◌≡◌, Bool, true, false, cond, List, eqb, length}
use Rattle.std.proofs.lemmas.List.Edits.{sets}
use Rattle.meaning.specs.Bench.{Bench}
use Rattle.meaning.specs.Gateway.{Gateway}
use Rattle.meaning.specs.Call.{Call, Said, refused, answered, queued, done, quiet, handed, Outcome, step}
use Rattle.machine.specs.Machine.{Machine, machine, meaning}
use Rattle.machine.specs.Consistent.{unfit}
use Rattle.promise.specs.declared.Reply.{Reply}
use Rattle.promise.specs.declared.Handout.{Handout}
use Rattle.promise.specs.declared.Called.{Called}
use Rattle.state.specs.declared.State.{State}

-- the paper's number or value for each case of the code's answer
unfoldable pub said_of : Reply → Said
said_of (Reply.Refused k) = refused k
said_of Reply.Done = answered done
said_of Reply.Quiet = answered quiet
said_of Reply.Queued = queued

unfoldable pub is_refusal : Said → Bool
is_refusal (refused k) = true
is_refusal (answered r) = false
is_refusal queued = false

-- On machine m the outcome o of the meaning is brought about: it is what is said; "A refusal returns only the number; state, store, plaque
-- memory and output stay as they were"; otherwise the machine m' after is consistent and means exactly the gateway after.
pub record Does (b : Bench) (o : Outcome) (m : Machine) (said : Said) (m' : Machine) : Type 0 where
  pub says : said ≡ o.said
  pub refusal : is_refusal said ≡ true → m' ≡ m
  pub sound : is_refusal said ≡ false → unfit b m' ≡ 0
  pub means : is_refusal said ≡ false → meaning b m' ≡ o.next

-- refusal 1 or 2 by what is lent, else what the paper's step makes of the gateway that is meant
unfoldable pub expected : Bench → Call → Machine → Outcome
expected b c m = cond (eqb (unfit b m) 0) (step b (meaning b m) c) (record { said = refused (unfit b m); next = meaning b m })

-- the promise of every call
abbrev pub Obeyed : Bench → Call → Machine → Said → Machine → Type 0
Obeyed b c m said m' = Does b (expected b c m) m said m'

-- the same, of what a function is given and leaves: state, store, plaque memory. `Makes` is the promise of the inner functions, for
-- callers that carry the proof of a consistent machine: f is what the paper makes of the gateway; `Answers` that of the public calls
abbrev pub Makes : Bench → (Gateway → Outcome) → State → List ℕ → List ℕ → Called → List ℕ → List ℕ → Type 0
Makes b f s store memory r store' memory' =
    Does b (f (meaning b (machine s store memory))) (machine s store memory) (said_of r.reply) (machine r.state store' memory')

abbrev pub Answers : Bench → Call → State → List ℕ → List ℕ → Called → List ℕ → List ℕ → Type 0
Answers b c s store memory r store' memory' =
    Obeyed b c (machine s store memory) (said_of r.reply) (machine r.state store' memory')

-- ---- collect has an output besides
-- what the code hands back for what is said
unfoldable pub replied : Said → Handout
replied (refused k) = Handout.Refused k
replied (answered done) = Handout.Refused 0
replied (answered quiet) = Handout.Refused 0
replied (answered (handed ws h)) = Handout.Handed (record { 0 = length ws }) h
replied queued = Handout.Refused 0

-- what the lent output then holds, all of it
unfoldable pub written : Said → List ℕ → List ℕ
written (refused k) out = out
written (answered done) out = out
written (answered quiet) out = out
written (answered (handed ws h)) out = sets out 0 ws
written queued out = out

-- state, store and plaque memory are lent to collect and stay as they are
pub record Collects (b : Bench) (c : Call) (m : Machine) (r : Handout) (out out' : List ℕ) : Type 0 where
  pub reply : r ≡ replied (expected b c m).said
  pub output : out' ≡ written (expected b c m).said out
  pub obeyed : Obeyed b c m (expected b c m).said m
