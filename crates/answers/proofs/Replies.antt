-- From a promise of the meaning's outcome to that of what a function returns.
-- Assumes nothing.
use Rattle.units.proofs.Common.{sym, ◌≡◌, subst, List, ℕ, eq-eqb, yes_cond}
use Rattle.meaning.proofs.Terms.{Bench, Call, Said, Outcome, step}
use Rattle.machine.proofs.Terms.{Machine, machine, meaning, unfit}
use Rattle.state.specs.declared.reader.Reader.{Reader}
use Rattle.state.specs.declared.State.{State}
use Rattle.promise.specs.Obeyed.{said_of, Does, expected, Obeyed}
use Rattle.promise.specs.declared.Reply.{Reply}
use Rattle.promise.specs.declared.Called.{Called}
use Rattle.promise.proofs.Readers.{with_reader}

module _ {b : Bench} {m : Machine} where
  -- a call on a consistent machine: its promise is that of the meaning's step
  pub stepped : (c : Call) {s : Said} {m' : Machine} → unfit b m ≡ 0 → Obeyed b c m s m' → Does b (step b (meaning b m) c) m s m'
  unfolding expected
  stepped c {s} {m'} fit d = subst (λ (o : Outcome). Does b o m s m') (yes_cond _ (eq-eqb _ _ fit)) d

  module _ {o : Outcome} where
    -- a reader stored at its index
    pub stored : (s : State) {said : Said} {i j : ℕ} {x y : Reader} {store memory : List ℕ} → i ≡ j → y ≡ x
        → Does b o m said (machine (with_reader s j x) store memory) → Does b o m said (machine (with_reader s i y) store memory)
    stored s {said} {i} {j} {x} {y} {store} {memory} e f d =
        subst (λ (k : ℕ). Does b o m said (machine (with_reader s k y) store memory)) (sym e)
        (subst (λ (z : Reader). Does b o m said (machine (with_reader s j z) store memory)) (sym f) d)

    -- what is handed back
    pub called : {r : Called} {p : Reply} {s : State} {store memory : List ℕ} → r ≡ record { reply = p; state = s }
        → Does b o m (said_of p) (machine s store memory) → Does b o m (said_of r.reply) (machine r.state store memory)
    called {r} {p} {s} {store} {memory} e d =
        subst (λ (q : Called). Does b o m (said_of q.reply) (machine q.state store memory)) (sym e) d
