-- The parts of a state taken out for a call and put back: what holds of every machine that they are parts of holds of this one.
-- Assumes nothing.
use Rattle.units.proofs.Common.{◌≡◌, refl, true, List, ℕ, ◌≤◌, ◌-◌, ◌<◌, arith, get_or, set, is_stamp}
use Rattle.units.specs.declared.stamp.Stamp.{Stamp}
use Rattle.meaning.proofs.Terms.{full, is_reader, Gateway, Outcome, Said, check, step}
use Rattle.machine.proofs.Terms.{Machine, machine, meaning, unfit}
use Rattle.state.specs.declared.State.{State}
use Rattle.machine.proofs.Read.{blank}
use Rattle.promise.specs.Obeyed.{said_of, Does}
use Rattle.promise.specs.declared.Called.{Called}
use Rattle.promise.proofs.Commands.{checked_by}
use Rattle.promise.proofs.Tables.{reader_range}
use Rattle.answers.specs.Ordered.{looking}
use Rattle.answers.proofs.Indices.{blank_reader}
use Rattle.answers.proofs.Replies.{stepped}
use Rattle.settle.specs.Settled.{Seat, Seatable, Seats, House, housed, Houseable, Houses}
use Rattle.settle.specs.declared.Seated.{Seated}
use Rattle.settle.specs.declared.Housed.{Housed}
use Rattle.settle.proofs.Seating.{seat_of}

module _ (m : Machine) (fit : unfit full m ≡ 0) where
  -- ---- a reader's, at its index
  module _ (n i : ℕ) (is : is_reader full n ≡ true) (at : i ≡ n - 1) where
    seat : Seat n (get_or m.state.nodes i blank) (get_or m.state.readers i blank_reader) m.state.held m.state
    seat = rw at (seat_of m fit n is)

    pub seatable : Seatable full n (get_or m.state.nodes i blank) (get_or m.state.readers i blank_reader) m.state.held m.store
        m.memory
    seatable = record { is = is; state = m.state; seat = seat; fit = fit }

    pub first : 1 ≤ n
    first = (reader_range full n is).0

    pub inside : i < full.readers
    inside = omega (arith, at, reader_range full n is)

    -- the state with them at that index
    abbrev back : Seated → State
    back r = record {
      name = m.state.name;
      readers = set m.state.readers i r.reader;
      nodes = set m.state.nodes i r.node;
      held = r.held;
    }

    pub seats_here : (o : Gateway → Outcome) (r : Seated) {store' memory' : List ℕ} {q : Called}
        → Seats full o n (get_or m.state.nodes i blank) (get_or m.state.readers i blank_reader) m.state.held m.store m.memory r
        store' memory'
        → q ≡ record { state = back r; reply = r.reply }
        → Does full (o (meaning full m)) m (said_of q.reply) (machine q.state store' memory')
    seats_here o r d e = rw (e, at) (d m.state seat fit)

    -- a field check of it is the meaning's step
    pub checks_here : (t : Stamp) (clock : ℕ) → is_stamp t ≡ true → {said : Said} {m' : Machine}
        → Does full (looking full (meaning full m) n t clock) m said m' → Does full (step full (meaning full m) (check n t clock)) m said m'
    unfolding looking
    checks_here t clock good d = stepped (check n t clock) fit (checked_by full m fit n t clock good is refl d)

  -- ---- the gateway's own
  house : House m.state.nodes m.state.held m.state.name m.state
  house = record { all = refl; helds = refl; title = refl }

  pub houseable : Houseable full m.state.nodes m.state.held m.state.name m.store
  houseable = record { state = m.state; memory = m.memory; house = house; fit = fit }

  pub houses_here : (o : Gateway → Outcome) (r : Housed) {store' : List ℕ}
      → Houses full o m.state.nodes m.state.held m.state.name m.store r store'
      → Does full (o (meaning full m)) m (said_of r.reply) (machine (housed m.state r) store' m.memory)
  houses_here o r d = d m.state m.memory house fit
