-- What the converters promise: 1, 2 by the layout that each is given; a refused conversion leaves the store as it was.
-- Assumes nothing.
use Rattle.std.specs.Prelude.{ℕ, ◌≡◌, replicate}
use Rattle.meaning.specs.Bench.{Bench, full, node_count}
use Rattle.state.specs.State.{nothing, fresh_node}
use Rattle.state.specs.declared.State.{State}
use Rattle.machine.specs.Machine as N
use Rattle.machine.specs.Consistent.{unfit}
use Rattle.placed.specs.State as PS
use Rattle.placed.specs.declared.State as S
use Rattle.placed.specs.Machine as P
use Rattle.placed.specs.Consistent as PC
use Rattle.convert.specs.Convert.{new_machine, old_machine}

-- a state in the other layout with nothing pending: what is handed back with a number
abbrev pub silent : S.State → State
silent s = record {
  name = s.name;
  readers = s.readers;
  nodes = replicate (node_count full) fresh_node;
  held = replicate (node_count full) nothing;
}

abbrev pub silent_placed : State → S.State
silent_placed s = record { name = s.name; readers = s.readers; nodes = replicate (node_count full) PS.fresh_node }

-- m is what is lent, m' what is left, with the state handed back
pub record ToNew (b : Bench) (m : P.Machine) (refusal : ℕ) (m' : N.Machine) : Type 0 where
  pub number : refusal ≡ PC.unfit b m
  pub refused : (PC.unfit b m ≡ 0 → ⊥) → m' ≡ N.machine (silent m.state) m.store m.memory
  pub done : PC.unfit b m ≡ 0 → m' ≡ new_machine m

pub record ToOld (b : Bench) (m : N.Machine) (refusal : ℕ) (m' : P.Machine) : Type 0 where
  pub number : refusal ≡ unfit b m
  pub refused : (unfit b m ≡ 0 → ⊥) → m' ≡ P.machine (silent_placed m.state) m.store m.memory
  pub done : unfit b m ≡ 0 → m' ≡ old_machine m
