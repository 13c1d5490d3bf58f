-- Calls one after the other, each on the machine that the one before left.
-- Assumes nothing.
use Rattle.std.specs.Prelude.{ℕ, List, [], ◌∷◌, map, replicate}
use Rattle.meaning.specs.Bench.{Bench, full}
use Rattle.meaning.specs.Gateway.{Gateway}
use Rattle.meaning.specs.Call.{Call, Said}
use Rattle.state.specs.State.{fresh_state}
use Rattle.machine.specs.Machine.{Machine, machine, meaning}
use Rattle.demands.specs.Demand.{Line}
use Rattle.promise.specs.Obeyed.{Obeyed}

pub record Exchange : Type 0 where
  pub call : Call
  pub said : Said
  pub after : Machine

unfoldable pub Chain : Bench → Machine → List Exchange → Type 0
Chain b m [] = Unit
Chain b m (h ∷ hs) = Obeyed b h.call m h.said h.after × Chain b h.after hs

unfoldable pub ended : Machine → List Exchange → Machine
ended m [] = m
ended m (h ∷ hs) = ended h.after hs

abbrev pub calls : List Exchange → List Call
calls hs = map (λ h. h.call) hs

-- a chain as demand 3 compares it: the lines of reader i
unfoldable pub lines : Bench → ℕ → List Exchange → List Line
lines b i [] = []
lines b i (h ∷ hs) =
    record {
      call = h.call;
      said = h.said;
      node = (meaning b h.after).nodes i;
      reader = (meaning b h.after).reader i;
      name = (meaning b h.after).name;
    }
    ∷ lines b i hs

-- where every chain starts: a fresh state, the store that making it zeroed, and whatever the lent plaque memory holds
unfoldable pub zero_store : List ℕ
zero_store = replicate full.store 0

abbrev pub fresh_machine : List ℕ → Machine
fresh_machine memory = machine fresh_state zero_store memory

-- the gateway that the code's machine means after such a chain
abbrev pub reached : List ℕ → List Exchange → Gateway
reached memory hs = meaning full (ended (fresh_machine memory) hs)
