-- The values of the state with places that have a name: what stands where there is no answer; a fresh state.
-- Assumes nothing.
use Rattle.std.specs.Prelude.{replicate}
use Rattle.state.specs.State.{fresh_reader, nothing}
use Rattle.placed.specs.declared.Pending.{Pending}
use Rattle.placed.specs.declared.Node.{Node}
use Rattle.placed.specs.declared.State.{State}
use Rattle.meaning.specs.Bench.{full, node_count}

abbrev pub no_answers : Pending
no_answers = record { count = 0; place = 0; words = nothing }

abbrev pub fresh_node : Node
fresh_node = record { instance = 0; handover = 1; list = no_answers }

-- "A fresh state has no plaque, no pending answer, no continuous reading, an empty name, instance counts 0, handover numbers 1."
abbrev pub fresh_state : State
fresh_state = record {
  name = record { length = record { 0 = 0 }; bytes = replicate 64 0 };
  readers = replicate full.readers fresh_reader;
  nodes = replicate (node_count full) fresh_node;
}
