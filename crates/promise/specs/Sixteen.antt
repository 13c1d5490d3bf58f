-- Document 01, "Refusal numbers": for each of the sixteen a call and a machine that it is given on.
-- Assumes nothing.
use Rattle.std.specs.Prelude.{ℕ, true, List, [], ◌∷◌, ◌++◌, map, replicate}
use Rattle.units.specs.declared.Form.TheVariants.{Register, Framed}
use Rattle.meaning.specs.Bench.{full}
use Rattle.meaning.specs.Cases.{march, midnight, search, reads}
use Rattle.meaning.specs.CasesOfCalls.{cmd, id_a}
use Rattle.meaning.specs.Call.{Call, command, check, arrive, leave, collect, acknowledge, Said}
use Rattle.state.specs.State.{nothing, fresh_reader, fresh_node, fresh_state, off, no_report}
use Rattle.machine.specs.Machine.{Machine, machine}
use Rattle.state.specs.declared.reader.Reader.{Reader}
use Rattle.state.specs.declared.node.Node.{Node}
use Rattle.promise.specs.Obeyed.{expected}

infix 10 ◌on◌
pub data Input : Type 0 where
  ◌on◌ : Call → Machine → Input

unfoldable pub answer : Input → Said
answer (c on m) = (expected full c m).said

-- ---- machines: a fresh one, but for reader 1, for node 1, the words that it holds, and the store
abbrev pub with : Reader → Node → ℕ → List ℕ → Machine
with r n words store =
    machine (record {
      name = fresh_state.name;
      readers = r ∷ replicate 15 fresh_reader;
      nodes = n ∷ replicate 16 fresh_node;
      held = record { 0 = words } ∷ replicate 16 nothing;
    }) store (replicate 16384 0)

abbrev pub idle : Machine
idle = with fresh_reader fresh_node 0 (replicate 4096 0)

abbrev pub short : Machine
short = with fresh_reader fresh_node 0 (replicate 4095 0)

abbrev pub unnumbered : Machine
unnumbered = with fresh_reader (record { instance = 0; handover = 0; answers = 0 }) 0 (replicate 4096 0)

abbrev pub tagged : Machine
tagged = with (record { plaque = record { present = true; id = id_a; length = record { 0 = 4 } }; reading = off; report = no_report })
    fresh_node 0 (replicate 4096 0)

-- node 1 with an answer of 6 words pending
abbrev pub waiting : Machine
waiting = with fresh_reader (record { instance = 1; handover = 1; answers = 1 }) 6
    (0x0006 ∷ 0xAA08 ∷ 0x0001 ∷ 0x0101 ∷ 0x0000 ∷ 0x0000 ∷ replicate 4090 0)

-- node 1 with six answers of 134 words each, 804 in all
abbrev pub longest : List ℕ
longest = 0x0086 ∷ 0xAA05 ∷ 0x0001 ∷ 0x0101 ∷ 0x0000 ∷ 0x00FF ∷ replicate 128 0

abbrev pub crowded : Machine
crowded = with fresh_reader (record { instance = 6; handover = 1; answers = 6 }) 804
    (longest ++ longest ++ longest ++ longest ++ longest ++ longest ++ replicate 3292 0)

-- in the order of the numbers
unfoldable pub sixteen : List Input
sixteen =
    (leave 1 on short)  -- 1
    ∷ (leave 1 on unnumbered)  -- 2
    ∷ (check 1 (midnight 2 30) 0 on idle)  -- 3
    ∷ (cmd [] on idle)  -- 4
    ∷ (cmd (0x0006 ∷ 0xAB08 ∷ 0x0001 ∷ 0x0001 ∷ 0x0000 ∷ 0x0000 ∷ []) on idle)  -- 5
    ∷ (command march Framed (0xFF02 ∷ search 1) on idle)  -- 6
    ∷ (leave 17 on idle)  -- 7
    ∷ (cmd (0x0006 ∷ 0xAA09 ∷ 0x0001 ∷ 0x0001 ∷ 0x0000 ∷ 0x0000 ∷ []) on idle)  -- 8
    ∷ (arrive 1 (replicate 7 1) (0x01 ∷ []) on idle)  -- 9
    ∷ (cmd (reads 1 0 0) on idle)  -- 10
    ∷ (cmd (0x0006 ∷ 0xAA08 ∷ 0x0001 ∷ 0x0001 ∷ 0x0000 ∷ 0x0001 ∷ []) on idle)  -- 11
    ∷ (cmd (reads 1 3 2) on tagged)  -- 12
    ∷ (cmd (search 1) on crowded)  -- 13
    ∷ (leave 1 on idle)  -- 14
    ∷ (acknowledge 1 0 on waiting)  -- 15
    ∷ (collect Register 1 5 on waiting)  -- 16
    ∷ []

-- H-1: "each call that is given both judges both", before all other numbers. With each of these something else is wrong too: a stamp that
-- is none, a node that is none, no words, no output
unfoldable pub hasty : List Call
hasty =
    command (midnight 2 30) Register [] ∷ check 99 (midnight 2 30) 0 ∷ arrive 99 [] [] ∷ leave 99 ∷ collect Framed 99 0 ∷ acknowledge 99 0 ∷
    []

unfoldable pub said_on : Machine → List Said
said_on m = map (λ c. answer (c on m)) hasty
