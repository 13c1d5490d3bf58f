-- Closed examples, so that nobody can say that the theorems speak of nothing: a chain of calls on machines that are written out, the same
-- chain with another reader's calls struck out, and a run in which reader 1 stays at ease while other nodes stand at 804 words.
-- Assumes nothing.
use Rattle.std.specs.Prelude.{ℕ, ◌≡◌, true, List, [], ◌∷◌, ◌++◌, replicate}
use Rattle.units.specs.declared.Form.TheVariants.{Register, Framed}
use Rattle.meaning.specs.Bench.{full}
use Rattle.meaning.specs.Cases.{search, reads}
use Rattle.meaning.specs.CasesOfCalls.{cmd, id_a, clears, gets_name}
use Rattle.meaning.specs.Gateway.{Gateway, fresh}
use Rattle.meaning.specs.Call.{Call, arrive, leave, collect, acknowledge, Said, refused, answered, queued, done, handed, run}
use Rattle.demands.specs.Demand.{kept, stays, struck, Same}
use Rattle.state.specs.State.{nothing, fresh_reader, fresh_node, fresh_state, off, no_report}
use Rattle.machine.specs.Machine.{Machine, machine, region_of}
use Rattle.state.specs.declared.reader.Reader.{Reader}
use Rattle.state.specs.declared.node.Node.{Node}
use Rattle.promise.specs.Runs.{Exchange, Chain, calls, lines, zero_store, fresh_machine, reached}

-- ---- the machines: lent is a plaque memory of zeros
abbrev pub zero_memory : List ℕ
zero_memory = replicate 16384 0

abbrev pub begun : Machine
begun = fresh_machine zero_memory

abbrev pub with_tag : Reader
with_tag = record { plaque = record { present = true; id = id_a; length = record { 0 = 4 } }; reading = off; report = no_report }

-- a plaque with the bytes 11 22 33 44 is at reader 2; nodes 2, 3 and 32, the words that each holds, and the store are as given
abbrev pub visited : Node × ℕ → Node × ℕ → Node × ℕ → List ℕ → Machine
visited two three hub words = machine
    (record {
      name = fresh_state.name;
      readers = fresh_reader ∷ with_tag ∷ replicate 14 fresh_reader;
      nodes = fresh_node ∷ two.0 ∷ three.0 ∷ (replicate 13 fresh_node ++ (hub.0 ∷ []));
      held = nothing ∷ record { 0 = two.1 } ∷ record { 0 = three.1 } ∷ (replicate 13 nothing ++ (record { 0 = hub.1 } ∷ []));
    })
    words (replicate 1024 0 ++ (0x11 ∷ 0x22 ∷ 0x33 ∷ 0x44 ∷ replicate 15356 0))

-- node 3 has no plaque: "Tag Not Found"
abbrev pub not_found : List ℕ
not_found = 0x0007 ∷ 0xFFFF ∷ 0x0003 ∷ 0x0313 ∷ 0x0A0B ∷ 0x2401 ∷ 0x0700 ∷ []

-- the four bytes read
abbrev pub four_bytes : List ℕ
four_bytes = 0x0008 ∷ 0xAA05 ∷ 0x0002 ∷ 0x0313 ∷ 0x0A0B ∷ 0x2404 ∷ 0x1122 ∷ 0x3344 ∷ []

-- the answer to 79
abbrev pub all_cleared : List ℕ
all_cleared = 0x0006 ∷ 0xAA79 ∷ 0x0020 ∷ 0x0313 ∷ 0x0A0B ∷ 0x2400 ∷ []

-- a node that has made one answer, which is pending with so many words, and has handover number 1
abbrev pub holding : ℕ → Node × ℕ
holding words = (record { instance = 1; handover = 1; answers = 1 }, words)

-- one that has made one answer, which is gone, so that it has number 2; one that has made none
abbrev pub relieved : Node × ℕ
relieved = (record { instance = 1; handover = 2; answers = 0 }, 0)

abbrev pub silent : Node × ℕ
silent = (fresh_node, 0)

abbrev pub heard : Call → Said → Machine → Exchange
heard c s m = record { call = c; said = s; after = m }

-- ---- a plaque arrives at reader 2; a search at reader 3 finds none; the plaque is read; there is none to leave reader 3 (14); the answer
-- is collected in framed form, and acknowledged; 79 clears what is pending at node 3
abbrev pub with_plaque : Machine
with_plaque = visited silent silent silent zero_store

abbrev pub with_not_found : Machine
with_not_found = visited silent (holding 7) silent (not_found ++ replicate 4089 0)

abbrev pub with_both : Machine
with_both = visited (holding 8) (holding 7) silent (four_bytes ++ not_found ++ replicate 4081 0)

abbrev pub with_other : Machine
with_other = visited relieved (holding 7) silent (not_found ++ replicate 4089 0)

unfoldable pub visit : List Exchange
visit =
    heard (arrive 2 id_a (0x11 ∷ 0x22 ∷ 0x33 ∷ 0x44 ∷ [])) (answered done) with_plaque
    ∷ heard (cmd (search 3)) queued with_not_found
    ∷ heard (cmd (reads 2 0 4)) queued with_both
    ∷ heard (leave 3) (refused 14) with_both
    ∷ heard (collect Framed 2 134) (answered (handed (0xFF02 ∷ four_bytes) 1)) with_both
    ∷ heard (acknowledge 2 1) (answered done) with_other
    ∷ heard (cmd clears) queued (visited relieved relieved (holding 6) (all_cleared ++ replicate 4090 0))
    ∷ []

-- the same without the two calls for reader 3: node 3 is as it was, and has no words in the store
abbrev pub with_four : Machine
with_four = visited (holding 8) silent silent (four_bytes ++ replicate 4088 0)

abbrev pub with_none : Machine
with_none = visited relieved silent silent zero_store

unfoldable pub visit_alone : List Exchange
visit_alone =
    heard (arrive 2 id_a (0x11 ∷ 0x22 ∷ 0x33 ∷ 0x44 ∷ [])) (answered done) with_plaque
    ∷ heard (cmd (reads 2 0 4)) queued with_four
    ∷ heard (collect Framed 2 134) (answered (handed (0xFF02 ∷ four_bytes) 1)) with_four
    ∷ heard (acknowledge 2 1) (answered done) with_none
    ∷ heard (cmd clears) queued (visited relieved silent (holding 6) (all_cleared ++ replicate 4090 0))
    ∷ []

-- ---- a crowd: a plaque of 255 bytes arrives at readers 3, 4 and 5; six answers of 134 words each fill nodes 3 and 4 to 804; node 5 comes
-- to 612; then the 17 charges add to 4,096
abbrev pub long : ℕ → Call
long n = cmd (reads n 0 255)

unfoldable pub crowding : List Call
crowding =
    arrive 3 id_a (replicate 255 0x33) ∷ arrive 4 id_a (replicate 255 0x44) ∷ arrive 5 id_a (replicate 255 0x55) ∷
    (replicate 6 (long 3) ++ replicate 6 (long 4) ++ replicate 4 (long 5) ++ (cmd (reads 5 0 140) ∷ []))

-- the answer to reader 1's: Overall Length 134, 255 bytes
abbrev pub longest : List ℕ
longest = 0x0086 ∷ 0xAA05 ∷ 0x0001 ∷ 0x0313 ∷ 0x0A0B ∷ 0x24FF ∷ (replicate 127 0x1111 ++ (0x1100 ∷ []))

-- what comes after: nodes 3 and 5 are refused room, and reader 1 works on up to its whole share
unfoldable pub going_on : List Call
going_on =
    cmd (search 3) ∷ cmd (search 5) ∷ arrive 1 id_a (replicate 255 0x11) ∷ long 1 ∷ collect Register 1 134 ∷ acknowledge 1 1 ∷ cmd (search 1)
    ∷ cmd gets_name ∷ leave 4 ∷ []

abbrev pub going_on_said : List Said
going_on_said =
    refused 13 ∷ refused 13 ∷ answered done ∷ queued ∷ answered (handed longest 1) ∷ answered done ∷ queued ∷ queued ∷ answered done ∷ []

-- where it starts, and what it comes to before reader 1 has done anything
abbrev pub crowd_start : Gateway
crowd_start = fresh (region_of full zero_memory)

abbrev pub crowd : Gateway
crowd = run full crowd_start crowding

-- two chains of the code from a fresh machine: one of these calls, and one without those for readers 3 to 5. Reader 1's lines are the
-- same in both, and so is its part at the end
pub record Crowded : Type 0 where
  pub among : List Exchange
  pub alone : List Exchange
  pub calls_among : calls among ≡ crowding ++ going_on
  pub calls_alone : calls alone ≡ struck full 1 (crowding ++ going_on)
  pub chain_among : Chain full begun among
  pub chain_alone : Chain full begun alone
  pub same_lines : kept (λ l. stays full 1 l.call) (lines full 1 among) ≡ lines full 1 alone
  pub same_end : Same 1 (reached zero_memory among) (reached zero_memory alone)
