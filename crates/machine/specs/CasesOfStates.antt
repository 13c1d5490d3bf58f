-- Closed cases of refusals 1 and 2: machines, and the number that each is refused with, 0 for none. For each clause of "Room" and of
-- request E8 stands one that is refused and its nearest neighbour that is not; the faults stand at the first, a middle and the last reader
-- or node in turn.
-- Assumes nothing.
use Rattle.std.specs.Prelude.{ℕ, zero, suc, ◌+◌, ◌-◌, Bool, true, false, List, [], ◌∷◌, ◌++◌, eqb, length, take, set, replicate}
use Rattle.units.specs.declared.Words.{Words}
use Rattle.meaning.specs.Bench.{full}
use Rattle.meaning.specs.Cases.{Case, ◌says◌, hex, bytes}
use Rattle.state.specs.State.{fresh_node, fresh_reader, fresh_state, no_plaque, no_report, nothing, off}
use Rattle.machine.specs.Machine.{Machine, machine}
use Rattle.machine.specs.Consistent.{unfit}
use Rattle.state.specs.declared.reader.Reader.{Reader}
use Rattle.state.specs.declared.node.Node.{Node}
use Rattle.state.specs.declared.State.{State}

infix 80 ◌gives◌
abbrev pub ◌gives◌ : Machine → ℕ → Bool
m gives k = eqb (unfit full m) k

-- ---- machines: a fresh one, but for what is named
abbrev pub lent : ℕ → ℕ → Machine
lent words room = machine fresh_state (replicate words 0) (replicate room 0)

abbrev pub fresh : Machine
fresh = lent 4096 16384

abbrev pub stated : State → Machine
stated s = machine s (replicate 4096 0) (replicate 16384 0)

-- its name: a length, and the bytes that it has place for
abbrev pub called : ℕ → List ℕ → Machine
called k bs =
    stated (record {
      name = record { length = record { 0 = k }; bytes = bs };
      readers = fresh_state.readers;
      nodes = fresh_state.nodes;
      held = fresh_state.held;
    })

-- a reader, by its node
abbrev pub read : ℕ → Reader → Machine
read n r =
    stated (record {
      name = fresh_state.name;
      readers = set fresh_state.readers (n - 1) r;
      nodes = fresh_state.nodes;
      held = fresh_state.held;
    })

-- a node with so many answers, and so many words
abbrev pub having : ℕ → Node
having k = record { instance = 0; handover = 1; answers = k }

abbrev pub amount : ℕ → Words
amount w = record { 0 = w }

-- a node and the words that it holds, by its slot: nodes 1 to 16 have slots 0 to 15, and node 32 has 16
abbrev pub noded : ℕ → Node → ℕ → Machine → Machine
noded i n words m =
    machine (record {
      name = m.state.name;
      readers = m.state.readers;
      nodes = set m.state.nodes i n;
      held = set m.state.held i (amount words);
    })
    m.store m.memory

abbrev pub numbered : ℕ → ℕ → Machine
numbered i h = noded i (record { instance = 0; handover = h; answers = 0 }) 0 fresh

-- how many answers of a slot's node are pending, and how many words it holds, as the state counts them
abbrev pub holding : ℕ → ℕ → ℕ → Machine → Machine
holding i k words m = noded i (having k) words m

-- a store that begins with these words
abbrev pub filled : List ℕ → Machine
filled ws = machine fresh_state (ws ++ replicate (4096 - length ws) 0) (replicate 16384 0)

-- so many answers of a slot's node alone, from the front
abbrev pub only : ℕ → ℕ → List ℕ → Machine
only i k ws = holding i k (length ws) (filled ws)

-- one answer of each of two nodes, by their slots, with so many words
abbrev pub both : ℕ → ℕ → ℕ → ℕ → List ℕ → Machine
both i w j v ws = holding i 1 w (holding j 1 v (filled ws))

-- ---- answers: a node's of 6 words; its longest; one with so many bytes of data that they make a whole count of words
abbrev pub found : ℕ → List ℕ
found n = 0x0006 ∷ 0xAA08 ∷ n ∷ 0x0101 ∷ 0x0000 ∷ 0x0000 ∷ []

abbrev pub longest : ℕ → List ℕ
longest n = 0x0086 ∷ 0xAA05 ∷ n ∷ 0x0101 ∷ 0x0000 ∷ 0x00FF ∷ replicate 128 0

abbrev pub answer : ℕ → ℕ → List ℕ
answer n words = (6 + words) ∷ 0xAA05 ∷ n ∷ 0x0101 ∷ 0x0000 ∷ (words + words) ∷ replicate words 0x4142

-- 536, 670 and 804 words of one node
abbrev pub four : ℕ → List ℕ
four n = longest n ++ longest n ++ longest n ++ longest n

abbrev pub five : ℕ → List ℕ
five n = longest n ++ four n

abbrev pub six : ℕ → List ℕ
six n = longest n ++ five n

-- three nodes, by their slots, the last one's number too: two hold 804 words, the third 536 and an answer more, with so many words of data
abbrev pub crowd : ℕ → ℕ → ℕ → ℕ → ℕ → Machine
crowd i j k n words =
    holding i 6 804 (holding j 6 804 (holding k 5 (542 + words)
    (filled (six (i + 1) ++ six (j + 1) ++ four n ++ answer n words))))

-- ---- parts of readers
abbrev pub id : List ℕ
id = bytes "E0040100002E16AD"

abbrev pub none : List ℕ
none = replicate 8 0

-- a plaque alone, continuous reading alone, reading with a report
abbrev pub tagged : Bool → List ℕ → ℕ → Reader
tagged there i k = record { plaque = record { present = there; id = i; length = record { 0 = k } }; reading = off; report = no_report }

abbrev pub going : ℕ → ℕ → ℕ → Reader
going start size delay =
    record { plaque = no_plaque; reading = record { start = start; size = record { 0 = size }; delay = delay }; report = no_report }

abbrev pub reported : ℕ → Bool → List ℕ → ℕ → Reader
reported size there i c = record {
  plaque = no_plaque;
  reading = record { start = 0; size = record { 0 = size }; delay = 0 };
  report = record { kept = there; id = i; clock = c };
}

-- ---- "1: store or plaque memory of another length"
unfoldable pub lent_cases : List Case
lent_cases =
    "a fresh state, 4,096 words and 16,384 bytes" says fresh gives 0
    ∷ "4,095 words" says lent 4095 16384 gives 1
    ∷ "4,097 words" says lent 4097 16384 gives 1
    ∷ "16,383 bytes" says lent 4096 16383 gives 1
    ∷ "16,385 bytes" says lent 4096 16385 gives 1
    ∷ "no words" says lent 0 16384 gives 1
    ∷ "no bytes" says lent 4096 0 gives 1
    ∷ "1 before 2, by the words" says machine (numbered 0 0).state (replicate 4095 0) (replicate 16384 0) gives 1
    ∷ "1 before 2, by the bytes" says machine (numbered 0 0).state (replicate 4096 0) (replicate 16385 0) gives 1
    ∷ "bytes in no plaque may be any" says machine fresh_state (replicate 4096 0) (replicate 16384 0xFF) gives 0
    ∷ []

-- ---- "every pending answer a well-formed register-form response of its node inside the store"
unfoldable pub answer_cases : List Case
answer_cases =
    "an answer of node 1" says only 0 1 (found 1) gives 0
    ∷ "an answer of node 8" says only 7 1 (found 8) gives 0
    ∷ "an answer of node 16" says only 15 1 (found 16) gives 0
    ∷ "an answer of node 32" says only 16 1 (found 32) gives 0
    ∷ "node 2's in the list of node 1" says only 0 1 (found 2) gives 2
    ∷ "node 7's in the list of node 8" says only 7 1 (found 7) gives 2
    ∷ "node 32's in the list of node 16" says only 15 1 (found 32) gives 2
    ∷ "node 16's in the list of node 32" says only 16 1 (found 16) gives 2
    ∷ "node 17's in the list of node 32" says only 16 1 (found 17) gives 2
    ∷ "node 2's behind one of node 1, in its list" says only 0 2 (found 1 ++ found 2) gives 2
    ∷ "H-2 any echo, and any count" says only 7 1 (hex "0006 AA99 C808 0101 0000 0000") gives 0
    ∷ "H-2 counts that do not run on" says only 7 2 (hex "0006 AA08 0508 0101 0000 0000 0006 AA08 0508 0101 0000 0000") gives 0
    ∷ "H-2 an error response of any echo and code" says only 16 1 (hex "0007 FF99 0020 0101 0000 0001 4200") gives 0
    ∷ "what the response reader refuses with 4" says only 0 1 (hex "0005 AA08 0001 0101 0000") gives 2
    ∷ "what the response reader refuses with 5" says only 0 1 (hex "0006 AB08 0001 0101 0000 0000") gives 2
    ∷ "what the response reader refuses with 9" says only 15 1 (hex "0006 AA08 0010 0101 0000 0001") gives 2
    ∷ "what the response reader refuses with 3" says only 15 1 (hex "0006 AA08 0010 021E 0000 0000") gives 2
    ∷ "what the response reader refuses with 10" says only 16 1 (hex "0007 FFFF 0020 0101 0000 0002 0700") gives 2
    ∷ "what the response reader refuses with 11" says only 16 1 (hex "0007 AA11 0020 0101 0000 0001 4142") gives 2
    ∷ "the same with 4, behind an answer that it accepts" says only 7 2 (found 8 ++ hex "0005 AA08 0008 0101 0000") gives 2
    ∷ []

-- ---- request E8: "node 1's from the front, oldest first, then node 2's, to 16, then 32's, with no gaps"
-- node 1's answer of 8 words and node 2's of 6
abbrev pub eight_and_six : List ℕ → Machine
eight_and_six ws = both 0 8 1 6 ws

unfoldable pub gap_cases : List Case
gap_cases =
    "E8-1 8 words of node 1, 6 of node 2" says eight_and_six (answer 1 2 ++ found 2) gives 0
    ∷ "E8-3 a gap before the first" says eight_and_six (0 ∷ answer 1 2 ++ found 2) gives 2
    ∷ "E8-3 a gap between node 1's and node 2's" says eight_and_six (answer 1 2 ++ (0 ∷ found 2)) gives 2
    ∷ "E8-3 a gap of another word" says eight_and_six (answer 1 2 ++ (1 ∷ found 2)) gives 2
    ∷ "E8-3 a gap as long as an answer" says eight_and_six (answer 1 2 ++ replicate 6 0 ++ found 2) gives 2
    ∷ "two answers of node 1" says only 0 2 (found 1 ++ found 1) gives 0
    ∷ "E8-3 a gap between two answers of node 1" says holding 0 2 12 (filled (found 1 ++ (0 ∷ found 1))) gives 2
    ∷ "E8-3 a gap between two answers of node 32" says holding 16 2 12 (filled (found 32 ++ (0 ∷ found 32))) gives 2
    ∷ "E8-3 node 32's alone, from word 1 on" says holding 16 1 6 (filled (0 ∷ found 32)) gives 2
    ∷ "nodes 16 and 32" says both 15 6 16 6 (found 16 ++ found 32) gives 0
    ∷ "E8-3 a gap between node 16's and node 32's" says both 15 6 16 6 (found 16 ++ (0 ∷ found 32)) gives 2
    ∷ []

unfoldable pub order_cases : List Case
order_cases =
    "E8-3 node 2's before node 1's" says eight_and_six (found 2 ++ answer 1 2) gives 2
    ∷ "E8-3 node 2's before node 1's, of the same length" says both 0 6 1 6 (found 2 ++ found 1) gives 2
    ∷ "E8-10 node 1's, then node 32's" says both 0 6 16 6 (found 1 ++ found 32) gives 0
    ∷ "E8-10 node 32's, made before node 1's, before it" says both 0 6 16 6 (found 32 ++ found 1) gives 2
    ∷ "node 32's before node 16's" says both 15 6 16 6 (found 32 ++ found 16) gives 2
    ∷ "node 1's two, then node 2's" says holding 0 2 14 (holding 1 1 6 (filled (found 1 ++ answer 1 2 ++ found 2))) gives 0
    ∷ "node 1's two, node 2's between" says holding 0 2 14 (holding 1 1 6 (filled (found 1 ++ found 2 ++ answer 1 2))) gives 2
    ∷ "node 1's two, node 2's before" says holding 0 2 14 (holding 1 1 6 (filled (found 2 ++ found 1 ++ answer 1 2))) gives 2
    ∷ "nodes 1, 8, 16 and 32" says
    holding 0 1 6 (holding 7 1 8 (holding 15 1 6 (holding 16 1 7 (filled (found 1 ++ answer 8 2 ++ found 16 ++ answer 32 1))))) gives 0
    ∷ "nodes 1, 16, 8 and 32" says
    holding 0 1 6 (holding 7 1 8 (holding 15 1 6 (holding 16 1 7 (filled (found 1 ++ found 16 ++ answer 8 2 ++ answer 32 1))))) gives 2
    ∷ []

-- ---- "no two sharing a word". The last word of `touching` is the Overall Length of an answer that begins with it
abbrev pub touching : ℕ → List ℕ
touching n = 0x0007 ∷ 0xAA05 ∷ n ∷ 0x0101 ∷ 0x0000 ∷ 0x0002 ∷ 0x0006 ∷ []

-- such an answer of n, and one of k that shares its last word
abbrev pub shared : ℕ → ℕ → List ℕ
shared n k = take 6 (touching n) ++ found k

unfoldable pub sharing_cases : List Case
sharing_cases =
    "the answers of nodes 1 and 2 touch" says both 0 7 1 6 (touching 1 ++ found 2) gives 0
    ∷ "the answers of nodes 1 and 2 share a word" says both 0 7 1 6 (shared 1 2) gives 2
    ∷ "the answers of nodes 16 and 32 touch" says both 15 7 16 6 (touching 16 ++ found 32) gives 0
    ∷ "the answers of nodes 16 and 32 share a word" says both 15 7 16 6 (shared 16 32) gives 2
    ∷ "two answers of node 8 touch" says only 7 2 (touching 8 ++ found 8) gives 0
    ∷ "two answers of node 8 share a word" says holding 7 2 13 (filled (shared 8 8)) gives 2
    ∷ "node 2's answer within the data of node 1's" says
    both 0 12 1 6 (hex "000C AA05 0001 0101 0000 000C 0006 AA08 0002 0101 0000 0000") gives 2
    ∷ "node 1's answer within the data of node 2's" says
    both 0 6 1 12 (hex "000C AA05 0002 0101 0000 000C 0006 AA08 0001 0101 0000 0000") gives 2
    ∷ []

-- ---- request E8: "Words after the last answer are 0"
unfoldable pub tail_cases : List Case
tail_cases =
    "E8-4 a fresh state, store word 0 is 1" says filled (1 ∷ []) gives 2
    ∷ "E8-4 a fresh state, store word 4,095 is 1" says filled (replicate 4095 0 ++ (1 ∷ [])) gives 2
    ∷ "E8-4 a fresh state, and every word 0xFFFF" says machine fresh_state (replicate 4096 0xFFFF) (replicate 16384 0) gives 2
    ∷ "E8-1 a word right behind the last answer" says eight_and_six (answer 1 2 ++ found 2 ++ (1 ∷ [])) gives 2
    ∷ "E8-1 a word a gap behind the last answer" says eight_and_six (answer 1 2 ++ found 2 ++ (0 ∷ 0xFFFF ∷ [])) gives 2
    ∷ "E8-1 the store's last word" says eight_and_six (answer 1 2 ++ found 2 ++ replicate 4081 0 ++ (1 ∷ [])) gives 2
    ∷ "a word right behind node 32's" says holding 16 1 6 (filled (found 32 ++ (0x0006 ∷ []))) gives 2
    ∷ "node 1's oldest acknowledged, its words still there" says holding 0 1 6 (filled (found 1 ++ found 1)) gives 2
    ∷ "node 2's answer cleared, its words still there" says holding 0 1 8 (filled (answer 1 2 ++ found 2)) gives 2
    ∷ "an answer, and none counted" says filled (found 1) gives 2
    ∷ "an answer that is not counted, between two that are" says both 0 6 2 6 (found 1 ++ found 2 ++ found 3) gives 2
    ∷ []

-- ---- the counts of answers and of words, one for each node
unfoldable pub count_cases : List Case
count_cases =
    "two answers of node 1, a word fewer" says holding 0 2 11 (filled (found 1 ++ found 1)) gives 2
    ∷ "two answers of node 1, a word more" says holding 0 2 13 (filled (found 1 ++ found 1)) gives 2
    ∷ "two answers, one counted, the words of both" says holding 0 1 12 (filled (found 1 ++ found 1)) gives 2
    ∷ "two answers, three counted" says holding 0 3 12 (filled (found 1 ++ found 1)) gives 2
    ∷ "two answers, three counted, with words for three" says holding 0 3 18 (filled (found 1 ++ found 1)) gives 2
    ∷ "a word fewer at node 16" says holding 15 1 5 (filled (found 16)) gives 2
    ∷ "a word more at node 16" says holding 15 1 7 (filled (found 16)) gives 2
    ∷ "a word fewer at node 32" says holding 16 1 5 (filled (found 32)) gives 2
    ∷ "a word more at node 32" says holding 16 1 7 (filled (found 32)) gives 2
    ∷ "no word counted" says holding 7 1 0 (filled (found 8)) gives 2
    ∷ "no answer and a word, at node 1" says holding 0 0 1 fresh gives 2
    ∷ "no answer and a word, at node 32" says holding 16 0 1 fresh gives 2
    ∷ "an answer and no word, at node 1" says holding 0 1 0 fresh gives 2
    ∷ "an answer and no word, at node 32" says holding 16 1 0 fresh gives 2
    ∷ "a word of node 2's counted at node 1" says both 0 9 1 5 (answer 1 2 ++ found 2) gives 2
    ∷ "a word of node 1's counted at node 2" says both 0 7 1 7 (answer 1 2 ++ found 2) gives 2
    ∷ "node 1's words counted at node 2, and node 2's at node 1" says both 0 6 1 8 (answer 1 2 ++ found 2) gives 2
    ∷ "node 32's words counted at node 16" says holding 15 0 6 (holding 16 1 0 (filled (found 32))) gives 2
    ∷ "node 1's answers counted at node 2, with their words" says holding 0 1 6 (holding 1 1 6 (filled (found 1 ++ found 1))) gives 2
    ∷ []

-- ---- "both bounds met": 5 · 134 + 128 + 6 is 804, and a word more of data makes 805
unfoldable pub bound_cases : List Case
bound_cases =
    "node 1 holds 804" says only 0 7 (five 1 ++ answer 1 122 ++ found 1) gives 0
    ∷ "node 1 holds 805" says only 0 7 (five 1 ++ answer 1 123 ++ found 1) gives 2
    ∷ "node 16 holds 805" says only 15 7 (five 16 ++ answer 16 123 ++ found 16) gives 2
    ∷ "node 32 holds 804" says only 16 6 (six 32) gives 0
    ∷ "node 32 holds 805" says only 16 7 (five 32 ++ answer 32 123 ++ found 32) gives 2
    ∷ "the paper's 804, 804 and 612" says crowd 2 3 4 5 70 gives 0
    ∷ "804, 804 and 613" says crowd 2 3 4 5 71 gives 2
    ∷ "804 at nodes 1 and 16, 612 at node 32" says crowd 0 15 16 32 70 gives 0
    ∷ "804 at nodes 1 and 16, 613 at node 32" says crowd 0 15 16 32 71 gives 2
    ∷ []

-- ---- no word of the store to spare: nodes 1 to 14 hold their shares, node 15 holds 804 words, node 16 holds 612, and node 32 holds 804
-- the longest answer of each of nodes 1 to n
abbrev pub shares : ℕ → List ℕ
shares zero = []
shares (suc n) = shares n ++ longest (suc n)

-- by how many answers of node 32 are counted, how many words, and the words that stand last in the store
abbrev pub brim : ℕ → ℕ → List ℕ → Machine
brim k w ws =
    machine (record {
      name = fresh_state.name;
      readers = fresh_state.readers;
      nodes = replicate 14 (having 1) ++ (having 6 ∷ having 5 ∷ having k ∷ []);
      held = replicate 14 (amount 134) ++ (amount 804 ∷ amount 612 ∷ amount w ∷ []);
    })
    (shares 14 ++ six 15 ++ four 16 ++ answer 16 70 ++ ws) (replicate 16384 0)

-- an answer that the store's end cuts short makes the charges more than 4,096, so it breaks that bound as well
unfoldable pub end_cases : List Case
end_cases =
    "an answer that ends with the store" says brim 6 804 (six 32) gives 0
    ∷ "one of 6 words that does" says brim 7 804 (five 32 ++ answer 32 122 ++ found 32) gives 0
    ∷ "one of 7 words that would end a word behind the store" says brim 7 804 (five 32 ++ answer 32 122 ++ take 6 (answer 32 1)) gives 2
    ∷ "the same, with its word behind the store counted" says brim 7 805 (five 32 ++ answer 32 122 ++ take 6 (answer 32 1)) gives 2
    ∷ "an answer that would begin behind the store" says brim 7 804 (six 32) gives 2
    ∷ "the same, counted with 6 words" says brim 7 810 (six 32) gives 2
    ∷ []

-- ---- "every other field within the limits here, and 0 in each field that has no meaning now": nodes and readers
unfoldable pub node_cases : List Case
node_cases =
    "handover number 0 at node 1" says numbered 0 0 gives 2
    ∷ "handover number 0 at node 8" says numbered 7 0 gives 2
    ∷ "handover number 0 at node 16" says numbered 15 0 gives 2
    ∷ "handover number 0 at node 32" says numbered 16 0 gives 2
    ∷ "handover number 1" says numbered 7 1 gives 0
    ∷ "handover number 65,535" says numbered 16 65535 gives 0
    ∷ "any instance count" says noded 7 (record { instance = 255; handover = 1; answers = 0 }) 0 fresh gives 0
    ∷ []

unfoldable pub plaque_cases : List Case
plaque_cases =
    "a plaque of no byte" says read 1 (tagged true id 0) gives 2
    ∷ "a plaque of 1 byte" says read 1 (tagged true id 1) gives 0
    ∷ "a plaque of 1,024 bytes" says read 8 (tagged true id 1024) gives 0
    ∷ "a plaque of 1,025 bytes" says read 8 (tagged true id 1025) gives 2
    ∷ "a plaque of 1,025 bytes at the last reader" says read 16 (tagged true id 1025) gives 2
    ∷ "a plaque with an ID of eight zeros" says read 16 (tagged true none 1) gives 0
    ∷ "no plaque, and a length" says read 8 (tagged false none 1) gives 2
    ∷ "no plaque, and an ID's first byte" says read 16 (tagged false (bytes "0100000000000000") 0) gives 2
    ∷ "no plaque, and an ID's last byte" says read 1 (tagged false (bytes "0000000000000001") 0) gives 2
    ∷ "no plaque" says read 8 (tagged false none 0) gives 0
    ∷ []

unfoldable pub reading_cases : List Case
reading_cases =
    "reading 255 bytes" says read 8 (going 0 255 0) gives 0
    ∷ "reading 256 bytes" says read 8 (going 0 256 0) gives 2
    ∷ "reading 256 bytes at the last reader" says read 16 (going 0 256 0) gives 2
    ∷ "reading 1 byte" says read 16 (going 0 1 0) gives 0
    ∷ "start + size 1,024" says read 16 (going 769 255 0) gives 0
    ∷ "start + size 1,025" says read 16 (going 770 255 0) gives 2
    ∷ "start 1,023, size 1" says read 1 (going 1023 1 0) gives 0
    ∷ "start 1,024, size 1" says read 1 (going 1024 1 0) gives 2
    ∷ "a delay of 60" says read 8 (going 0 1 60) gives 0
    ∷ "a delay of 61" says read 8 (going 0 1 61) gives 2
    ∷ "a delay of 61 at the first reader" says read 1 (going 0 1 61) gives 2
    ∷ "H-3 off, and a start" says read 16 (going 1 0 0) gives 2
    ∷ "H-3 off, and a delay" says read 8 (going 0 0 1) gives 2
    ∷ "reading past the plaque that is there" says read 8 (record {
      plaque = record { present = true; id = id; length = record { 0 = 1 } };
      reading = record { start = 4; size = record { 0 = 4 }; delay = 0 };
      report = no_report;
    }) gives 0
    ∷ []

unfoldable pub report_cases : List Case
report_cases =
    "a report kept" says read 8 (reported 1 true id 4294967295) gives 0
    ∷ "a report kept, of an ID of zeros at clock 0" says read 1 (reported 1 true none 0) gives 0
    ∷ "H-3 a report kept with reading off" says read 8 (reported 0 true id 5) gives 2
    ∷ "H-3 a report kept with reading off, of zeros" says read 16 (reported 0 true none 0) gives 2
    ∷ "no report, and an ID's first byte" says read 16 (reported 1 false (bytes "0100000000000000") 0) gives 2
    ∷ "no report, and an ID's last byte" says read 1 (reported 1 false (bytes "0000000000000001") 0) gives 2
    ∷ "no report, and a clock" says read 8 (reported 1 false none 1) gives 2
    ∷ "no report, reading off, and an ID" says read 8 (reported 0 false id 0) gives 2
    ∷ "no report, reading off, and a clock" says read 16 (reported 0 false none 1) gives 2
    ∷ []

unfoldable pub name_cases : List Case
name_cases =
    "a name of 64 bytes, any" says called 64 (replicate 63 0xFF ++ (0x00 ∷ [])) gives 0
    ∷ "a name of 65 bytes" says called 65 (replicate 64 0x41) gives 2
    ∷ "a name of 1 byte" says called 1 (0x41 ∷ replicate 63 0) gives 0
    ∷ "a byte behind a name" says called 1 (0x41 ∷ 0x42 ∷ replicate 62 0) gives 2
    ∷ "a byte far behind a name" says called 1 (0x41 ∷ replicate 62 0 ++ (0x42 ∷ [])) gives 2
    ∷ "a byte, and no name" says called 0 (0x41 ∷ replicate 63 0) gives 2
    ∷ "a byte behind a name of 63 bytes" says called 63 (replicate 64 0x41) gives 2
    ∷ []

-- ---- the arrays have their lengths: the readers, the nodes, the nodes' held words
abbrev pub arrayed : ℕ → ℕ → ℕ → Machine
arrayed readers nodes helds =
    stated (record {
      name = fresh_state.name;
      readers = replicate readers fresh_reader;
      nodes = replicate nodes fresh_node;
      held = replicate helds nothing;
    })

unfoldable pub array_cases : List Case
array_cases =
    "15 readers" says arrayed 15 17 17 gives 2
    ∷ "17 readers" says arrayed 17 17 17 gives 2
    ∷ "16 nodes" says arrayed 16 16 17 gives 2
    ∷ "18 nodes" says arrayed 16 18 17 gives 2
    ∷ "16 counts of held words" says arrayed 16 17 16 gives 2
    ∷ "18 counts of held words" says arrayed 16 17 18 gives 2
    ∷ "16 nodes, and as many counts" says arrayed 16 16 16 gives 2
    ∷ "18 nodes, and as many counts" says arrayed 16 18 18 gives 2
    ∷ "63 bytes for the name" says called 0 (replicate 63 0) gives 2
    ∷ "65 bytes for the name" says called 0 (replicate 65 0) gives 2
    ∷ "an ID of 7 bytes" says read 8 (tagged true (replicate 7 1) 1) gives 2
    ∷ "an ID of 9 bytes" says read 8 (tagged true (replicate 9 1) 1) gives 2
    ∷ "the ID of a report, of 7 bytes" says read 8 (reported 1 true (replicate 7 1) 0) gives 2
    ∷ "the ID of a report, of 9 bytes" says read 8 (reported 1 true (replicate 9 1) 0) gives 2
    ∷ []

unfoldable pub state_cases : List Case
state_cases =
    lent_cases ++ answer_cases ++ gap_cases ++ order_cases ++ sharing_cases ++ tail_cases ++ count_cases ++ bound_cases ++ end_cases ++ node_cases
    ++ plaque_cases ++ reading_cases ++ report_cases ++ name_cases ++ array_cases
