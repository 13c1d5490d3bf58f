-- Closed cases of a state with places. Refusals 1 and 2 by what is lent and by the lists: machines, and the number that each is refused
-- with, 0 for none; for each clause one that is refused and its nearest neighbour that is not. And what the answers mean. (Readers and
-- names are judged by the definitions of the state without places and have their cases there; here stands that they are judged.)
-- Assumes nothing.
use Rattle.std.specs.Prelude.{ℕ, ◌+◌, ◌-◌, Bool, ◌&&◌, List, [], ◌∷◌, ◌++◌, eqb, length, take, set, replicate}
use Rattle.std.proofs.Math.Seq.{paste}
use Rattle.meaning.specs.Bench.{full}
use Rattle.meaning.specs.Call.{same}
use Rattle.meaning.specs.Cases.{Case, ◌says◌, hex}
use Rattle.meaning.specs.Gateway as M
use Rattle.state.specs.State.{fresh_reader, no_plaque, no_report}
use Rattle.placed.specs.State.{fresh_node, fresh_state}
use Rattle.placed.specs.Machine.{Machine, machine, meaning}
use Rattle.placed.specs.Consistent.{unfit}
use Rattle.placed.specs.declared.Node.{Node}
use Rattle.placed.specs.declared.State.{State}

infix 80 ◌gives◌
abbrev pub ◌gives◌ : Machine → ℕ → Bool
m gives k = eqb (unfit full m) k

-- ---- machines: a fresh one, but for what is named
abbrev pub lent : ℕ → ℕ → Machine
lent words room = machine fresh_state (replicate words 0) (replicate room 0)

abbrev pub fresh : Machine
fresh = lent 4096 16384

abbrev pub stated : State → Machine
stated s = machine s (replicate 4096 0) (replicate 16384 0)

-- its name: a length, and the bytes that it has place for
abbrev pub called : ℕ → List ℕ → Machine
called k bs =
    stated (record { name = record { length = record { 0 = k }; bytes = bs }; readers = fresh_state.readers; nodes = fresh_state.nodes })

-- the words from a place of the store on
abbrev pub laid : ℕ → List ℕ → Machine → Machine
laid p ws m = machine m.state (paste m.store p ws (length ws)) m.memory

-- a node, by its slot: nodes 1 to 16 have slots 0 to 15, and node 32 has 16
abbrev pub noded : ℕ → Node → Machine → Machine
noded i n m =
    machine (record { name = m.state.name; readers = m.state.readers; nodes = set m.state.nodes i n }) m.store m.memory

abbrev pub numbered : ℕ → ℕ → Machine
numbered i h = noded i (record { instance = 0; handover = h; list = fresh_node.list }) fresh

-- a node's list: how many answers, where the oldest begins, how many words
abbrev pub listed : ℕ → ℕ → ℕ → ℕ → Machine → Machine
listed i k p w m = noded i (record { instance = 0; handover = 1; list = record { count = k; place = p; words = record { 0 = w } } }) m

-- an answer alone in the list of a slot's node, from a place on
abbrev pub alone : ℕ → ℕ → List ℕ → Machine → Machine
alone i p ws m = listed i 1 p (length ws) (laid p ws m)

-- ---- answers: a node's of 6 words; its longest; one with so many bytes of data that they make a whole count of words
abbrev pub found : ℕ → List ℕ
found n = 0x0006 ∷ 0xAA08 ∷ n ∷ 0x0101 ∷ 0x0000 ∷ 0x0000 ∷ []

abbrev pub longest : ℕ → List ℕ
longest n = 0x0086 ∷ 0xAA05 ∷ n ∷ 0x0101 ∷ 0x0000 ∷ 0x00FF ∷ replicate 128 0

abbrev pub answer : ℕ → ℕ → List ℕ
answer n words = (6 + words) ∷ 0xAA05 ∷ n ∷ 0x0101 ∷ 0x0000 ∷ (words + words) ∷ replicate words 0x4142

-- 536, 670 and 804 words of one node
abbrev pub four : ℕ → List ℕ
four n = longest n ++ longest n ++ longest n ++ longest n

abbrev pub five : ℕ → List ℕ
five n = longest n ++ four n

abbrev pub six : ℕ → List ℕ
six n = longest n ++ five n

-- a store that begins with these words
abbrev pub filled : List ℕ → Machine
filled ws = machine fresh_state (ws ++ replicate (4096 - length ws) 0) (replicate 16384 0)

-- three nodes, by their slots, the last one's number too: two hold 804 words, the third 536 and an answer more, with so many words of data
abbrev pub crowd : ℕ → ℕ → ℕ → ℕ → ℕ → Machine
crowd i j k n words =
    listed i 6 0 804 (listed j 6 804 804 (listed k 5 1608 (542 + words)
    (filled (six (i + 1) ++ six (j + 1) ++ four n ++ answer n words))))

-- ---- "1: store or plaque memory of another length"
unfoldable pub lent_cases : List Case
lent_cases =
    "a fresh state, 4,096 words and 16,384 bytes" says fresh gives 0
    ∷ "4,095 words" says lent 4095 16384 gives 1
    ∷ "4,097 words" says lent 4097 16384 gives 1
    ∷ "16,383 bytes" says lent 4096 16383 gives 1
    ∷ "16,385 bytes" says lent 4096 16385 gives 1
    ∷ "no words" says lent 0 16384 gives 1
    ∷ "no bytes" says lent 4096 0 gives 1
    ∷ "1 before 2, by the words" says machine (numbered 0 0).state (replicate 4095 0) (replicate 16384 0) gives 1
    ∷ "1 before 2, by the bytes" says machine (numbered 0 0).state (replicate 4096 0) (replicate 16385 0) gives 1
    ∷ "words in no answer may be any" says machine fresh_state (replicate 4096 0xFFFF) (replicate 16384 0) gives 0
    ∷ "bytes in no plaque may be any" says machine fresh_state (replicate 4096 0) (replicate 16384 0xFF) gives 0
    ∷ []

-- ---- "every pending answer a well-formed register-form response of its node inside the store"
unfoldable pub answer_cases : List Case
answer_cases =
    "an answer of node 1" says alone 0 0 (found 1) fresh gives 0
    ∷ "an answer of node 8" says alone 7 100 (found 8) fresh gives 0
    ∷ "an answer of node 16" says alone 15 100 (found 16) fresh gives 0
    ∷ "an answer of node 32" says alone 16 100 (found 32) fresh gives 0
    ∷ "node 2's in the list of node 1" says alone 0 0 (found 2) fresh gives 2
    ∷ "node 7's in the list of node 8" says alone 7 100 (found 7) fresh gives 2
    ∷ "node 32's in the list of node 16" says alone 15 100 (found 32) fresh gives 2
    ∷ "node 16's in the list of node 32" says alone 16 100 (found 16) fresh gives 2
    ∷ "node 17's in the list of node 32" says alone 16 100 (found 17) fresh gives 2
    ∷ "node 2's behind one of node 1, in its list" says listed 0 2 0 12 (laid 0 (found 1 ++ found 2) fresh) gives 2
    ∷ "H-2 any echo, and any count" says alone 7 100 (hex "0006 AA99 C808 0101 0000 0000") fresh gives 0
    ∷ "H-2 counts that do not run on" says
    listed 7 2 100 12 (laid 100 (hex "0006 AA08 0508 0101 0000 0000 0006 AA08 0508 0101 0000 0000") fresh) gives 0
    ∷ "H-2 an error response of any echo and code" says alone 16 100 (hex "0007 FF99 0020 0101 0000 0001 4200") fresh gives 0
    ∷ "what the response reader refuses with 4" says alone 0 100 (hex "0005 AA08 0001 0101 0000") fresh gives 2
    ∷ "what the response reader refuses with 5" says alone 0 100 (hex "0006 AB08 0001 0101 0000 0000") fresh gives 2
    ∷ "what the response reader refuses with 9" says alone 15 100 (hex "0006 AA08 0010 0101 0000 0001") fresh gives 2
    ∷ "what the response reader refuses with 3" says alone 15 100 (hex "0006 AA08 0010 021E 0000 0000") fresh gives 2
    ∷ "what the response reader refuses with 10" says alone 16 100 (hex "0007 FFFF 0020 0101 0000 0002 0700") fresh gives 2
    ∷ "what the response reader refuses with 11" says alone 16 100 (hex "0007 AA11 0020 0101 0000 0001 4142") fresh gives 2
    ∷ "the same with 4, behind an answer that it accepts" says listed 7 2 100 12 (laid 100 (found 8) fresh) gives 2
    ∷ "an answer that ends with the store" says alone 7 4090 (found 8) fresh gives 0
    ∷ "an answer that would end a word behind the store" says
    listed 7 1 4091 6 (machine fresh_state (replicate 4091 0 ++ take 5 (found 8)) (replicate 16384 0)) gives 2
    ∷ "an answer that would begin behind the store" says listed 7 1 4096 0 fresh gives 2
    ∷ "a second answer that would end a word behind the store" says
    listed 16 2 4085 12 (machine fresh_state (replicate 4085 0 ++ found 32 ++ take 5 (found 32)) (replicate 16384 0)) gives 2
    ∷ []

-- ---- "no two sharing a word". The last word of `touching` is the Overall Length of an answer that begins with it
abbrev pub touching : ℕ → List ℕ
touching n = 0x0007 ∷ 0xAA05 ∷ n ∷ 0x0101 ∷ 0x0000 ∷ 0x0002 ∷ 0x0006 ∷ []

-- two answers of node 8 from place 100 on
abbrev pub pair : Machine
pair = listed 7 2 100 13 (laid 100 (found 8 ++ touching 8) fresh)

unfoldable pub sharing_cases : List Case
sharing_cases =
    "the answers of nodes 1 and 2 touch" says alone 1 7 (found 2) (alone 0 0 (touching 1) fresh) gives 0
    ∷ "the answers of nodes 1 and 2 share a word" says alone 1 6 (found 2) (alone 0 0 (touching 1) fresh) gives 2
    ∷ "they touch, node 2's first" says alone 0 7 (found 1) (alone 1 0 (touching 2) fresh) gives 0
    ∷ "they share a word, node 2's first" says alone 0 6 (found 1) (alone 1 0 (touching 2) fresh) gives 2
    ∷ "the answers of nodes 16 and 32 touch" says alone 16 107 (found 32) (alone 15 100 (touching 16) fresh) gives 0
    ∷ "the answers of nodes 16 and 32 share a word" says alone 16 106 (found 32) (alone 15 100 (touching 16) fresh) gives 2
    ∷ "the answers of nodes 1 and 32 share a word, with one between" says
    alone 16 6 (found 32) (alone 7 200 (found 8) (alone 0 0 (touching 1) fresh)) gives 2
    ∷ "the second answer of a list and another list's touch" says alone 8 113 (found 9) pair gives 0
    ∷ "the second answer of a list and another list's share a word" says alone 8 112 (found 9) pair gives 2
    ∷ "node 2's answer within the data of node 1's" says
    listed 0 1 0 12 (listed 1 1 6 6 (laid 0 (hex "000C AA05 0001 0101 0000 000C 0006 AA08 0002 0101 0000 0000") fresh)) gives 2
    ∷ "node 1's answer within the data of node 2's" says
    listed 1 1 0 12 (listed 0 1 6 6 (laid 0 (hex "000C AA05 0002 0101 0000 000C 0006 AA08 0001 0101 0000 0000") fresh)) gives 2
    ∷ []

-- ---- the list's own counts
unfoldable pub count_cases : List Case
count_cases =
    "two answers of 6 words" says listed 0 2 50 12 (laid 50 (found 1 ++ found 1) fresh) gives 0
    ∷ "two answers, a word fewer" says listed 0 2 50 11 (laid 50 (found 1 ++ found 1) fresh) gives 2
    ∷ "two answers, a word more" says listed 0 2 50 13 (laid 50 (found 1 ++ found 1) fresh) gives 2
    ∷ "two answers, one counted, the words of both" says listed 0 1 50 12 (laid 50 (found 1 ++ found 1) fresh) gives 2
    ∷ "two answers, one counted, with its words" says listed 0 1 50 6 (laid 50 (found 1 ++ found 1) fresh) gives 0
    ∷ "two answers, three counted" says listed 0 3 50 12 (laid 50 (found 1 ++ found 1) fresh) gives 2
    ∷ "a word fewer at node 16" says listed 15 1 50 5 (laid 50 (found 16) fresh) gives 2
    ∷ "a word more at node 32" says listed 16 1 50 7 (laid 50 (found 32) fresh) gives 2
    ∷ "no answer and a word, at node 1" says listed 0 0 0 1 fresh gives 2
    ∷ "no answer and a word, at node 32" says listed 16 0 0 1 fresh gives 2
    ∷ "H-4 no answer at place 1, node 1" says listed 0 0 1 0 fresh gives 2
    ∷ "H-4 no answer at place 1, node 16" says listed 15 0 1 0 fresh gives 2
    ∷ "H-4 no answer at place 1, node 32" says listed 16 0 1 0 fresh gives 2
    ∷ "an answer at place 1" says alone 16 1 (found 32) fresh gives 0
    ∷ []

-- ---- "both bounds met": 5 · 134 + 128 + 6 is 804, and a word more of data makes 805
unfoldable pub bound_cases : List Case
bound_cases =
    "node 1 holds 804" says listed 0 7 0 804 (filled (five 1 ++ answer 1 122 ++ found 1)) gives 0
    ∷ "node 1 holds 805" says listed 0 7 0 805 (filled (five 1 ++ answer 1 123 ++ found 1)) gives 2
    ∷ "node 16 holds 805" says listed 15 7 0 805 (filled (five 16 ++ answer 16 123 ++ found 16)) gives 2
    ∷ "node 32 holds 804" says listed 16 6 0 804 (filled (six 32)) gives 0
    ∷ "node 32 holds 805" says listed 16 7 0 805 (filled (five 32 ++ answer 32 123 ++ found 32)) gives 2
    ∷ "the paper's 804, 804 and 612" says crowd 2 3 4 5 70 gives 0
    ∷ "804, 804 and 613" says crowd 2 3 4 5 71 gives 2
    ∷ "804 at nodes 1 and 16, 612 at node 32" says crowd 0 15 16 32 70 gives 0
    ∷ "804 at nodes 1 and 16, 613 at node 32" says crowd 0 15 16 32 71 gives 2
    ∷ []

-- ---- numbers and lengths that this definition judges itself
unfoldable pub node_cases : List Case
node_cases =
    "handover number 0 at node 1" says numbered 0 0 gives 2
    ∷ "handover number 0 at node 8" says numbered 7 0 gives 2
    ∷ "handover number 0 at node 16" says numbered 15 0 gives 2
    ∷ "handover number 0 at node 32" says numbered 16 0 gives 2
    ∷ "handover number 1" says numbered 7 1 gives 0
    ∷ "handover number 65,535" says numbered 16 65535 gives 0
    ∷ "any instance count" says noded 7 (record { instance = 255; handover = 1; list = fresh_node.list }) fresh gives 0
    ∷ []

-- a reader, by its node, that reads so many bytes
abbrev pub reads : ℕ → ℕ → Machine
reads n k =
    stated (record {
      name = fresh_state.name;
      readers = set fresh_state.readers (n - 1) (record {
        plaque = no_plaque;
        reading = record { start = 0; size = record { 0 = k }; delay = 0 };
        report = no_report;
      });
      nodes = fresh_state.nodes;
    })

abbrev pub arrayed : ℕ → ℕ → Machine
arrayed readers nodes =
    stated (record { name = fresh_state.name; readers = replicate readers fresh_reader; nodes = replicate nodes fresh_node })

unfoldable pub other_cases : List Case
other_cases =
    "reading 255 bytes at node 1" says reads 1 255 gives 0
    ∷ "reading 256 bytes at node 1" says reads 1 256 gives 2
    ∷ "reading 256 bytes at node 16" says reads 16 256 gives 2
    ∷ "a name of 64 bytes" says called 64 (replicate 64 0x41) gives 0
    ∷ "a name of 65 bytes" says called 65 (replicate 64 0x41) gives 2
    ∷ "15 readers" says arrayed 15 17 gives 2
    ∷ "17 readers" says arrayed 17 17 gives 2
    ∷ "16 nodes" says arrayed 16 16 gives 2
    ∷ "18 nodes" says arrayed 16 18 gives 2
    ∷ "63 bytes for the name" says called 0 (replicate 63 0) gives 2
    ∷ "65 bytes for the name" says called 0 (replicate 65 0) gives 2
    ∷ []

unfoldable pub state_cases : List Case
state_cases = lent_cases ++ answer_cases ++ sharing_cases ++ count_cases ++ bound_cases ++ node_cases ++ other_cases

-- ---- what a machine means. Nodes 8 and 32 have answers, and node 32's lie first
abbrev pub held : Machine
held =
    noded 7 (record { instance = 5; handover = 9; list = record { count = 2; place = 100; words = record { 0 = 13 } } })
    (noded 16 (record { instance = 6; handover = 10; list = record { count = 1; place = 0; words = record { 0 = 6 } } })
    (noded 15 (record { instance = 7; handover = 11; list = fresh_node.list })
    (noded 0 (record { instance = 8; handover = 12; list = fresh_node.list })
    (laid 100 (hex "0007 AA05 0008 0101 0000 0002 4142" ++ found 8) (laid 0 (found 32) fresh)))))

abbrev pub seen_at : Machine → ℕ → M.Node
seen_at m n = (meaning full m).nodes n

abbrev pub counts : Machine → ℕ → ℕ → ℕ → Bool
counts m n count handover = eqb (seen_at m n).count count && eqb (seen_at m n).handover handover

unfoldable pub flat : List (List ℕ) → List ℕ
flat [] = []
flat (ws ∷ wss) = length ws ∷ ws ++ flat wss

abbrev pub holds : Machine → ℕ → List (List ℕ) → Bool
holds m n wss = same (flat (seen_at m n).pending) (flat wss)

abbrev pub region_is : Machine → ℕ → List ℕ → Bool
region_is m n s = same ((meaning full m).reader n).region s

unfoldable pub machine_cases : List Case
machine_cases =
    "a fresh state: no name" says same (meaning full fresh).name []
    ∷ "instance count 0 and handover number 1, node 1" says counts fresh 1 0 1
    ∷ "instance count 0 and handover number 1, node 32" says counts fresh 32 0 1
    ∷ "no pending answer, node 1" says holds fresh 1 []
    ∷ "no pending answer, node 32" says holds fresh 32 []
    ∷ "node 1's count and number" says counts held 1 8 12
    ∷ "node 8's count and number" says counts held 8 5 9
    ∷ "node 16's count and number" says counts held 16 7 11
    ∷ "node 32's count and number, the last of all" says counts held 32 6 10
    ∷ "node 17 is none, and holds nothing" says counts held 17 0 1
    ∷ "node 0 is none" says counts held 0 0 1
    ∷ "node 33 is none" says counts held 33 0 1
    ∷ "node 8's answers, one behind the other" says holds held 8 (hex "0007 AA05 0008 0101 0000 0002 4142" ∷ found 8 ∷ [])
    ∷ "node 32's answer, though it lies before node 8's" says holds held 32 (found 32 ∷ [])
    ∷ "node 1's answers" says holds held 1 []
    ∷ "the name, without the bytes past its end" says same (meaning full (called 2 (replicate 64 0x41))).name (replicate 2 0x41)
    ∷ "reader 2's region" says
    region_is (machine fresh_state [] (replicate 1024 1 ++ replicate 1024 2 ++ replicate 14336 3)) 2 (replicate 1024 2)
    ∷ []
