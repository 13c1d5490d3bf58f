-- Closed cases of what a machine means: the name, the nodes' counts, numbers and answers, the readers and their regions, each as the
-- gateway of document 01 has it; and of the values that have a name, answers laid and read among them.
-- Assumes nothing.
use Rattle.std.specs.Prelude.{ℕ, zero, suc, Bool, true, false, ◌&&◌, List, [], ◌∷◌, ◌++◌, eqb, length, set, replicate}
use Rattle.meaning.specs.Bench.{full}
use Rattle.meaning.specs.Call.{same}
use Rattle.meaning.specs.Cases.{Case, ◌says◌, bytes}
use Rattle.meaning.specs.Gateway as M
use Rattle.meaning.specs.Gateway.{Field, empty, plaque, Report, never, last, Mode, off, on}
use Rattle.state.specs.State.{fresh_node, fresh_reader, fresh_state, no_plaque, no_report}
use Rattle.state.specs.State.{joined_node, taken_node, emptied_node, reset_node}
use Rattle.machine.specs.Layout.{laid, all_laid, store_of, cuts, past}
use Rattle.machine.specs.Machine.{Machine, machine, node_of, nodes_in, meaning}
use Rattle.machine.specs.Consistent.{counts}
use Rattle.machine.specs.CasesOfStates.{fresh, stated, filled, noded, found, answer}
use Rattle.state.specs.declared.reader.Reader.{Reader}
use Rattle.state.specs.declared.node.Node.{Node}

-- ---- a machine with something in each place
-- regions of readers 1 to n, each all of its node's number
abbrev pub regions : ℕ → List ℕ
regions zero = []
regions (suc n) = regions n ++ replicate 1024 (suc n)

abbrev pub id_a : List ℕ
id_a = bytes "E0040100002E16AD"

abbrev pub id_b : List ℕ
id_b = bytes "0102030405060708"

-- reader 1 reads and has reported nothing; reader 8 has a plaque, reads, and has reported another; reader 16 has a plaque
abbrev pub first : Reader
first = record { plaque = no_plaque; reading = record { start = 4; size = record { 0 = 5 }; delay = 6 }; report = no_report }

abbrev pub eighth : Reader
eighth = record {
  plaque = record { present = true; id = id_a; length = record { 0 = 9 } };
  reading = record { start = 1; size = record { 0 = 2 }; delay = 3 };
  report = record { kept = true; id = id_b; clock = 77 };
}

abbrev pub sixteenth : Reader
sixteenth = record {
  plaque = record { present = true; id = id_b; length = record { 0 = 1 } };
  reading = fresh_reader.reading;
  report = no_report;
}

abbrev pub node : ℕ → ℕ → ℕ → Node
node i h k = record { instance = i; handover = h; answers = k }

-- nodes 1, 3, 8 and 32 have answers, and nodes 2 and 16 have counts and numbers only
abbrev pub answered : Machine
answered =
    noded 0 (node 8 12 2) 14 (noded 1 (node 4 13 0) 0 (noded 2 (node 3 14 1) 6 (noded 7 (node 5 9 2) 13 (noded 15 (node 7 11 0) 0
    (noded 16 (node 6 10 1) 6 (filled (answer 1 2 ++ found 1 ++ found 3 ++ answer 8 1 ++ found 8 ++ found 32)))))))

abbrev pub busy : Machine
busy =
    machine (record {
      name = record { length = record { 0 = 3 }; bytes = bytes "414243" ++ replicate 61 0 };
      readers = set (set (set fresh_state.readers 0 first) 7 eighth) 15 sixteenth;
      nodes = answered.state.nodes;
      held = answered.state.held;
    })
    answered.store (regions 16)

-- so many readers, each with a plaque
abbrev pub readers : ℕ → Machine
readers k =
    stated (record {
      name = fresh_state.name;
      readers = replicate k sixteenth;
      nodes = fresh_state.nodes;
      held = fresh_state.held;
    })

-- ---- what is looked at, as numbers
abbrev pub seen_at : Machine → ℕ → M.Node
seen_at m n = (meaning full m).nodes n

abbrev pub numbers : Machine → ℕ → ℕ → ℕ → Bool
numbers m n count handover = eqb (seen_at m n).count count && eqb (seen_at m n).handover handover

unfoldable pub flat : List (List ℕ) → List ℕ
flat [] = []
flat (ws ∷ wss) = length ws ∷ ws ++ flat wss

infix 80 ◌listsame◌
abbrev pub ◌listsame◌ : List (List ℕ) → List (List ℕ) → Bool
wss listsame vss = same (flat wss) (flat vss)

abbrev pub holds : Machine → ℕ → List (List ℕ) → Bool
holds m n wss = (seen_at m n).pending listsame wss

unfoldable pub in_field : Field → List ℕ
in_field empty = []
in_field (plaque id len) = len ∷ id

unfoldable pub in_report : Report → List ℕ
in_report never = []
in_report (last id clock) = clock ∷ id

unfoldable pub in_mode : Mode → List ℕ
in_mode off = []
in_mode (on start size delay r) = start ∷ size ∷ delay ∷ in_report r

abbrev pub field_is : Machine → ℕ → List ℕ → Bool
field_is m n s = same (in_field ((meaning full m).reader n).field) s

abbrev pub mode_is : Machine → ℕ → List ℕ → Bool
mode_is m n s = same (in_mode ((meaning full m).reader n).mode) s

-- a region of so many bytes, all of them k
abbrev pub region_is : Machine → ℕ → ℕ → ℕ → Bool
region_is m n size k = same ((meaning full m).reader n).region (replicate size k)

unfoldable pub machine_cases : List Case
machine_cases =
    "a fresh state: no name" says same (meaning full fresh).name []
    ∷ "instance count 0 and handover number 1, node 1" says numbers fresh 1 0 1
    ∷ "instance count 0 and handover number 1, node 16" says numbers fresh 16 0 1
    ∷ "instance count 0 and handover number 1, node 32" says numbers fresh 32 0 1
    ∷ "no pending answer, node 1" says holds fresh 1 []
    ∷ "no pending answer, node 32" says holds fresh 32 []
    ∷ "no plaque" says field_is fresh 1 []
    ∷ "no continuous reading" says mode_is fresh 1 []
    ∷ "the name, without the bytes past its end" says same (meaning full busy).name (bytes "414243")
    ∷ "node 1's count and number" says numbers busy 1 8 12
    ∷ "node 2's count and number" says numbers busy 2 4 13
    ∷ "node 8's count and number" says numbers busy 8 5 9
    ∷ "node 16's count and number" says numbers busy 16 7 11
    ∷ "node 32's count and number, the last of all" says numbers busy 32 6 10
    ∷ "node 17 is none, and holds nothing" says numbers busy 17 0 1
    ∷ "node 0 is none" says numbers busy 0 0 1
    ∷ "node 33 is none" says numbers busy 33 0 1
    ∷ "node 1's answers, from the front, oldest first" says holds busy 1 (answer 1 2 ∷ found 1 ∷ [])
    ∷ "node 2 has none" says holds busy 2 []
    ∷ "node 3's, behind node 1's" says holds busy 3 (found 3 ∷ [])
    ∷ "node 8's, behind node 3's, with none between" says holds busy 8 (answer 8 1 ∷ found 8 ∷ [])
    ∷ "node 16 has none" says holds busy 16 []
    ∷ "node 32's, behind all others" says holds busy 32 (found 32 ∷ [])
    ∷ "node 17 has none" says holds busy 17 []
    ∷ "reader 1 has no plaque" says field_is busy 1 []
    ∷ "reader 8's plaque" says field_is busy 8 (9 ∷ id_a)
    ∷ "reader 16's plaque" says field_is busy 16 (1 ∷ id_b)
    ∷ "reader 17 is none" says field_is busy 17 []
    ∷ "node 32 is no reader, whatever stands behind the sixteenth" says field_is (readers 32) 32 []
    ∷ "node 31 is none" says field_is (readers 32) 31 []
    ∷ "reader 1 reads and has reported nothing" says mode_is busy 1 (4 ∷ 5 ∷ 6 ∷ [])
    ∷ "reader 8 reads and has reported" says mode_is busy 8 (1 ∷ 2 ∷ 3 ∷ 77 ∷ id_b)
    ∷ "reader 16 does not read" says mode_is busy 16 []
    ∷ "1,024 bytes per reader in node order: reader 1's" says region_is busy 1 1024 1
    ∷ "reader 8's" says region_is busy 8 1024 8
    ∷ "reader 16's" says region_is busy 16 1024 16
    ∷ "node 32 has none" says region_is busy 32 0 0
    ∷ []

-- ---- the values that have a name
infix 80 ◌isnode◌
abbrev pub ◌isnode◌ : Node → Node → Bool
n isnode n' = eqb n.instance n'.instance && (eqb n.handover n'.handover && eqb n.answers n'.answers)

unfoldable pub nodes_are : List Node → List Node → Bool
nodes_are [] [] = true
nodes_are [] (n' ∷ ns') = false
nodes_are (n ∷ ns) [] = false
nodes_are (n ∷ ns) (n' ∷ ns') = n isnode n' && nodes_are ns ns'

unfoldable pub value_cases : List Case
value_cases =
    "a node that has made nothing" says fresh_node isnode node 0 1 0
    ∷ "a fresh state has 17 such" says nodes_are fresh_state.nodes (replicate 17 (node 0 1 0))
    ∷ "and each holds no words" says same (counts fresh_state.held) (replicate 17 0)
    ∷ "an answer made: the count and the answers are one more" says joined_node (node 5 9 2) isnode node 6 9 3
    ∷ "the first answer" says joined_node fresh_node isnode node 1 1 1
    ∷ "P10 count 255 then 0" says joined_node (node 255 9 0) isnode node 0 9 1
    ∷ "count 254 then 255" says joined_node (node 254 9 0) isnode node 255 9 1
    ∷ "the oldest acknowledged: the number moves on" says taken_node (node 5 9 2) isnode node 5 10 1
    ∷ "the only one acknowledged" says taken_node (node 5 9 1) isnode node 5 10 0
    ∷ "65,535 is followed by 1" says taken_node (node 5 65535 2) isnode node 5 1 1
    ∷ "65,534 is followed by 65,535" says taken_node (node 5 65534 2) isnode node 5 65535 1
    ∷ "79 at a node with answers" says emptied_node (node 5 9 2) isnode node 5 10 0
    ∷ "79 at a node with one" says emptied_node (node 5 9 1) isnode node 5 10 0
    ∷ "79 at a node with none" says emptied_node (node 5 9 0) isnode node 5 9 0
    ∷ "79, and 65,535 is followed by 1" says emptied_node (node 5 65535 1) isnode node 5 1 0
    ∷ "61 at a node with answers" says reset_node (node 5 9 2) isnode node 0 10 0
    ∷ "61 at a node with none" says reset_node (node 5 9 0) isnode node 0 9 0
    ∷ []

-- ---- answers laid and read, in words that are no packets: each begins with how many there are of it
abbrev pub one : List ℕ
one = 1 ∷ []

abbrev pub two : List ℕ
two = 2 ∷ 7 ∷ []

abbrev pub three : List ℕ
three = 3 ∷ 8 ∷ 9 ∷ []

abbrev pub with : List (List ℕ) → M.Node
with wss = node_of fresh_node wss

-- the answers of each node, and between two nodes a list of no words
unfoldable pub by_node : List M.Node → List (List ℕ)
by_node [] = []
by_node (m ∷ ms) = m.pending ++ ([] ∷ by_node ms)

unfoldable pub layout_cases : List Case
layout_cases =
    "no answer laid" says same (laid []) []
    ∷ "a node's answers, oldest first" says same (laid (two ∷ three ∷ one ∷ [])) (2 ∷ 7 ∷ 3 ∷ 8 ∷ 9 ∷ 1 ∷ [])
    ∷ "no node's answers laid" says same (all_laid []) []
    ∷ "nodes in their order, an empty one between" says
    same (all_laid (with (two ∷ one ∷ []) ∷ with [] ∷ with (three ∷ []) ∷ [])) (2 ∷ 7 ∷ 1 ∷ 3 ∷ 8 ∷ 9 ∷ [])
    ∷ "the store of them: zeros behind the last" says
    same (store_of 9 (with (three ∷ []) ∷ with (two ∷ one ∷ []) ∷ [])) (3 ∷ 8 ∷ 9 ∷ 2 ∷ 7 ∷ 1 ∷ 0 ∷ 0 ∷ 0 ∷ [])
    ∷ "a store that they fill" says same (store_of 5 (with (three ∷ []) ∷ with (two ∷ []) ∷ [])) (3 ∷ 8 ∷ 9 ∷ 2 ∷ 7 ∷ [])
    ∷ "a store of no answers" says same (store_of 3 (with [] ∷ with [] ∷ [])) (0 ∷ 0 ∷ 0 ∷ [])
    ∷ "no answers read" says cuts 0 (2 ∷ 7 ∷ 1 ∷ []) listsame []
    ∷ "one answer read" says cuts 1 (2 ∷ 7 ∷ 1 ∷ []) listsame (two ∷ [])
    ∷ "answers read, each directly behind the one before" says cuts 3 (2 ∷ 7 ∷ 3 ∷ 8 ∷ 9 ∷ 1 ∷ 4 ∷ []) listsame (two ∷ three ∷ one ∷ [])
    ∷ "one that the words' end cuts short" says cuts 2 (1 ∷ 3 ∷ 8 ∷ []) listsame (one ∷ (3 ∷ 8 ∷ []) ∷ [])
    ∷ "one behind the words' end" says cuts 2 (1 ∷ []) listsame (one ∷ [] ∷ [])
    ∷ "the words behind no answers" says same (past 0 (2 ∷ 7 ∷ 1 ∷ [])) (2 ∷ 7 ∷ 1 ∷ [])
    ∷ "the words behind one answer" says same (past 1 (2 ∷ 7 ∷ 1 ∷ [])) (1 ∷ [])
    ∷ "the words behind two" says same (past 2 (2 ∷ 7 ∷ 3 ∷ 8 ∷ 9 ∷ 1 ∷ 4 ∷ [])) (1 ∷ 4 ∷ [])
    ∷ "the words behind one that the words' end cuts short" says same (past 1 (3 ∷ 8 ∷ [])) []
    ∷ "each node's answers, behind those of the nodes before" says
    by_node (nodes_in (2 ∷ 7 ∷ 1 ∷ 3 ∷ 8 ∷ 9 ∷ 0 ∷ []) (node 0 1 2 ∷ node 0 1 0 ∷ node 0 1 1 ∷ []))
    listsame (two ∷ one ∷ [] ∷ [] ∷ three ∷ [] ∷ [])
    ∷ "what is laid is read again" says
    by_node (nodes_in (store_of 9 (with (two ∷ one ∷ []) ∷ with [] ∷ with (three ∷ []) ∷ [])) (node 0 1 2 ∷ node 0 1 0 ∷ node 0 1 1 ∷ []))
    listsame (two ∷ one ∷ [] ∷ [] ∷ three ∷ [] ∷ [])
    ∷ []
