-- Closed cases of what all nodes share, the gateway's own too: instance counts, pending lists, handover numbers, room.
-- Assumes nothing.
use Rattle.std.specs.Prelude.{ℕ, Bool, not, ◌&&◌, cond, List, [], ◌∷◌, ◌++◌, map, eqb, take}
use Rattle.units.specs.Count.{every}
use Rattle.units.specs.Word.{word}
use Rattle.units.specs.declared.Form.TheVariants.{Register, Framed}
use Rattle.meaning.specs.Bench.{full}
use Rattle.meaning.specs.Gateway.{Node, Gateway, join, set_node}
use Rattle.meaning.specs.Room.{held, charge, charges, fits}
use Rattle.meaning.specs.Call.{Call, check, collect, acknowledge, same, step, run}
use Rattle.meaning.specs.Cases.{Case, ◌says◌, hex, bytes, march, search, reads, goes_on}
use Rattle.meaning.specs.CasesOfCalls.{blank, cmd, sends, four, gets_name, abc, resets, clears, busy, second, holding, crowd, turning}
use Rattle.meaning.specs.CasesOfCalls.{after, pending, answers, alikes, counts, ends, ends_in, is_queued, hands, gets, small}

-- ---- nodes
-- readers, the first and the last, and the gateway
abbrev pub some : List ℕ
some = 1 ∷ 3 ∷ 16 ∷ 32 ∷ []

-- all but 3, 4 and 5
abbrev pub fourteen : List ℕ
fourteen = 1 ∷ 2 ∷ 6 ∷ 7 ∷ 8 ∷ 9 ∷ 10 ∷ 11 ∷ 12 ∷ 13 ∷ 14 ∷ 15 ∷ 16 ∷ 32 ∷ []

-- a command for node n
abbrev pub ask : ℕ → Call
ask n = cmd (cond (eqb n 32) gets_name (search n))

-- its answers with instance counts 3 and 4
abbrev pub older : ℕ → List ℕ
older n = 0x0006 ∷ 0xAA08 ∷ word 3 n ∷ hex "0313 0A0B 2400"

abbrev pub newer : ℕ → List ℕ
newer n = 0x0007 ∷ 0xAA05 ∷ word 4 n ∷ hex "0313 0A0B 2401 5500"

-- node n with both of them pending, instance count 5 and handover number 7
unfoldable pub waiting : ℕ → Gateway → Gateway
waiting n g = set_node n (record { count = 5; handover = 7; pending = older n ∷ newer n ∷ [] }) g

-- and with none
unfoldable pub rested : ℕ → Gateway → Gateway
rested n g = set_node n (record { count = 5; handover = 7; pending = [] }) g

unfoldable pub has : Node → ℕ → ℕ → List (List ℕ) → Bool
has x count handover ws = eqb x.count count && eqb x.handover handover && alikes x.pending ws

-- node n after a call
abbrev pub node_in : Gateway → ℕ → Call → Node
node_in g n c = (step full g c).next.nodes n

abbrev pub node : ℕ → Call → Node
node n c = node_in (waiting n blank) n c

-- node n after k answers, all of them acknowledged
unfoldable pub answered : ℕ → ℕ → Gateway
answered n k = set_node n (record { count = k; handover = 1; pending = [] }) blank

-- the counts of two answers more, and the numbers that a run leaves
abbrev pub twice : ℕ → ℕ → List ℕ
twice n k = counts ((run full (answered n k) (ask n ∷ ask n ∷ [])).nodes n).pending

abbrev pub numbers : List Call → List ℕ
numbers cs = map (λ n. ((run full blank cs).nodes n).handover) (2 ∷ 3 ∷ 32 ∷ 5 ∷ [])

-- an answer of k words has room at node n
abbrev pub takes : ℕ → ℕ → Gateway → Bool
takes n k g = fits full n (join n (k ∷ []) g)

unfoldable pub handover_cases : List Case
handover_cases =
    -- "Each answer carries the node's count of earlier answers, errors included, since start or the last 61; 255 is followed by 0."
    "counts 0, 1, 2" says every (λ n. same (counts (after n (ask n ∷ ask n ∷ ask n ∷ []))) (0 ∷ 1 ∷ 2 ∷ [])) some
    ∷ "255 is followed by 0" says every (λ n. same (twice n 255) (255 ∷ 0 ∷ [])) some
    ∷ "254 by 255" says every (λ n. same (twice n 254) (254 ∷ 255 ∷ [])) some
    ∷ "another node's answers are not counted" says
    every (λ n. same (counts (after n (ask 2 ∷ ask n ∷ ask 2 ∷ ask n ∷ []))) (0 ∷ 1 ∷ [])) some
    ∷ "acknowledged ones are" says every (λ n. same (counts (after n (ask n ∷ acknowledge n 1 ∷ ask n ∷ []))) (1 ∷ [])) some
    ∷ "E-18: errors and reports count" says
    same (counts (after 2 (cmd (search 2) ∷ second ++ (check 2 march 5000 ∷ [])))) (0 ∷ 1 ∷ 2 ∷ 3 ∷ [])
    ∷ "E-18: refusals do not" says same (counts (after 2 (cmd (reads 2 0 0) ∷ cmd (search 2) ∷ []))) (0 ∷ [])
    ∷ "E-18: nor 13" says eqb (node_in (holding 2 804 blank) 2 (cmd (search 2))).count 0
    -- "The answer joins the end of its node's list."
    ∷ "an answer joins the end of a reader's list" says
    has (node 3 (ask 3)) 6 7 (older 3 ∷ newer 3 ∷ hex "0007 FFFF 0503 0313 0A0B 2401 0700" ∷ [])
    ∷ "and of the gateway's" says has (node 32 (ask 32)) 6 7 (older 32 ∷ newer 32 ∷ hex "0006 AA11 0520 0313 0A0B 2400" ∷ [])
    ∷ "no other list" says every (λ n. eqb (pending n (ask 3 ∷ ask 32 ∷ [])) 0) (1 ∷ 2 ∷ 4 ∷ 16 ∷ [])
    -- "Collect copies the oldest answer to the front of the lent output and returns its word count and the handover number;
    -- no state changes."
    ∷ "7: collect at 1 to 16 and 32" says every (λ n. ends 14 [] (collect Register n 9)) (1 ∷ 16 ∷ 32 ∷ [])
    ∷ "7: at no other" says every (λ n. ends 7 [] (collect Register n 9)) (0 ∷ 17 ∷ 31 ∷ 33 ∷ [])
    ∷ "collect in register form" says every (λ n. hands (waiting n blank) (collect Register n 6) (older n) 7) some
    ∷ "E-17: framed, word 00 counts" says
    every (λ n. hands (waiting n blank) (collect Framed n 7) (word 0xFF n ∷ older n) 7) (2 ∷ 16 ∷ 32 ∷ [])
    ∷ "E-17: node 1 has none" says hands (waiting 1 blank) (collect Framed 1 6) (older 1) 7
    ∷ "16: register" says every (λ n. ends_in 16 (waiting n blank) (collect Register n 5)) some
    ∷ "16: framed" says every (λ n. ends_in 16 (waiting n blank) (collect Framed n 6)) (2 ∷ 16 ∷ 32 ∷ [])
    ∷ "16: node 1" says ends_in 16 (waiting 1 blank) (collect Framed 1 5)
    ∷ "no state changes" says every (λ n. has (node n (collect Register n 9)) 5 7 (older n ∷ newer n ∷ [])) some
    ∷ "nor the name" says same (run full blank (abc ∷ collect Register 32 9 ∷ [])).name (bytes "414243")
    ∷ "E-15: 14 before 16" says every (λ n. ends_in 14 (rested n blank) (collect Register n 0)) some
    ∷ "collect after an answer, in either form" says gets busy (collect Framed 3 8) "FF03 0007 FFFF 0003 0313 0A0B 2401 0700" 1
    ∷ "the gateway's" says gets (abc ∷ []) (collect Framed 32 7) "FF20 0006 AA21 0020 0313 0A0B 2400" 1
    -- "Acknowledge with that number removes the answer and the number moves on; 65,535 is followed by 1."
    ∷ "7: acknowledge at 1 to 16 and 32" says every (λ n. ends 14 [] (acknowledge n 1)) (1 ∷ 16 ∷ 32 ∷ [])
    ∷ "7: acknowledge at no other" says every (λ n. ends 7 [] (acknowledge n 1)) (0 ∷ 17 ∷ 31 ∷ 33 ∷ [])
    ∷ "E-14: the oldest goes, collected or not" says every (λ n. has (node n (acknowledge n 7)) 5 8 (newer n ∷ [])) some
    ∷ "15: the instance count is not the number" says every (λ n. ends_in 15 (waiting n blank) (acknowledge n 5)) some
    ∷ "15: neither is the count of the oldest" says every (λ n. ends_in 15 (waiting n blank) (acknowledge n 3)) some
    ∷ "15: 0" says every (λ n. ends_in 15 (waiting n blank) (acknowledge n 0)) some
    ∷ "15: one less" says every (λ n. ends_in 15 (waiting n blank) (acknowledge n 6)) some
    ∷ "15: one more" says every (λ n. ends_in 15 (waiting n blank) (acknowledge n 8)) some
    ∷ "15: the number and 65,536" says every (λ n. ends_in 15 (waiting n blank) (acknowledge n 65543)) some
    ∷ "15 changes nothing" says every (λ n. has (node n (acknowledge n 8)) 5 7 (older n ∷ newer n ∷ [])) some
    ∷ "E-15: 14 before 15" says every (λ n. ends_in 14 (rested n blank) (acknowledge n 0)) some
    ∷ "14 with the number" says every (λ n. ends_in 14 (rested n blank) (acknowledge n 7)) some
    ∷ "a late acknowledgement" says every (λ n. ends 15 (ask n ∷ ask n ∷ acknowledge n 1 ∷ []) (acknowledge n 1)) some
    ∷ "65,535 is followed by 1" says every (λ n. eqb (node_in (turning n 65535) n (acknowledge n 65535)).handover 1) some
    ∷ "65,534 by 65,535" says every (λ n. eqb (node_in (turning n 65534) n (acknowledge n 65534)).handover 65535) some
    ∷ "another node's list stays" says has (node_in (waiting 3 (waiting 32 blank)) 32 (acknowledge 3 7)) 5 7 (older 32 ∷ newer 32 ∷ [])
    ∷ "a reader's too" says has (node_in (waiting 3 (waiting 32 blank)) 3 (acknowledge 32 7)) 5 7 (older 3 ∷ newer 3 ∷ [])
    -- "61 and 79 move it on once at each node whose list was not empty; their own answer is made after the effect."
    ∷ "E-13: 79 at a reader that waits" says every (λ n. has (node n (cmd clears)) 5 8 []) (1 ∷ 3 ∷ 16 ∷ [])
    ∷ "E-13: 79 where the list is empty" says every (λ n. has (node_in (rested n blank) n (cmd clears)) 5 7 []) (1 ∷ 3 ∷ 16 ∷ [])
    ∷ "E-13: 79 at the gateway, waiting" says has (node 32 (cmd clears)) 6 8 (hex "0006 AA79 0520 0313 0A0B 2400" ∷ [])
    ∷ "E-13: 79 at the gateway, list empty" says
    has (node_in (rested 32 blank) 32 (cmd clears)) 6 7 (hex "0006 AA79 0520 0313 0A0B 2400" ∷ [])
    ∷ "E-13: 61 at a reader that waits" says every (λ n. has (node n (cmd resets)) 0 8 []) (1 ∷ 3 ∷ 16 ∷ [])
    ∷ "E-13: 61 where the list is empty" says every (λ n. has (node_in (rested n blank) n (cmd resets)) 0 7 []) (1 ∷ 3 ∷ 16 ∷ [])
    ∷ "E-13: 61 at the gateway, waiting" says has (node 32 (cmd resets)) 1 8 (hex "0006 AA61 0020 0313 0A0B 2400" ∷ [])
    ∷ "E-13: 61 at the gateway, list empty" says
    has (node_in (rested 32 blank) 32 (cmd resets)) 1 7 (hex "0006 AA61 0020 0313 0A0B 2400" ∷ [])
    ∷ "E-13: once, not once an answer" says same (numbers (busy ++ (cmd clears ∷ []))) (2 ∷ 2 ∷ 2 ∷ 1 ∷ [])
    ∷ "E-13: 79 again finds its own answer alone" says same (numbers (busy ++ (cmd clears ∷ cmd clears ∷ []))) (2 ∷ 2 ∷ 3 ∷ 1 ∷ [])
    ∷ "E-13: 65,535 is followed by 1" says every (λ n. eqb (node_in (turning n 65535) n (cmd clears)).handover 1) some
    ∷ "a late acknowledgement after 79" says every (λ n. ends 15 (ask n ∷ cmd clears ∷ ask n ∷ []) (acknowledge n 1)) some
    -- "A node's held words are the Overall Lengths of its unacknowledged, uncleared answers added up."
    ∷ "held words" says every (λ n. eqb (held ((waiting n blank).nodes n)) 13) some
    ∷ "held words after an acknowledgement" says every (λ n. eqb (held (node n (acknowledge n 7))) 7) some
    ∷ "held words after 79" says eqb (held (node 3 (cmd clears))) 0
    ∷ "the gateway's held words after 79" says eqb (held (node 32 (cmd clears))) 6
    -- "Its charge is the larger of 134 and its held words."
    ∷ "charge of 0, 134 and 135 held" says
    same (map (λ k. charge full ((holding 3 k blank).nodes 3)) (0 ∷ 134 ∷ 135 ∷ [])) (134 ∷ 134 ∷ 135 ∷ [])
    ∷ "17 charges" says eqb (charges full blank) 2278
    ∷ "five charges on a small bench" says eqb (charges small blank) 670
    -- "An answer has room exactly when afterwards its node holds at most 804 and the 17 charges add to at most 4,096."
    ∷ "with 798 held, 6 words have room" says every (λ n. takes n 6 (holding n 798 blank)) some
    ∷ "and 7 have not" says every (λ n. not (takes n 7 (holding n 798 blank))) some
    ∷ "with 3 and 4 at 804, node 5 may reach 612" says takes 5 12 crowd
    ∷ "and not 613" says not (takes 5 13 crowd)
    ∷ "the other fourteen still have 134 each" says every (λ n. takes n 134 (holding 5 612 crowd)) fourteen
    ∷ "and no more" says every (λ n. not (takes n 135 (holding 5 612 crowd))) fourteen
    ∷ "every node is charged" says every (λ n. takes 5 12 (holding n 804 (holding 4 804 (holding 5 600 blank)))) some
    ∷ "in full" says every (λ n. not (takes 5 13 (holding n 804 (holding 4 804 (holding 5 600 blank))))) some
    ∷ "the gateway may reach 612 too" says takes 32 12 (holding 3 804 (holding 4 804 (holding 32 600 blank)))
    ∷ "and no more than that" says not (takes 32 13 (holding 3 804 (holding 4 804 (holding 32 600 blank))))
    -- 13
    ∷ "13 at the node's limit" says every (λ n. ends_in 13 (holding n 804 blank) (ask n)) some
    ∷ "13 by the charges" says every (λ n. ends_in 13 (holding n 130 (holding 5 612 crowd)) (ask n)) (1 ∷ 16 ∷ 32 ∷ [])
    ∷ "E-4: 7 words for Tag Not Found" says ends_in 13 (holding 2 798 blank) (cmd (search 2))
    ∷ "E-4: 6 with a plaque" says is_queued (step full (holding 2 798 (run full blank (four ∷ []))) (cmd (search 2))).said
    ∷ "E-4: 11 by its name" says ends_in 13 (holding 32 797 (run full blank (abc ∷ []))) (cmd gets_name)
    ∷ "E-4: 11 just" says is_queued (step full (holding 32 796 (run full blank (abc ∷ []))) (cmd gets_name)).said
    ∷ "E-19: 12 before 13" says ends_in 12 (holding 2 804 (run full blank (four ∷ []))) (cmd (reads 2 3 2))
    ∷ "E-19: 13 within the plaque" says ends_in 13 (holding 2 804 (run full blank (four ∷ []))) (cmd (reads 2 2 2))
    ∷ "13 of a report" says ends_in 13 (holding 2 798 (run full blank second)) (check 2 march 5000)
    ∷ "12 of a report before 13" says ends_in 12 (holding 2 804 (run full blank (four ∷ cmd (goes_on 2 1 3 2) ∷ []))) (check 2 march 0)
    ∷ "13 changes no byte" says
    same
    (take 4 ((step full (holding 2 804 (run full blank (four ∷ []))) (sends "0007 AA04 0002 07D0 0000 0004 4100")).next.reader 2).region)
    (bytes "11223344")
    ∷ "13 changes no name" says same (step full (holding 32 804 blank) abc).next.name []
    ∷ "13 changes no list" says eqb (held (node_in (holding 3 804 blank) 3 (ask 3))) 804
    ∷ "61 and 79 always have room" says
    every (λ ws. is_queued (step full (holding 32 804 (holding 5 612 crowd)) (cmd ws)).said) (resets ∷ clears ∷ [])
    ∷ []
