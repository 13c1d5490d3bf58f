-- Closed cases of what the demands speak of: what is struck out, what a line of a log has, counts and answers counted from the calls, and
-- each of the numbers 12 to 16 where it applies and where it just does not.
-- Assumes nothing.
use Rattle.std.specs.Prelude.{ℕ, Bool, not, List, [], ◌∷◌, ◌++◌, map, eqb, length, take, replicate}
use Rattle.units.specs.Word.{msb}
use Rattle.units.specs.declared.Form.TheVariants.{Register, Framed}
use Rattle.meaning.specs.Refusal.{refusal}
use Rattle.meaning.specs.Bench.{full}
use Rattle.meaning.specs.Packet.{word_no}
use Rattle.meaning.specs.Gateway.{Gateway, fresh, set_node}
use Rattle.meaning.specs.Gateway.{Field, empty, plaque, Mode, off, on}
use Rattle.meaning.specs.Call.{Call, command, check, arrive, leave, collect, acknowledge, Said, refused, answered, queued, done, quiet}
use Rattle.meaning.specs.Call.{same, named, step, run}
use Rattle.meaning.specs.Cases.{Case, ◌says◌, hex, bytes, march, midnight, search, reads, goes_on}
use Rattle.demands.specs.Demand.{stays, struck, Line, line, log, ours}
use Rattle.demands.specs.Counts.{is_queued, is_ack, counting, tally, Past, past}
use Rattle.demands.specs.Wrong.{past_plaque, too_short, wrong}

-- ---- calls and gateways
abbrev pub blank : Gateway
blank = fresh (λ n. replicate 1024 7)

abbrev pub after : List Call → Gateway
after cs = run full blank cs

abbrev pub cmd : List ℕ → Call
cmd ws = command march Register ws

abbrev pub to_hub : ℕ → Call
to_hub k = cmd (0x0006 ∷ k ∷ 0x0020 ∷ 0 ∷ 0 ∷ 0 ∷ [])

abbrev pub gets_name : Call
gets_name = to_hub 0xAA11

abbrev pub resets : Call
resets = to_hub 0xAA61

abbrev pub clears : Call
clears = to_hub 0xAA79

abbrev pub id : List ℕ
id = bytes "E0040100002E16AD"

-- a plaque of four bytes at reader 2; one of one byte with the same ID
abbrev pub four : Call
four = arrive 2 id (bytes "11223344")

abbrev pub short : Call
short = arrive 2 id (bytes "09")

-- a gateway whose node n holds k words in one answer
abbrev pub holding : ℕ → ℕ → Gateway → Gateway
holding n k g = set_node n (record { count = 0; handover = 1; pending = (k ∷ []) ∷ [] }) g

-- ---- G-1, whom a call is for: reader 3's stay, and those of the gateway and of nobody
abbrev pub keeps : Call → Bool
keeps c = stays full 3 c

unfoldable pub struck_cases : List Case
struck_cases =
    "a packet for reader 3 stays" says keeps (cmd (search 3))
    ∷ "a packet for reader 4 is struck out" says not (keeps (cmd (search 4)))
    ∷ "word 03 decides, whatever its MSB and word 00 say" says keeps (command march Framed (hex "FF05 0006 AB08 0103 0001 0000 0000"))
    ∷ "word 00 does not" says not (keeps (command march Framed (hex "FF03 0006 AA08 0005 0001 0000 0000")))
    ∷ "a packet for the gateway stays" says keeps gets_name
    ∷ "a packet for node 17 stays" says keeps (cmd (search 17))
    ∷ "a packet without word 03 stays" says keeps (cmd (hex "0006 AA08"))
    ∷ "a field check of reader 3 stays" says keeps (check 3 march 0)
    ∷ "a field check of reader 4 is struck out" says not (keeps (check 4 march 0))
    ∷ "a field check of node 32 is nobody's, and stays" says keeps (check 32 march 0)
    ∷ "an arrival at reader 4 is struck out" says not (keeps (arrive 4 id []))
    ∷ "an arrival at node 32 stays" says keeps (arrive 32 id [])
    ∷ "a leaving at reader 3 stays" says keeps (leave 3)
    ∷ "a leaving at reader 16 is struck out" says not (keeps (leave 16))
    ∷ "a leaving at node 0 stays" says keeps (leave 0)
    ∷ "collect at reader 4 is struck out" says not (keeps (collect Register 4 9))
    ∷ "collect at node 32 stays" says keeps (collect Register 32 9)
    ∷ "acknowledge at reader 1 is struck out" says not (keeps (acknowledge 1 1))
    ∷ "acknowledge at node 32 stays" says keeps (acknowledge 32 1)
    ∷ "those that stay, in their order" says
    same (map named (struck full 3 (leave 3 ∷ leave 4 ∷ gets_name ∷ leave 17 ∷ leave 1 ∷ collect Framed 3 9 ∷ []))) (3 ∷ 32 ∷ 17 ∷ 3 ∷ [])
    ∷ []

-- ---- G-3, what a line compares: the call, its result, and what holds after it of reader i and of the name
-- a name, a plaque at reader 2, and an answer of node 2
abbrev pub before : Gateway
before = after (cmd (hex "0007 AA21 0020 0000 0000 0002 4142") ∷ four ∷ cmd (search 2) ∷ [])

abbrev pub noted : Call → Line
noted c = line 2 c (step full before c)

unfoldable pub number : Said → ℕ
number (refused k) = k
number (answered r) = 0
number queued = 0

unfoldable pub length_in : Field → ℕ
length_in empty = 0
length_in (plaque i len) = len

unfoldable pub delay_in : Mode → ℕ
delay_in off = 0
delay_in (on start size delay r) = delay

unfoldable pub line_cases : List Case
line_cases =
    "G-3: the call" says eqb (named (noted (leave 5)).call) 5
    ∷ "G-3: a refusal" says eqb (number (noted (leave 5)).said) 14
    ∷ "G-3: an answer" says is_queued (noted (cmd (search 2))).said
    ∷ "G-3: pending answers after it" says eqb (length (noted (cmd (search 2))).node.pending) 2
    ∷ "G-3: count after it" says eqb (noted (cmd (search 2))).node.count 2
    ∷ "G-3: handover number after it" says eqb (noted (acknowledge 2 1)).node.handover 2
    ∷ "G-3: plaque after it" says eqb (length_in (noted short).reader.field) 1
    ∷ "G-3: continuous reading after it" says eqb (delay_in (noted (cmd (goes_on 2 9 0 2))).reader.mode) 9
    ∷ "G-3: region after it" says same (take 5 (noted short).reader.region) (bytes "0922334407")
    ∷ "G-3: name after it" says same (noted (cmd (hex "0007 AA21 0020 0000 0000 0002 4344"))).name (bytes "4344")
    ∷ "G-3: another reader's node" says eqb (line 3 (cmd (search 2)) (step full before (cmd (search 2)))).node.count 0
    ∷ "G-3: another reader's plaque" says eqb (length_in (line 3 (leave 5) (step full before (leave 5))).reader.field) 0
    ∷ "a log has a line for each call" says eqb (length (log full 2 before (leave 5 ∷ short ∷ []))) 2
    ∷ "each after the call before it" says
    same (map (λ l. l.node.count) (log full 2 before (cmd (search 2) ∷ cmd (search 3) ∷ cmd (search 2) ∷ []))) (2 ∷ 2 ∷ 3 ∷ [])
    ∷ "answers of reader 3 are its own" says ours 3 3
    ∷ "answers of the gateway are" says ours 3 32
    ∷ "answers of another reader are not" says not (ours 3 4)
    ∷ []

-- ---- instance counts, counted from the calls: five so far at a node
abbrev pub count_after : ℕ → Call → Said → ℕ
count_after n c a = counting full n 5 c a

unfoldable pub count_cases : List Case
count_cases =
    "an answer of the node" says eqb (count_after 3 (cmd (search 3)) queued) 6
    ∷ "a report of the node" says eqb (count_after 3 (check 3 march 0) queued) 6
    ∷ "an answer of another" says eqb (count_after 3 (cmd (search 4)) queued) 5
    ∷ "an answer of the gateway, at it" says eqb (count_after 32 gets_name queued) 6
    ∷ "an answer of the gateway, at a reader" says eqb (count_after 3 gets_name queued) 5
    ∷ "what is nobody's, at reader 1" says eqb (count_after 1 (cmd (search 17)) queued) 5
    ∷ "a refusal" says eqb (count_after 3 (cmd (search 3)) (refused 13)) 5
    ∷ "a quiet check" says eqb (count_after 3 (check 3 march 0) (answered quiet)) 5
    ∷ "an acknowledgement" says eqb (count_after 3 (acknowledge 3 1) (answered done)) 5
    ∷ "61 at a reader" says eqb (count_after 3 resets queued) 0
    ∷ "61 at the gateway, its own answer counted" says eqb (count_after 32 resets queued) 1
    ∷ "61 refused" says eqb (count_after 3 resets (refused 3)) 5
    ∷ "79 at a reader" says eqb (count_after 3 clears queued) 5
    ∷ "79 at the gateway" says eqb (count_after 32 clears queued) 6
    ∷ "60 at a reader" says eqb (count_after 3 (to_hub 0xAA60) queued) 5
    ∷ "21 at a reader" says eqb (count_after 3 (to_hub 0xAA21) queued) 5
    ∷ "over a run" says eqb (tally full 3 0 (log full 3 blank (cmd (search 3) ∷ cmd (search 4) ∷ cmd (search 3) ∷ []))) 2
    ∷ "over a run with a 61 in it" says eqb (tally full 3 0 (log full 3 blank (cmd (search 3) ∷ resets ∷ cmd (search 3) ∷ []))) 1
    ∷ "over no call" says eqb (tally full 3 7 []) 7
    ∷ []

-- ---- answers: those made at a node, in order, and how many of them are gone
abbrev pub past_at : ℕ → List Call → Past
past_at n cs = past full n blank cs (record { made = []; gone = 0 })

-- the instance counts of those made
abbrev pub made_at : ℕ → List Call → List ℕ
made_at n cs = map (λ w. msb (word_no 3 w)) (past_at n cs).made

abbrev pub three : List Call
three = cmd (search 3) ∷ cmd (search 4) ∷ cmd (search 3) ∷ gets_name ∷ []

unfoldable pub past_cases : List Case
past_cases =
    "made at reader 3, in order" says same (made_at 3 three) (0 ∷ 1 ∷ [])
    ∷ "made at reader 4" says same (made_at 4 three) (0 ∷ [])
    ∷ "made at the gateway" says same (made_at 32 three) (0 ∷ [])
    ∷ "the answer itself" says same (map (word_no 3) (past_at 4 three).made) (4 ∷ [])
    ∷ "none gone" says eqb (past_at 3 three).gone 0
    ∷ "acknowledged" says eqb (past_at 3 (three ++ (acknowledge 3 1 ∷ []))).gone 1
    ∷ "acknowledged with another number" says eqb (past_at 3 (three ++ (acknowledge 3 2 ∷ []))).gone 0
    ∷ "acknowledged at another node" says eqb (past_at 3 (three ++ (acknowledge 4 1 ∷ []))).gone 0
    ∷ "collected" says eqb (past_at 3 (three ++ (collect Register 3 9 ∷ []))).gone 0
    ∷ "an arrival takes nothing away" says eqb (past_at 3 (three ++ (arrive 3 id id ∷ []))).gone 0
    ∷ "a leaving takes nothing away" says eqb (past_at 3 (three ++ (arrive 3 id id ∷ leave 3 ∷ []))).gone 0
    ∷ "a quiet check takes nothing away" says eqb (past_at 3 (three ++ (check 3 march 0 ∷ []))).gone 0
    ∷ "a command is no acknowledgement" says not (is_ack (cmd (search 3)))
    ∷ "79: all gone" says eqb (past_at 3 (three ++ (clears ∷ []))).gone 2
    ∷ "61: all gone" says eqb (past_at 3 (three ++ (resets ∷ []))).gone 2
    ∷ "79 at the gateway: all but its own answer" says eqb (past_at 32 (three ++ (clears ∷ []))).gone 1
    ∷ "its own answer is made" says same (made_at 32 (three ++ (clears ∷ []))) (0 ∷ 1 ∷ [])
    ∷ "what is made behind a 79 is not gone" says eqb (past_at 3 (three ++ (clears ∷ cmd (search 3) ∷ []))).gone 2
    ∷ "a refusal makes nothing" says same (made_at 3 (three ++ (cmd (reads 3 0 0) ∷ []))) (0 ∷ 1 ∷ [])
    ∷ "60 takes nothing away" says eqb (past_at 3 (three ++ (to_hub 0xAA60 ∷ []))).gone 0
    ∷ []

-- ---- the numbers: k is the lowest that applies, 0 for none
abbrev pub gives : ℕ → Gateway → Call → Bool
gives k g c = eqb (refusal (wrong full g c)) k

abbrev pub tagged : Gateway
tagged = after (four ∷ [])

-- reading four bytes from a start on, with a delay of a second; a report at clock 0, and then the short plaque with the same ID
abbrev pub going : ℕ → Gateway
going start = after (four ∷ cmd (goes_on 2 1 start 4) ∷ [])

abbrev pub shortened : Gateway
shortened = after (four ∷ cmd (goes_on 2 1 0 4) ∷ check 2 march 0 ∷ short ∷ [])

unfoldable pub range_cases : List Case
range_cases =
    "12: 05 to the end of the plaque" says gives 0 tagged (cmd (reads 2 1 3))
    ∷ "12: 05 past it" says gives 12 tagged (cmd (reads 2 1 4))
    ∷ "12: 04 to the end" says gives 0 tagged (cmd (hex "0007 AA04 0002 0001 0000 0004 4100"))
    ∷ "12: 04 past it" says gives 12 tagged (cmd (hex "0007 AA04 0002 0001 0000 0005 4100"))
    ∷ "12: 06 to the end" says gives 0 tagged (cmd (hex "0007 AA06 0002 0001 0002 0002 4142"))
    ∷ "12: 06 past it" says gives 12 tagged (cmd (hex "0007 AA06 0002 0001 0003 0002 4142"))
    ∷ "12: no plaque" says gives 0 blank (cmd (reads 2 1 4))
    ∷ "12: another reader's plaque" says gives 0 tagged (cmd (reads 3 1 4))
    ∷ "12 is not for 07" says not (past_plaque full (tagged.reader 2) (cmd (hex "0006 AA07 0002 0001 0000 0009")))
    ∷ "12 is not for 08" says not (past_plaque full (tagged.reader 2) (cmd (hex "0006 AA08 0002 0001 0000 0009")))
    ∷ "12 is not for 11" says not (past_plaque full (tagged.reader 2) (cmd (hex "0006 AA11 0002 0000 0000 0009")))
    ∷ "12 is not for 54" says not (past_plaque full (tagged.reader 2) (cmd (hex "0006 AA54 0002 0000 0000 0009")))
    ∷ "12 is not for 09, which is none" says not (past_plaque full (tagged.reader 2) (cmd (hex "0006 AA09 0002 0000 0000 0009")))
    ∷ "12 is not for 0D" says gives 0 tagged (cmd (goes_on 2 1 1000 24))
    ∷ "12: a report to the end" says gives 0 (going 0) (check 2 march 0)
    ∷ "12: a report past it" says gives 12 (going 1) (check 2 march 0)
    ∷ "12: a repeat past it is quiet" says gives 0 shortened (check 2 march 999)
    ∷ "12: past it, and no repeat any more" says gives 12 shortened (check 2 march 1000)
    ∷ "12: reading off" says gives 0 tagged (check 2 march 0)
    ∷ "12: reading on, no plaque" says gives 0 (after (cmd (goes_on 2 1 0 4) ∷ [])) (check 2 march 0)
    ∷ "12 before 13" says gives 12 (holding 2 804 tagged) (cmd (reads 2 1 4))
    ∷ []

unfoldable pub room_cases : List Case
room_cases =
    "13: 797 words and an error response of 7" says gives 0 (holding 2 797 blank) (cmd (search 2))
    ∷ "13: 798 words and an error response of 7" says gives 13 (holding 2 798 blank) (cmd (search 2))
    ∷ "13: 798 words and an answer of 6" says gives 0 (holding 2 798 tagged) (cmd (search 2))
    ∷ "13: 799 words and an answer of 6" says gives 13 (holding 2 799 tagged) (cmd (search 2))
    ∷ "13: 796 words and a report of 8" says gives 0 (holding 2 796 (going 0)) (check 2 march 0)
    ∷ "13: 797 words and a report of 8" says gives 13 (holding 2 797 (going 0)) (check 2 march 0)
    ∷ "13: others fill the charges" says gives 13 (holding 3 804 (holding 4 804 (holding 5 612 (holding 2 134 tagged)))) (cmd (search 2))
    ∷ "13: others leave this node its share" says
    gives 0 (holding 3 804 (holding 4 804 (holding 5 612 (holding 2 128 tagged)))) (cmd (search 2))
    ∷ "13: 799 words at the gateway" says gives 13 (holding 32 799 blank) gets_name
    ∷ "13 is not for 61" says gives 0 (holding 32 804 blank) resets
    ∷ "13 is not for 79" says gives 0 (holding 32 804 blank) clears
    ∷ "13 is not for an arrival" says gives 0 (holding 2 804 blank) four
    ∷ "13 is not for a quiet check" says gives 0 (holding 2 804 blank) (check 2 march 0)
    ∷ []

unfoldable pub pending_cases : List Case
pending_cases =
    "14: collect, nothing pending" says gives 14 tagged (collect Register 2 9)
    ∷ "14: acknowledge, nothing pending, whatever the number" says gives 14 tagged (acknowledge 2 0)
    ∷ "14: collect at the gateway" says gives 14 blank (collect Register 32 9)
    ∷ "14: leave, no plaque" says gives 14 before (leave 3)
    ∷ "14: leave, a plaque" says gives 0 tagged (leave 2)
    ∷ "14 is not for a command" says gives 0 blank (cmd (search 2))
    ∷ "14 is not for an arrival" says gives 0 blank four
    ∷ "15: the number that is current" says gives 0 before (acknowledge 2 1)
    ∷ "15: the next number" says gives 15 before (acknowledge 2 2)
    ∷ "15: 0" says gives 15 before (acknowledge 2 0)
    ∷ "15: a number of more than 16 bits" says gives 15 before (acknowledge 2 65537)
    ∷ "15: two answers so far, and the number is 1" says gives 0 (after (cmd (search 2) ∷ cmd (search 2) ∷ [])) (acknowledge 2 1)
    ∷ "15: it is not the instance count" says gives 15 (after (cmd (search 2) ∷ cmd (search 2) ∷ [])) (acknowledge 2 2)
    ∷ "15: the gateway's number" says gives 15 before (acknowledge 32 2)
    ∷ "16: room for the answer" says gives 0 before (collect Register 2 6)
    ∷ "16: a word less" says gives 16 before (collect Register 2 5)
    ∷ "16: room for word 00 too" says gives 0 before (collect Framed 2 7)
    ∷ "16: room without word 00" says gives 16 before (collect Framed 2 6)
    ∷ "16: node 1 has no word 00" says gives 0 (after (cmd (search 1) ∷ [])) (collect Framed 1 7)
    ∷ "16: node 1, a word less" says gives 16 (after (cmd (search 1) ∷ [])) (collect Framed 1 6)
    ∷ "16 is not for a node with no answer" says not (too_short (blank.nodes 2) (collect Register 2 0))
    ∷ "3 before all" says gives 3 before (check 99 (midnight 2 30) 0)
    ∷ "7 before 14" says gives 7 before (leave 17)
    ∷ "10 before 12" says gives 10 tagged (cmd (reads 2 5 0))
    ∷ []

unfoldable pub demand_cases : List Case
demand_cases = struck_cases ++ line_cases ++ count_cases ++ past_cases ++ range_cases ++ room_cases ++ pending_cases
