-- Closed cases of plaques and field checks: a row for every rule, and for every reading (F) that a value tells apart.
-- Assumes nothing.
use Rattle.std.specs.Prelude.{not, List, [], ◌∷◌, ◌++◌, eqb, replicate}
use Rattle.units.specs.Count.{every}
use Rattle.meaning.specs.Bench.{full}
use Rattle.meaning.specs.Call.{check, arrive, leave, acknowledge, same, step, run}
use Rattle.meaning.specs.Cases.{Case, ◌says◌, bytes, march, midnight, search, reads, goes_on}
use Rattle.meaning.specs.CasesOfCalls.{blank, id_a, id_b, cmd, sends, four, second, wrapping, holding, pending, memory, front, answers}
use Rattle.meaning.specs.CasesOfCalls.{ends, queues, does, stays, is_queued}

unfoldable pub field_cases : List Case
field_cases =
    -- plaques
    "F-10: 7 of an arrival" says every (λ n. ends 7 [] (arrive n id_a (bytes "11"))) (0 ∷ 17 ∷ 32 ∷ [])
    ∷ "F-10: readers 1 to 16" says every (λ n. does [] (arrive n id_a (bytes "11"))) (1 ∷ 2 ∷ 16 ∷ [])
    ∷ "F-10: 7 before 9" says ends 7 [] (arrive 0 [] [])
    ∷ "F-10: an ID of 7 bytes" says ends 9 [] (arrive 2 (replicate 7 1) (bytes "11"))
    ∷ "F-10: an ID of 9 bytes" says ends 9 [] (arrive 2 (replicate 9 1) (bytes "11"))
    ∷ "F-10: 9 before 10" says ends 9 [] (arrive 2 (replicate 7 1) [])
    ∷ "F-10: no bytes" says ends 10 [] (arrive 2 id_a [])
    ∷ "F-10: 1,024 bytes" says does [] (arrive 2 id_a (replicate 1024 1))
    ∷ "F-10: 1,025 bytes" says ends 10 [] (arrive 2 id_a (replicate 1025 1))
    ∷ "F-10: an ID of eight zeros" says does [] (arrive 2 (replicate 8 0) (bytes "11"))
    ∷ "arrival replaces the ID" says
    answers 2 (four ∷ arrive 2 id_b (bytes "09") ∷ sends "0006 AA07 0002 07D0 0000 0000" ∷ [])
    ("000A AA07 0002 0313 0A0B 2408 BBBB BBBB BBBB BBBB" ∷ [])
    ∷ "F-9: arrival writes the first bytes only" says front (arrive 2 id_a (bytes "010203") ∷ arrive 2 id_b (bytes "09") ∷ []) "09020307"
    ∷ "F-9: what is behind cannot be read" says ends 12 (four ∷ arrive 2 id_b (bytes "09") ∷ []) (cmd (reads 2 0 2))
    ∷ "F-9: in its reader's region" says every (λ n. same (memory n (four ∷ [])) (replicate 1024 7)) (1 ∷ 3 ∷ 16 ∷ [])
    ∷ "arrival makes no answer" says eqb (pending 2 (four ∷ [])) 0
    ∷ "14: no plaque to leave" says ends 14 [] (leave 2)
    ∷ "14: nor once more" says ends 14 (four ∷ leave 2 ∷ []) (leave 2)
    ∷ "14: one at another reader" says ends 14 (four ∷ []) (leave 3)
    ∷ "leaving clears presence" says answers 2 (four ∷ leave 2 ∷ cmd (search 2) ∷ []) ("0007 FFFF 0002 0313 0A0B 2401 0700" ∷ [])
    ∷ "F-9: leaving writes nothing" says front (four ∷ leave 2 ∷ []) "112233440707"
    ∷ "7 of a leaving" says every (λ n. ends 7 [] (leave n)) (0 ∷ 17 ∷ 32 ∷ [])
    -- field checks
    ∷ "7 of a field check" says every (λ n. ends 7 [] (check n march 0)) (0 ∷ 17 ∷ 32 ∷ [])
    ∷ "at 1 to 16" says every (λ n. stays [] (check n march 0)) (1 ∷ 16 ∷ [])
    ∷ "F-1: a bad stamp where the check would be quiet" says ends 3 [] (check 1 (midnight 2 30) 0)
    ∷ "F-1: 3 before 7" says ends 3 [] (check 99 (midnight 2 30) 0)
    ∷ "F-1: node 32" says ends 7 [] (check 32 march 0)
    ∷ "quiet: reading is off" says stays (four ∷ []) (check 2 march 0)
    ∷ "quiet: no plaque" says stays (cmd (goes_on 2 1 0 2) ∷ []) (check 2 march 0)
    ∷ "quiet: both at another reader" says stays (four ∷ cmd (goes_on 2 1 0 2) ∷ []) (check 3 march 0)
    ∷ "quiet changes nothing" says eqb (pending 2 (second ++ (check 2 march 400 ∷ []))) 2
    ∷ "a report has echo 0D and those bytes" says
    answers 2 (four ∷ cmd (goes_on 2 1 1 2) ∷ check 2 (midnight 1 2) 0 ∷ [])
    ("0006 AA0D 0002 0313 0A0B 2400" ∷ "0007 AA0D 0102 0102 0000 0002 2233" ∷ [])
    ∷ "a report at 16" says
    answers 16 (arrive 16 id_b (bytes "0102") ∷ cmd (goes_on 16 0 0 1) ∷ check 16 march 0 ∷ [])
    ("0006 AA0D 0010 0313 0A0B 2400" ∷ "0007 AA0D 0110 0313 0A0B 2401 0100" ∷ [])
    ∷ "a report changes no byte" says front second "112233440707"
    ∷ "a report keeps the plaque" says does second (leave 2)
    ∷ "12: a report up to the end" says queues (four ∷ cmd (goes_on 2 1 2 2) ∷ []) (check 2 march 0)
    ∷ "12: past it" says ends 12 (four ∷ cmd (goes_on 2 1 3 2) ∷ []) (check 2 march 0)
    ∷ "F-2: delay 0 has no repeats" says queues (four ∷ cmd (goes_on 2 0 0 2) ∷ check 2 march 9 ∷ []) (check 2 march 9)
    ∷ "F-3: below the delay" says stays second (check 2 march 499)
    ∷ "F-3: exactly the delay" says queues second (check 2 march 500)
    ∷ "F-3: the very clock of the report" says stays second (check 2 march 4294966796)
    ∷ "F-3: before the clock goes around" says stays second (check 2 march 4294966797)
    ∷ "F-3: below a minute" says stays (four ∷ cmd (goes_on 2 60 0 2) ∷ check 2 march 7 ∷ []) (check 2 march 60006)
    ∷ "F-3: exactly a minute" says queues (four ∷ cmd (goes_on 2 60 0 2) ∷ check 2 march 7 ∷ []) (check 2 march 60007)
    ∷ "F-4: from the clock's last value to 998" says stays wrapping (check 2 march 998)
    ∷ "F-4: and at 999" says queues wrapping (check 2 march 999)
    ∷ "F-4: one back" says queues wrapping (check 2 march 4294967294)
    ∷ "F-4: half the clock's round later" says queues wrapping (check 2 march 2147483647)
    ∷ "F-5: another ID is no repeat" says queues (second ++ (arrive 2 id_b (bytes "0102") ∷ [])) (check 2 march 400)
    ∷ "F-5: only the last report is kept" says
    queues (second ++ (arrive 2 id_b (bytes "0102") ∷ check 2 march 400 ∷ four ∷ [])) (check 2 march 401)
    ∷ "F-5: the ID to its last byte" says queues (second ++ (arrive 2 (bytes "E0040100002E16AE") (bytes "0102") ∷ [])) (check 2 march 400)
    ∷ "F-6: leaving keeps the report" says stays (second ++ (leave 2 ∷ four ∷ [])) (check 2 march 400)
    ∷ "F-6: and the reading" says queues (second ++ (leave 2 ∷ four ∷ [])) (check 2 march 500)
    ∷ "F-6: so does arrival, with other bytes" says stays (second ++ (arrive 2 id_a (bytes "0909") ∷ [])) (check 2 march 400)
    ∷ "F-7: quiet before 12" says stays (second ++ (arrive 2 id_a (bytes "09") ∷ [])) (check 2 march 400)
    ∷ "F-7: and 12 after the delay" says ends 12 (second ++ (arrive 2 id_a (bytes "09") ∷ [])) (check 2 march 500)
    ∷ "F-8: from the last report, not the last check" says queues (second ++ (check 2 march 400 ∷ [])) (check 2 march 500)
    ∷ "F-8: from the last of two reports" says stays (second ++ (check 2 march 500 ∷ [])) (check 2 march 1499)
    ∷ "F-8: 12 keeps neither ID nor clock" says
    stays (second ++ (arrive 2 id_b (bytes "09") ∷ check 2 march 400 ∷ four ∷ [])) (check 2 march 400)
    ∷ "F-8: 13 neither" says
    is_queued
    (step full (run full (holding 2 798 (run full blank (four ∷ cmd (goes_on 2 1 0 2) ∷ []))) (check 2 march 0 ∷ acknowledge 2 1 ∷ []))
    (check 2 march 1)).said
    ∷ []
