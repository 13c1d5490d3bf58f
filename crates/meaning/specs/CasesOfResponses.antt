-- Closed cases of response packets, read and written: a row for every rule, and for every reading (C and D) that a value tells apart.
-- Assumes nothing.
use Rattle.std.specs.Prelude.{true, false, not, List, [], ◌∷◌, ◌++◌, replicate}
use Rattle.units.specs.Count.{every}
use Rattle.units.specs.declared.Form.TheVariants.{Register, Framed}
use Rattle.meaning.specs.Bench.{full}
use Rattle.meaning.specs.Response.{response_data, well_formed, read_response, write_response, response_output}
use Rattle.meaning.specs.Call.{same}
use Rattle.meaning.specs.Cases.{Case, ◌says◌, hex, bytes, march, midnight}
use Rattle.meaning.specs.CasesOfPackets.{◌from◌, ◌at◌from◌, rsp, register_answer, framed_answer, gives, response_refused, hears, ans}
use Rattle.meaning.specs.CasesOfPackets.{writer_refused, wrote}

unfoldable pub response_cases : List Case
response_cases =
    -- 4: "words lent too few (6; 7 with word 00), or Overall Length isn't their count"
    "4: five words" says 4 at 1 from register_answer "0005 AA08 0002 0313 0A0B"
    ∷ "4: five words after word 00" says 4 at 1 from framed_answer "FF02 0005 AA08 0002 0313 0A0B"
    ∷ "4: Overall Length one more" says 4 at 1 from register_answer "0007 AA08 0002 0313 0A0B 2400"
    ∷ "4: Overall Length one less" says 4 at 1 from register_answer "0005 AA08 0002 0313 0A0B 2400"
    ∷ "4: word 00 is not counted" says 4 at 1 from framed_answer "FF02 0007 AA08 0002 0313 0A0B 2400"
    ∷ "4: no words, register" says 4 at 1 from register_answer ""
    ∷ "C-1: no words, framed" says 4 at 1 from framed_answer ""
    ∷ "C-1: a first MSB of FF is word 00" says 0 at 0 from framed_answer "FF02 0006 AA08 0002 0313 0A0B 2400"
    ∷ "C-1: any other is Overall Length" says 4 at 1 from framed_answer "FE02 0006 AA08 0002 0313 0A0B 2400"
    ∷ "C-1: in register form nothing is guessed" says 4 at 1 from register_answer "FF02 0006 AA08 0002 0313 0A0B 2400"
    ∷ "4 before 5" says 4 at 1 from register_answer "0007 FE08 0002 0313 0A0B 2400"
    -- 5, 6, 7
    ∷ "C-4: AA" says 0 at 0 from register_answer "0006 AA08 0002 0313 0A0B 2400"
    ∷ "C-4: FF" says 0 at 0 from register_answer "0007 FF08 0002 0313 0A0B 2401 0700"
    ∷ "C-4: FE is a notification's" says 5 at 2 from register_answer "0006 FE08 0002 0313 0A0B 2400"
    ∷ "C-4: AB" says 5 at 2 from register_answer "0006 AB08 0002 0313 0A0B 2400"
    ∷ "C-4: A9" says 5 at 2 from register_answer "0006 A908 0002 0313 0A0B 2400"
    ∷ "C-4: framed" says 5 at 2 from framed_answer "FF02 0006 FE08 0002 0313 0A0B 2400"
    ∷ "C-4: any echo and count" says 0 from register_answer "0006 AA99 C802 0313 0A0B 2400"
    ∷ "C-4: any echo and code of an error" says 0 from register_answer "0007 FFFF FF02 0313 0A0B 2401 9900"
    ∷ "node 1 has no word 00" says 0 at 0 from framed_answer "0006 AA08 0001 0313 0A0B 2400"
    ∷ "node 1 with word 00" says 5 at 3 from framed_answer "FF01 0006 AA08 0001 0313 0A0B 2400"
    ∷ "every other node has it" says
    every (λ ws. 0 from rsp Framed ws) (hex "FF10 0006 AA08 0010 0313 0A0B 2400" ∷ hex "FF20 0006 AA11 0020 0313 0A0B 2400" ∷ [])
    ∷ "node 2 without word 00" says 5 at 3 from framed_answer "0006 AA08 0002 0313 0A0B 2400"
    ∷ "node 32 without word 00" says 5 at 3 from framed_answer "0006 AA11 0020 0313 0A0B 2400"
    ∷ "C-2: absent for a node that is none" says 5 at 3 from framed_answer "0006 AA08 0063 0313 0A0B 2400"
    ∷ "C-2: in register form that is 7" says 7 at 3 from register_answer "0006 AA08 0063 0313 0A0B 2400"
    ∷ "5: word 02 first" says 5 at 2 from framed_answer "0006 FE08 0002 0313 0A0B 2400"
    ∷ "C-3: 5 before 6, by word 03" says 5 at 3 from framed_answer "FF02 0006 AA08 0001 0313 0A0B 2400"
    ∷ "C-3: 6, by word 03" says 6 at 3 from framed_answer "FF01 0006 AA08 0002 0313 0A0B 2400"
    ∷ "6 before 7" says 6 at 3 from framed_answer "FF02 0006 AA08 0011 0313 0A0B 2400"
    ∷ "6: words 00 and 03 of node 32" says 6 at 3 from framed_answer "FF1F 0006 AA08 0020 0313 0A0B 2400"
    ∷ "7: framed" says 7 at 3 from framed_answer "FF11 0006 AA08 0011 0313 0A0B 2400"
    ∷ "7: nodes 1 to 16 and 32" says
    every (λ n. 0 from rsp Register (0x0006 ∷ 0xAA08 ∷ n ∷ hex "0313 0A0B 2400")) (1 ∷ 2 ∷ 15 ∷ 16 ∷ 32 ∷ [])
    ∷ "7: no other" says every (λ n. 7 at 3 from rsp Register (0x0006 ∷ 0xAA08 ∷ n ∷ hex "0313 0A0B 2400")) (0 ∷ 17 ∷ 31 ∷ 33 ∷ 255 ∷ [])
    ∷ "7 before 9" says 7 at 3 from register_answer "0007 AA08 0011 0313 0A0B 2400 0000"
    -- 9, 3, 10, 11
    ∷ "9: a word too many" says 9 at 1 from register_answer "0007 AA08 0002 0313 0A0B 2400 0000"
    ∷ "9: a word too few" says 9 at 1 from register_answer "0006 AA08 0002 0313 0A0B 2401"
    ∷ "9: framed" says 9 at 1 from framed_answer "FF02 0007 AA08 0002 0313 0A0B 2400 0000"
    ∷ "C-5: 9 before 3" says 9 at 1 from register_answer "0007 AA08 0002 021E 0A0B 2400 0000"
    ∷ "C-5: 3" says 3 at 0 from register_answer "0006 AA08 0002 021E 0A0B 2400"
    ∷ "3: the month" says 3 at 0 from register_answer "0006 AA08 0002 0D13 0A0B 2400"
    ∷ "3: the hour" says 3 at 0 from register_answer "0006 AA08 0002 0313 180B 2400"
    ∷ "3: the minute" says 3 at 0 from register_answer "0006 AA08 0002 0313 0A3C 2400"
    ∷ "3: the second" says 3 at 0 from register_answer "0006 AA08 0002 0313 0A0B 3C00"
    ∷ "C-5: 3 before 10" says 3 at 0 from register_answer "0006 FF08 0002 021E 0A0B 2400"
    ∷ "3 before 11" says 3 at 0 from register_answer "0007 AA08 0002 021E 0A0B 2401 0701"
    ∷ "C-6: an error without data" says 10 at 6 from register_answer "0006 FF08 0002 0313 0A0B 2400"
    ∷ "C-6: an error with two bytes" says 10 at 6 from register_answer "0007 FF08 0002 0313 0A0B 2402 0700"
    ∷ "C-6: 10 before 11" says 10 at 6 from register_answer "0008 FF08 0002 0313 0A0B 2403 0701 0707"
    ∷ "C-6: 11 in an error" says 11 at 7 from register_answer "0007 FF08 0002 0313 0A0B 2401 0701"
    ∷ "11: the byte after one" says 11 at 7 from register_answer "0007 AA05 0002 0313 0A0B 2401 1101"
    ∷ "11: the byte after three" says 11 at 8 from register_answer "0008 AA05 0002 0313 0A0B 2403 1122 3301"
    ∷ "11: the byte after five" says 11 at 9 from register_answer "0009 AA05 0002 0313 0A0B 2405 1122 3344 5501"
    ∷ "11: framed" says 11 at 8 from framed_answer "FF02 0008 AA05 0002 0313 0A0B 2403 1122 3301"
    ∷ "the last byte of an even count is data" says 0 from register_answer "0008 AA05 0002 0313 0A0B 2404 1122 3301"
    ∷ "Data Length 255" says 0 from rsp Register (134 ∷ hex "AA05 0002 0313 0A0B 24FF" ++ replicate 128 0x0100)
    -- what a reader gives
    ∷ "C-7: the data, framed" says same (response_data Framed (hex "FF02 0008 AA05 0002 0313 0A0B 2403 1122 3300")) (hex "1122 3300")
    ∷ "C-7: the data, framed, node 1" says same (response_data Framed (hex "0008 AA05 0001 0313 0A0B 2403 1122 3300")) (hex "1122 3300")
    ∷ "C-7: the data, register" says same (response_data Register (hex "0007 AA05 0002 0313 0A0B 2401 1100")) (hex "1100")
    ∷ "C-7: no data" says same (response_data Register (hex "0006 AA08 0002 0313 0A0B 2400")) []
    ∷ "words 02 to 06, framed" says
    hears (read_response full Framed (hex "FF02 0008 AA05 1102 0313 0A0B 2403 1122 3300")) (gives false 5 17 2 march) 3
    ∷ "words 02 to 06, register" says
    hears (read_response full Register (hex "0008 AA05 1120 0313 0A0B 2404 1122 3344")) (gives false 5 17 32 march) 4
    ∷ "an error response" says hears (read_response full Framed (hex "0007 FFFF 0001 0313 0A0B 2401 0700")) (gives true 255 0 1 march) 1
    ∷ "a refusal's number" says response_refused 3 (read_response full Register (hex "0006 AA08 0002 021E 0A0B 2400"))
    -- "a well-formed register-form response of its node"
    ∷ "well-formed" says well_formed full 2 (hex "0006 AA08 0502 0313 0A0B 2400")
    ∷ "well-formed, of the gateway" says well_formed full 32 (hex "0006 AA11 0020 0313 0A0B 2400")
    ∷ "well-formed, of another node" says not (well_formed full 3 (hex "0006 AA08 0302 0313 0A0B 2400"))
    ∷ "not well-formed" says not (well_formed full 2 (hex "0006 AA08 0002 021E 0A0B 2400"))
    ∷ "not well-formed, framed" says not (well_formed full 2 (hex "FF02 0006 AA08 0002 0313 0A0B 2400"))
    -- writing: 3, 7, 10, 16
    ∷ "D-1: 3 before 7" says 3 at 0 from ans Register (gives false 5 0 99 (midnight 2 30)) 0 99
    ∷ "D-1: 7 before 10" says 7 at 0 from ans Register (gives false 5 0 99 march) 256 99
    ∷ "D-1: 10 before 16" says 10 at 0 from ans Register (gives false 5 0 2 march) 256 0
    ∷ "D-1: 16 is last" says 16 at 0 from ans Register (gives false 5 0 2 march) 0 5
    ∷ "a writer's 7" says every (λ n. 7 from ans Register (gives false 5 0 n march) 0 99) (0 ∷ 17 ∷ 31 ∷ 33 ∷ [])
    ∷ "D-2: 256 bytes" says 10 from ans Register (gives false 5 0 2 march) 256 999
    ∷ "D-2: 255 bytes" says 0 from ans Register (gives false 5 0 2 march) 255 134
    ∷ "D-2: no bytes" says 0 from ans Register (gives false 5 0 2 march) 0 6
    ∷ "D-2: an error with none" says 10 from ans Register (gives true 255 0 2 march) 0 999
    ∷ "D-2: an error with one" says 0 from ans Register (gives true 255 0 2 march) 1 7
    ∷ "D-2: an error with two" says 10 from ans Register (gives true 255 0 2 march) 2 999
    ∷ "16: the data count" says 16 from ans Register (gives false 5 0 2 march) 255 133
    ∷ "16: word 00 counts" says 16 from ans Framed (gives false 5 0 2 march) 0 6
    ∷ "16: with word 00 seven words do" says 0 from ans Framed (gives false 5 0 2 march) 0 7
    ∷ "16: at node 32 too" says 16 from ans Framed (gives false 5 0 32 march) 0 6
    ∷ "16: node 1 has no word 00" says 0 from ans Framed (gives false 5 0 1 march) 0 6
    ∷ "a framed response" says
    same (response_output full Framed (gives false 5 17 2 march) (bytes "112233") (replicate 11 9))
    (hex "FF02 0008 AA05 1102 0313 0A0B 2403 1122 3300 0009 0009")
    ∷ "a framed error response of node 1" says
    same (response_output full Framed (gives true 0xFF 0 1 march) (bytes "07") (replicate 8 9))
    (hex "0007 FFFF 0001 0313 0A0B 2401 0700 0009")
    ∷ "a framed response of node 32" says
    same (response_output full Framed (gives false 0x11 1 32 march) [] (replicate 7 9)) (hex "FF20 0006 AA11 0120 0313 0A0B 2400")
    ∷ "a register response" says
    same (response_output full Register (gives false 5 255 16 march) [] (replicate 7 9)) (hex "0006 AA05 FF10 0313 0A0B 2400 0009")
    ∷ "a refused writer leaves the output" says
    same (response_output full Framed (gives false 5 17 2 march) (bytes "112233") (replicate 8 9)) (replicate 8 9)
    ∷ "the words written, framed" says wrote 9 (write_response full Framed (gives false 5 17 2 march) (bytes "112233") 9)
    ∷ "the words written, framed, node 1" says wrote 8 (write_response full Framed (gives false 5 17 1 march) (bytes "112233") 9)
    ∷ "the words written, register" says wrote 8 (write_response full Register (gives false 5 17 2 march) (bytes "112233") 9)
    ∷ "a writer's refusal" says writer_refused 16 (write_response full Framed (gives false 5 17 2 march) (bytes "112233") 8)
    ∷ []
