-- Closed cases of command packets, read and written: a row for every rule, and for every reading (A and B) that a value tells apart.
-- Assumes nothing.
use Rattle.std.specs.Prelude.{ℕ, not, List, [], ◌∷◌, map, eqb, replicate}
use Rattle.units.specs.Count.{every}
use Rattle.units.specs.Word.{word}
use Rattle.units.specs.declared.Form.TheVariants.{Register, Framed}
use Rattle.meaning.specs.Bench.{full}
use Rattle.meaning.specs.Table.{any, unused, row_of, carried}
use Rattle.meaning.specs.Command.{command_data, delay_wrong, range_wrong, read_command, write_command, command_output}
use Rattle.meaning.specs.Call.{same}
use Rattle.meaning.specs.Cases.{Case, ◌says◌, hex, bytes, search, reads, goes_on, writes, names}
use Rattle.meaning.specs.CasesOfPackets.{◌from◌, ◌at◌from◌, cmd, register, framed, asks, command_refused, accepts}
use Rattle.meaning.specs.CasesOfPackets.{wrt, writer_refused, wrote}
use Rattle.meaning.specs.declared.table.Kind.TheVariants.{Unknown}
use Rattle.meaning.specs.declared.table.Limits.{Limits}

-- ---- packets in register form, and what is written
-- no word but the first three
abbrev pub bare : ℕ → ℕ → List ℕ
bare c n = 0x0006 ∷ word 0xAA c ∷ n ∷ 0 ∷ 0 ∷ 0 ∷ []

-- 04 to 08 at node 1, with this timeout
abbrev pub timed : ℕ → List (List ℕ)
timed t =
    (0x0007 ∷ 0xAA04 ∷ 1 ∷ t ∷ 0 ∷ 1 ∷ 0x4100 ∷ [])
    ∷ (0x0006 ∷ 0xAA05 ∷ 1 ∷ t ∷ 0 ∷ 1 ∷ [])
    ∷ (0x0007 ∷ 0xAA06 ∷ 1 ∷ t ∷ 0 ∷ 1 ∷ 0x4100 ∷ [])
    ∷ (0x0006 ∷ 0xAA07 ∷ 1 ∷ t ∷ 0 ∷ 0 ∷ [])
    ∷ (0x0006 ∷ 0xAA08 ∷ 1 ∷ t ∷ 0 ∷ 0 ∷ [])
    ∷ []

-- a fill of so many bytes
abbrev pub fills : ℕ → List ℕ
fills size = 0x0007 ∷ 0xAA04 ∷ 0x0001 ∷ 0x0001 ∷ 0x0000 ∷ size ∷ 0x4100 ∷ []

-- bytes beside those of the table
abbrev pub strangers : List ℕ
strangers = bytes "0003090C0E1012202253555F62787A92A6C0C4FF"

unfoldable pub command_cases : List Case
command_cases =
    -- the table's commands, each accepted
    "04" says 0 at 0 from register "0007 AA04 0001 0001 0000 0001 4100"
    ∷ "05" says 0 at 0 from register "0006 AA05 0001 0001 0000 0001"
    ∷ "06" says 0 at 0 from register "0007 AA06 0001 0001 0000 0001 4100"
    ∷ "07" says 0 at 0 from register "0006 AA07 0001 0001 0000 0000"
    ∷ "08" says 0 at 0 from register "0006 AA08 0001 0001 0000 0000"
    ∷ "0D" says 0 at 0 from register "0006 AA0D 0001 0001 0000 0001"
    ∷ "54" says 0 at 0 from register "0006 AA54 0001 0000 0000 0000"
    ∷ "11" says 0 at 0 from register "0006 AA11 0020 0000 0000 0000"
    ∷ "21" says 0 at 0 from register "0007 AA21 0020 0000 0000 0001 4100"
    ∷ "60" says 0 at 0 from register "0006 AA60 0020 0000 0000 0000"
    ∷ "61" says 0 at 0 from register "0006 AA61 0020 0000 0000 0000"
    ∷ "79" says 0 at 0 from register "0006 AA79 0020 0000 0000 0000"
    -- 4: "words lent too few (6; 7 with word 00), or Overall Length isn't their count"
    ∷ "4: five words" says 4 at 1 from register "0005 AA08 0001 0001 0000"
    ∷ "4: five words after word 00" says 4 at 1 from framed "FF01 0005 AA08 0001 0001 0000"
    ∷ "4: no words, register" says 4 at 1 from register ""
    ∷ "4: no words, framed" says 4 at 1 from framed ""
    ∷ "4: word 00 alone" says 4 at 1 from framed "FF01"
    ∷ "4: Overall Length one more" says 4 at 1 from register "0007 AA08 0001 0001 0000 0000"
    ∷ "4: Overall Length one less" says 4 at 1 from register "0005 AA08 0001 0001 0000 0000"
    ∷ "A-1: a framed command of node 1 has word 00" says 4 at 1 from framed "0006 AA08 0001 0001 0000 0000"
    ∷ "A-1: nothing is guessed from the words" says 5 at 0 from framed "0001 0006 AA08 0001 0001 0000 0000"
    ∷ "A-1: nor in register form" says 4 at 1 from register "FF01 0006 AA08 0001 0001 0000 0000"
    ∷ "A-2: word 00 is not counted" says 0 at 0 from framed "FF01 0006 AA08 0001 0001 0000 0000"
    ∷ "A-2: and 4 where it is" says 4 at 1 from framed "FF01 0007 AA08 0001 0001 0000 0000"
    ∷ "A-2: the same at node 32" says 0 at 0 from framed "FF20 0006 AA11 0020 0000 0000 0000"
    ∷ "4 before 5 of words 02 and 03" says 4 at 1 from register "0007 0008 0101 0001 0000 0000"
    ∷ "4 before 5 of word 00" says 4 at 1 from framed "0001 0007 AA08 0001 0001 0000 0000"
    -- 5: "a fixed FF, AA or 00 of words 00, 02, 03 wrong"; 6: "words 00 and 03 name different nodes"
    ∷ "5: the FF of word 00" says 5 at 0 from framed "FE01 0006 AA08 0001 0001 0000 0000"
    ∷ "5: the AA of word 02, one more" says 5 at 2 from register "0006 AB08 0001 0001 0000 0000"
    ∷ "5: the AA of word 02, one less" says 5 at 2 from register "0006 A908 0001 0001 0000 0000"
    ∷ "5: FF in word 02 is for responses" says 5 at 2 from register "0006 FF08 0001 0001 0000 0000"
    ∷ "5: the AA of word 02, framed" says 5 at 2 from framed "FF01 0006 AB08 0001 0001 0000 0000"
    ∷ "A-3: the 00 of word 03" says 5 at 3 from register "0006 AA08 0101 0001 0000 0000"
    ∷ "A-3: 5 of word 03 before 7" says 5 at 3 from register "0006 AA08 0111 0001 0000 0000"
    ∷ "5: the 00 of word 03, framed" says 5 at 3 from framed "FF01 0006 AA08 0101 0001 0000 0000"
    ∷ "5: word 00 first" says 5 at 0 from framed "FE01 0006 AB08 0101 0001 0000 0000"
    ∷ "5: then word 02" says 5 at 2 from register "0006 AB08 0101 0001 0000 0000"
    ∷ "A-3: 6 compares the two nodes, allowed or not" says 6 at 3 from framed "FF00 0006 AA08 0001 0001 0000 0000"
    ∷ "A-3: 6 before 7" says 6 at 3 from framed "FF01 0006 AA08 0000 0001 0000 0000"
    ∷ "A-3: the same node, not allowed" says 7 at 3 from framed "FF00 0006 AA08 0000 0001 0000 0000"
    ∷ "6: of two allowed nodes" says 6 at 3 from framed "FF20 0006 AA08 0001 0001 0000 0000"
    ∷ "5 before 6" says 5 at 3 from framed "FF02 0006 AA08 0101 0001 0000 0000"
    -- 7: "node not allowed"; 8: "command not in the table, or not for this node"
    ∷ "7: nodes 1 to 16 are readers" says every (λ n. 0 from cmd Register (search n)) (1 ∷ 2 ∷ 15 ∷ 16 ∷ [])
    ∷ "7: no other is, nor the gateway" says every (λ n. 7 at 3 from cmd Register (search n)) (0 ∷ 17 ∷ 31 ∷ 33 ∷ 255 ∷ [])
    ∷ "A-4: a reader's command at 32" says 8 at 2 from register "0006 AA08 0020 0001 0000 0000"
    ∷ "A-4: the gateway's at 1" says 8 at 2 from register "0006 AA61 0001 0000 0000 0000"
    ∷ "A-4: 7 before 8" says 7 at 3 from register "0006 AA08 0011 0001 0000 0000"
    ∷ "A-4: 7 before 8 of no command" says 7 at 3 from register "0006 AA09 0011 0001 0000 0000"
    ∷ "8: not in the table, at a reader" says every (λ c. 8 at 2 from cmd Register (bare c 1)) strangers
    ∷ "8: not in the table, at the gateway" says every (λ c. 8 at 2 from cmd Register (bare c 32)) strangers
    ∷ "8: the readers' seven at the gateway" says every (λ c. 8 at 2 from cmd Register (bare c 32)) (bytes "04050607080D54")
    ∷ "8: the gateway's five at a reader" says every (λ c. 8 at 2 from cmd Register (bare c 16)) (bytes "1121606179")
    ∷ "8: what is no command carries nothing" says eqb (carried (row_of full 0x09) (asks 0x09 1 0 0 5)) 0
    ∷ "8: and uses no word" says
    same (map (λ (l : Limits). l.high) ((row_of full 0x09).word4 ∷ (row_of full 0x09).start ∷ (row_of full 0x09).size ∷ [])) (0 ∷ 0 ∷ 0 ∷ [])
    -- 9: the column "Overall Length"
    ∷ "8 before 9" says 8 at 2 from register "0007 AA09 0001 0001 0000 0001 0000"
    ∷ "A-5: a spare word" says 9 at 1 from register "0007 AA05 0001 0001 0000 0001 0000"
    ∷ "A-5: of 07" says 9 at 1 from register "0007 AA07 0001 0001 0000 0000 0000"
    ∷ "A-5: of 08" says 9 at 1 from register "0007 AA08 0001 0001 0000 0000 0000"
    ∷ "A-5: of 0D" says 9 at 1 from register "0007 AA0D 0001 0001 0000 0001 0000"
    ∷ "A-5: of 54" says 9 at 1 from register "0007 AA54 0001 0000 0000 0000 0000"
    ∷ "A-5: of 11" says 9 at 1 from register "0007 AA11 0020 0000 0000 0000 0000"
    ∷ "A-5: of 60" says 9 at 1 from register "0007 AA60 0020 0000 0000 0000 0000"
    ∷ "A-5: of 61" says 9 at 1 from register "0007 AA61 0020 0000 0000 0000 0000"
    ∷ "A-5: of 79" says 9 at 1 from register "0007 AA79 0020 0000 0000 0000 0000"
    ∷ "A-5: framed, a spare word that is not 0" says 9 at 1 from framed "FF01 0007 AA05 0001 0001 0000 0001 0001"
    ∷ "04 without its word 07" says 9 at 1 from register "0006 AA04 0001 0001 0000 0001"
    ∷ "04 carries one byte whatever its size" says 9 at 1 from register "0008 AA04 0001 0001 0000 0003 4141 4100"
    ∷ "06 of five bytes has three data words" says 0 from register "0009 AA06 0001 0001 0000 0005 4845 4C4C 4F00"
    ∷ "06 of five bytes with two" says 9 at 1 from register "0008 AA06 0001 0001 0000 0005 4845 4C4C"
    ∷ "06 of five bytes with four" says 9 at 1 from register "000A AA06 0001 0001 0000 0005 4845 4C4C 4F00 0000"
    ∷ "21 of three bytes has two data words" says 0 from register "0008 AA21 0020 0000 0000 0003 4142 4300"
    ∷ "21 of three bytes with one" says 9 at 1 from register "0007 AA21 0020 0000 0000 0003 4142"
    ∷ "21 of three bytes with three" says 9 at 1 from register "0009 AA21 0020 0000 0000 0003 4142 4300 0000"
    ∷ "A-6: size 0, no data" says 10 at 6 from register "0006 AA06 0001 0001 0000 0000"
    ∷ "A-6: size 0, a data word" says 9 at 1 from register "0007 AA06 0001 0001 0000 0000 0000"
    ∷ "A-6: size 256, 128 words" says 10 at 6 from cmd Register (writes 256 128)
    ∷ "A-6: size 256, 127 words" says 9 at 1 from cmd Register (writes 256 127)
    ∷ "A-6: size 300, 128 words" says 9 at 1 from cmd Register (writes 300 128)
    ∷ "A-6: size 300, 150 words" says 10 at 6 from cmd Register (writes 300 150)
    ∷ "A-6: size 65,535 asks more than 16 bits hold" says 9 at 1 from register "0006 AA06 0001 0001 0000 FFFF"
    ∷ "9 before 10" says 9 at 1 from register "0007 AA08 0001 0000 0000 0000 0000"
    ∷ "A-7: a high byte of the name length" says 9 at 1 from register "0008 AA21 0020 0000 0000 0103 4142 4300"
    -- 10: the limits
    ∷ "timeout 0" says every (λ ws. 10 at 4 from cmd Register ws) (timed 0)
    ∷ "timeout 1" says every (λ ws. 0 from cmd Register ws) (timed 1)
    ∷ "timeout 65,534" says every (λ ws. 0 from cmd Register ws) (timed 65534)
    ∷ "timeout 65,535" says every (λ ws. 10 at 4 from cmd Register ws) (timed 65535)
    ∷ "A-14: fill of 0 bytes" says 10 at 6 from cmd Register (fills 0)
    ∷ "fill of 1,024" says 0 from cmd Register (fills 1024)
    ∷ "fill of 1,025" says 10 at 6 from cmd Register (fills 1025)
    ∷ "read of 0 bytes" says 10 at 6 from cmd Register (reads 1 0 0)
    ∷ "read of 255" says 0 from cmd Register (reads 1 0 255)
    ∷ "read of 256" says 10 at 6 from cmd Register (reads 1 0 256)
    ∷ "write of 255" says 0 from cmd Register (writes 255 128)
    ∷ "name of 0 bytes" says 10 at 6 from cmd Register (names 0 0)
    ∷ "name of 64" says 0 from cmd Register (names 64 32)
    ∷ "name of 65" says 10 at 6 from cmd Register (names 65 33)
    ∷ "A-10: any start of 04" says 0 from register "0007 AA04 0001 0001 FFFF 0400 4100"
    ∷ "A-10: any start of 05" says 0 from cmd Register (reads 1 65535 255)
    ∷ "A-10: any start of 06" says 0 from register "0007 AA06 0001 0001 FFFF 0001 4100"
    ∷ "a word has 16 bits" says eqb any.high 65535
    ∷ "a start that is no word" says 10 at 5 from cmd Register (reads 1 65536 1)
    ∷ "delay 60" says 0 from cmd Register (goes_on 1 60 0 1)
    ∷ "delay 61" says 10 at 4 from cmd Register (goes_on 1 61 0 1)
    ∷ "A-7: a high byte of the delay" says 10 at 4 from register "0006 AA0D 0001 0105 0000 0001"
    ∷ "0D of 255 bytes" says 0 from cmd Register (goes_on 1 0 0 255)
    ∷ "0D of 256" says 10 at 6 from cmd Register (goes_on 1 0 0 256)
    ∷ "0D: start + size 1,024" says 0 from cmd Register (goes_on 1 0 1023 1)
    ∷ "0D: start + size 1,025" says 10 at 5 from cmd Register (goes_on 1 0 1023 2)
    ∷ "0D: 769 + 255" says 0 from cmd Register (goes_on 1 0 769 255)
    ∷ "0D: 770 + 255" says 10 at 5 from cmd Register (goes_on 1 0 770 255)
    ∷ "0D: start + size in more than 16 bits" says 10 at 5 from cmd Register (goes_on 1 0 65535 1)
    ∷ "A-8: stopping" says 0 at 0 from cmd Register (goes_on 1 0 0 0)
    ∷ "A-8: stopping with delay 1" says 10 at 4 from cmd Register (goes_on 1 1 0 0)
    ∷ "A-8: stopping with delay 2, as the guide does" says 10 at 4 from cmd Register (goes_on 1 2 0 0)
    ∷ "A-8: stopping with start 1" says 10 at 5 from cmd Register (goes_on 1 0 1 0)
    ∷ "10: word 04 first" says 10 at 4 from cmd Register (goes_on 1 61 1024 256)
    ∷ "10: the delay of a stop first" says 10 at 4 from cmd Register (goes_on 1 1 1 0)
    ∷ "10: then word 05" says 10 at 5 from cmd Register (goes_on 1 60 1024 256)
    ∷ "10: word 04 before word 06" says 10 at 4 from register "0006 AA05 0001 0000 0000 0000"
    ∷ "only 0D stops: delay" says not (delay_wrong Unknown (asks 0 1 1 1 0))
    ∷ "only 0D stops: start" says not (range_wrong 0 Unknown (asks 0 1 1 1 0))
    -- 11: "Words and bytes that a command doesn't use are 0."
    ∷ "A-12: word 05 of 07" says 11 at 5 from register "0006 AA07 0001 0001 0001 0000"
    ∷ "A-12: word 06 of 07" says 11 at 6 from register "0006 AA07 0001 0001 0000 0001"
    ∷ "A-12: word 05 of 08" says 11 at 5 from register "0006 AA08 0001 0001 0001 0000"
    ∷ "A-12: word 06 of 08" says 11 at 6 from register "0006 AA08 0001 0001 0000 FFFF"
    ∷ "A-12: 10 before 11" says 10 at 4 from register "0006 AA08 0001 0000 0000 FFFF"
    ∷ "A-11: word 04 of 54" says 11 at 4 from register "0006 AA54 0001 07D0 0000 0000"
    ∷ "word 05 of 54" says 11 at 5 from register "0006 AA54 0001 0000 0001 0000"
    ∷ "word 06 of 54" says 11 at 6 from register "0006 AA54 0001 0000 0000 0001"
    ∷ "A-11: word 04 of 11" says 11 at 4 from register "0006 AA11 0020 0001 0000 0000"
    ∷ "word 05 of 11" says 11 at 5 from register "0006 AA11 0020 0000 0001 0000"
    ∷ "word 06 of 11" says 11 at 6 from register "0006 AA11 0020 0000 0000 0001"
    ∷ "A-11: word 04 of 21" says 11 at 4 from register "0007 AA21 0020 0001 0000 0001 4100"
    ∷ "word 05 of 21" says 11 at 5 from register "0007 AA21 0020 0000 0001 0001 4100"
    ∷ "A-11: word 04 of 60" says 11 at 4 from register "0006 AA60 0020 0001 0000 0000"
    ∷ "word 05 of 60" says 11 at 5 from register "0006 AA60 0020 0000 0001 0000"
    ∷ "word 06 of 60" says 11 at 6 from register "0006 AA60 0020 0000 0000 0001"
    ∷ "A-11: word 04 of 61" says 11 at 4 from register "0006 AA61 0020 0001 0000 0000"
    ∷ "word 05 of 61" says 11 at 5 from register "0006 AA61 0020 0000 0001 0000"
    ∷ "word 06 of 61" says 11 at 6 from register "0006 AA61 0020 0000 0000 0001"
    ∷ "A-11: word 04 of 79" says 11 at 4 from register "0006 AA79 0020 0001 0000 0000"
    ∷ "word 05 of 79" says 11 at 5 from register "0006 AA79 0020 0000 0001 0000"
    ∷ "word 06 of 79" says 11 at 6 from register "0006 AA79 0020 0000 0000 0001"
    ∷ "11: word 04 first" says 11 at 4 from register "0006 AA54 0001 0001 0001 0001"
    ∷ "11: then word 05" says 11 at 5 from register "0006 AA54 0001 0000 0001 0001"
    ∷ "11: a word that is 0 is neither" says eqb unused.low 0
    ∷ "A-9: the byte after the fill byte" says 11 at 7 from register "0007 AA04 0001 0001 0000 0001 4101"
    ∷ "A-9: the byte after one of 06" says 11 at 7 from register "0007 AA06 0001 0001 0000 0001 4101"
    ∷ "A-9: after three of 06" says 11 at 8 from register "0008 AA06 0001 0001 0000 0003 4142 4301"
    ∷ "A-9: after five of 06" says 11 at 9 from register "0009 AA06 0001 0001 0000 0005 4142 4344 4501"
    ∷ "A-9: after one of 21" says 11 at 7 from register "0007 AA21 0020 0000 0000 0001 4101"
    ∷ "A-9: after three of 21" says 11 at 8 from register "0008 AA21 0020 0000 0000 0003 4142 4301"
    ∷ "A-9: framed" says 11 at 7 from framed "FF01 0007 AA06 0001 0001 0000 0001 4101"
    ∷ "11 of a word before 11 of the byte" says 11 at 5 from register "0007 AA21 0020 0000 0001 0001 4101"
    ∷ "10 before 11 of the byte" says 10 at 4 from register "0007 AA06 0001 0000 0000 0001 4101"
    ∷ "the last byte of an even count is data" says 0 from register "0007 AA06 0001 0001 0000 0002 4101"
    ∷ "A-13: any bytes in a name" says 0 from register "0007 AA21 0020 0000 0000 0002 00FF"
    -- what a reader gives
    ∷ "words 02 to 06, framed" says accepts (read_command full Framed (hex "FF03 0007 AA06 0003 07D0 0102 0002 BEEF")) 6 3 2000 258 2
    ∷ "words 02 to 06, register" says accepts (read_command full Register (hex "0007 AA06 0003 07D0 0102 0002 BEEF")) 6 3 2000 258 2
    ∷ "a refusal's number" says command_refused 8 (read_command full Register (hex "0006 AA09 0001 0001 0000 0000"))
    ∷ "the data from word 07, framed" says same (command_data Framed (hex "FF03 0007 AA06 0003 07D0 0102 0002 BEEF")) (hex "BEEF")
    ∷ "the data from word 07, register" says same (command_data Register (hex "0007 AA06 0003 07D0 0102 0002 BEEF")) (hex "BEEF")
    -- writing: 7, 8, 9, 10, 11, 16
    ∷ "a writer's 7" says 7 from wrt Register (asks 0x08 17 1 0 0) 0 99
    ∷ "a writer's 7 before 8" says 7 from wrt Register (asks 0x09 17 1 0 0) 0 99
    ∷ "a writer's 8" says 8 from wrt Register (asks 0x09 16 1 0 0) 0 99
    ∷ "a writer's 8 at the gateway" says 8 from wrt Register (asks 0x08 32 1 0 0) 0 99
    ∷ "a writer's 8 before 9" says 8 from wrt Register (asks 0x09 16 1 0 0) 1 99
    ∷ "B-1: word 06 of 08 given" says 11 from wrt Register (asks 0x08 1 1 0 9) 0 99
    ∷ "B-1: word 05 of 08 given" says 11 from wrt Register (asks 0x08 1 1 9 0) 0 99
    ∷ "B-1: word 04 of 11 given" says 11 from wrt Register (asks 0x11 32 9 0 0) 0 99
    ∷ "B-2: 06 of 300 with 299 bytes" says 9 from wrt Register (asks 0x06 1 1 0 300) 299 999
    ∷ "B-2: 06 of 300 with 300" says 10 from wrt Register (asks 0x06 1 1 0 300) 300 999
    ∷ "B-2: 06 of 0 with none" says 10 from wrt Register (asks 0x06 1 1 0 0) 0 999
    ∷ "B-2: 04 of 0 with none" says 9 from wrt Register (asks 0x04 1 1 0 0) 0 999
    ∷ "B-2: 04 of 0 with one" says 10 from wrt Register (asks 0x04 1 1 0 0) 1 999
    ∷ "B-2: 04 of 2 with two" says 9 from wrt Register (asks 0x04 1 1 0 2) 2 999
    ∷ "B-2: 21 of 3 with two" says 9 from wrt Register (asks 0x21 32 0 0 3) 2 999
    ∷ "B-2: 21 of 3 with three" says 0 from wrt Register (asks 0x21 32 0 0 3) 3 8
    ∷ "a writer's 10 before 11" says 10 from wrt Register (asks 0x08 1 0 0 9) 0 99
    ∷ "a writer's stop with a delay" says 10 from wrt Register (asks 0x0D 1 1 0 0) 0 99
    ∷ "a writer's stop with a start" says 10 from wrt Register (asks 0x0D 1 0 1 0) 0 99
    ∷ "B-3: data lent to a command that carries none" says 9 from wrt Register (asks 0x05 1 1 0 4) 4 999
    ∷ "B-3: 16 counts word 00" says 16 from wrt Framed (asks 0x08 1 1 0 0) 0 6
    ∷ "B-3: with word 00 seven words do" says 0 from wrt Framed (asks 0x08 1 1 0 0) 0 7
    ∷ "B-3: in register form six" says 0 from wrt Register (asks 0x08 1 1 0 0) 0 6
    ∷ "B-3: and not five" says 16 from wrt Register (asks 0x08 1 1 0 0) 0 5
    ∷ "B-3: 16 counts the data" says 16 from wrt Register (asks 0x06 1 1 0 5) 5 8
    ∷ "B-3: 16 is last" says 11 from wrt Register (asks 0x08 1 1 0 9) 0 0
    ∷ "no word is at fault in 9 and 16 of a writer: 9" says 9 at 0 from wrt Register (asks 0x05 1 1 0 4) 4 999
    ∷ "and 16" says 16 at 0 from wrt Register (asks 0x08 1 1 0 0) 0 5
    ∷ "a framed command" says
    same (command_output full Framed (asks 0x06 1 2000 258 5) (bytes "48454C4C4F") (replicate 12 9))
    (hex "FF01 0009 AA06 0001 07D0 0102 0005 4845 4C4C 4F00 0009 0009")
    ∷ "a register command of the gateway's" says
    same (command_output full Register (asks 0x21 32 0 0 2) (bytes "4142") (replicate 8 9)) (hex "0007 AA21 0020 0000 0000 0002 4142 0009")
    ∷ "a refused writer leaves the output" says
    same (command_output full Framed (asks 0x06 1 2000 0 5) (bytes "48454C4C4F") (replicate 9 9)) (replicate 9 9)
    ∷ "the words written, framed" says wrote 10 (write_command full Framed (asks 0x06 1 2000 0 5) (bytes "48454C4C4F") 10)
    ∷ "the words written, register" says wrote 9 (write_command full Register (asks 0x06 1 2000 0 5) (bytes "48454C4C4F") 10)
    ∷ "a writer's refusal" says writer_refused 16 (write_command full Framed (asks 0x06 1 2000 0 5) (bytes "48454C4C4F") 9)
    ∷ []
