-- Closed cases of the console: what is typed, and what comes back, to the byte. The checker computes every row (proofs/CasesHold).
-- Assumes nothing.
use Rattle.std.specs.Prelude.{ℕ, zero, suc, Bool, List, [], ◌∷◌, ◌++◌, replicate}
use Prim.Native.String.{String}
use Rattle.meaning.specs.Call.{same}
use Rattle.meaning.specs.Cases.{Case, ◌says◌, bytes}
use Rattle.text.specs.Text.{ascii}
use Rattle.dialog.specs.Dialog.{conversation}

-- a line, with its line feed, and the line that it brings
infix 80 ◌brings◌
abbrev pub ◌brings◌ : String → String → Bool
typed brings text = same (conversation (ascii typed ++ (10 ∷ []))) (ascii text ++ (10 ∷ []))

-- lines, one after another
abbrev lines : List String → List ℕ
lines [] = []
lines (s ∷ ss) = ascii s ++ (10 ∷ lines ss)

infix 80 ◌bring◌
abbrev pub ◌bring◌ : List String → List String → Bool
typed bring texts = same (conversation (lines typed)) (lines texts)

-- bytes as they are
abbrev given : List ℕ → List ℕ → Bool
given input output = same (conversation input) output

-- a text so many times over
abbrev times : ℕ → String → List ℕ
times zero s = []
times (suc n) s = ascii s ++ times n s

-- ---- lines
unfoldable pub line_cases : List Case
line_cases =
    "the console's own example" says
    ("arrive 2 E0040100002E16AD 11223344" ∷ "command 3 19 10 11 36 register 0006 AA05 0002 07D0 0000 0003" ∷ "collect 2 framed"
    ∷ "acknowledge 2 7" ∷ "acknowledge 2 1" ∷ "collect 2 register" ∷ [])
    bring ("done" ∷ "queued" ∷ "collected 1 FF02 0008 AA05 0002 0313 0A0B 2403 1122 3300" ∷ "refused 15" ∷ "done" ∷ "refused 14" ∷ [])
    ∷ "no input" says given [] []
    ∷ "the last line may lack its line feed" says given (ascii "leave 1\nleave 1") (lines ("refused 14" ∷ "refused 14" ∷ []))
    ∷ "an empty line is passed over" says ("" ∷ "" ∷ "leave 1" ∷ "" ∷ []) bring ("refused 14" ∷ [])
    ∷ "a line that begins with # is passed over" says ("#" ∷ "# leave 1" ∷ "#leave 1" ∷ "leave 1" ∷ []) bring ("refused 14" ∷ [])
    ∷ "a # behind the first byte" says "leave 1 #" brings "unreadable"
    ∷ "4,400 bytes" says given (replicate 4400 35) []
    ∷ "4,401 bytes, whatever they start with, and counted as one line" says
    given (replicate 4401 35 ++ ascii "\nleave 1\n") (lines ("unreadable" ∷ "refused 14" ∷ []))
    ∷ "a second blank" says "leave  1" brings "unreadable"
    ∷ "a blank at the end" says "leave 1 " brings "unreadable"
    ∷ "a blank in front" says " leave 1" brings "unreadable"
    ∷ "a blank alone" says " " brings "unreadable"
    ∷ "a carriage return" says "leave 1\r" brings "unreadable"
    ∷ "a tab for a blank" says "leave\t1" brings "unreadable"
    ∷ "bytes of no text" says given (bytes "000AC80A") (lines ("unreadable" ∷ "unreadable" ∷ []))
    ∷ "an unreadable line changes nothing" says
    ("command 3 19 10 11 36 register 0006 AA08 0001 0001 0000 0000" ∷ "acknowledge 1  1" ∷ "acknowledge 1 1 " ∷ "collect 1 register" ∷ [])
    bring ("queued" ∷ "unreadable" ∷ "unreadable" ∷ "collected 1 0007 FFFF 0001 0313 0A0B 2401 0700" ∷ [])
    ∷ []

-- ---- the table of calls
unfoldable pub call_cases : List Case
call_cases =
    "command alone" says "command" brings "unreadable"
    ∷ "check alone" says "check" brings "unreadable"
    ∷ "arrive alone" says "arrive" brings "unreadable"
    ∷ "leave alone" says "leave" brings "unreadable"
    ∷ "collect alone" says "collect" brings "unreadable"
    ∷ "acknowledge alone" says "acknowledge" brings "unreadable"
    ∷ "a stamp and no form" says "command 3 19 10 11 36" brings "unreadable"
    ∷ "a stamp, words and no form" says "command 3 19 10 11 36 0006" brings "unreadable"
    ∷ "a stamp without its second" says "command 3 19 10 11 register 0006" brings "unreadable"
    ∷ "check without its clock" says "check 1 3 19 10 11 36" brings "unreadable"
    ∷ "check and a field more" says "check 1 3 19 10 11 36 0 0" brings "unreadable"
    ∷ "arrive without bytes" says "arrive 1 E0040100002E16AD" brings "unreadable"
    ∷ "arrive and a field more" says "arrive 1 E0040100002E16AD 11 22" brings "unreadable"
    ∷ "leave and a field more" says "leave 1 1" brings "unreadable"
    ∷ "collect without a form" says "collect 1" brings "unreadable"
    ∷ "collect and a field more" says "collect 1 framed 1" brings "unreadable"
    ∷ "acknowledge without a number" says "acknowledge 1" brings "unreadable"
    ∷ "acknowledge and a field more" says "acknowledge 1 1 1" brings "unreadable"
    ∷ "a call in upper case" says "Leave 1" brings "unreadable"
    ∷ "a form in upper case" says "collect 1 Framed" brings "unreadable"
    ∷ "a form cut short" says "collect 1 frame" brings "unreadable"
    ∷ "no such call" says "left 1" brings "unreadable"
    ∷ "a call cut short" says "leav 1" brings "unreadable"
    ∷ "a call and its node in one" says "leave1" brings "unreadable"
    ∷ "framed is framed: six words are too few" says "command 3 19 10 11 36 framed 0006 AA08 0001 0001 0000 0000" brings "refused 4"
    ∷ "register is register: FF stands for a length" says
    "command 3 19 10 11 36 register FF01 0006 AA08 0001 0001 0000 0000" brings "refused 4"
    ∷ "a framed command is answered" says "command 3 19 10 11 36 framed FF01 0006 AA08 0001 0001 0000 0000" brings "queued"
    ∷ "no word at all" says "command 3 19 10 11 36 framed" brings "refused 4"
    ∷ "no word, and a blank" says "command 3 19 10 11 36 framed " brings "unreadable"
    ∷ []

-- ---- "decimal without sign, of one to ten digits, leading zeros allowed"
unfoldable pub number_cases : List Case
number_cases =
    "ten digits" says "leave 0000000001" brings "refused 14"
    ∷ "eleven digits" says "leave 00000000001" brings "unreadable"
    ∷ "no digit" says "leave " brings "unreadable"
    ∷ "no digit, and a number behind" says "acknowledge  1" brings "unreadable"
    ∷ "a minus" says "leave -1" brings "unreadable"
    ∷ "a plus" says "leave +1" brings "unreadable"
    ∷ "a letter" says "leave 1x" brings "unreadable"
    ∷ "the byte before 0" says "leave 1/" brings "unreadable"
    ∷ "the byte after 9" says "leave 1:" brings "unreadable"
    ∷ "digits by their places: 16 is a reader" says "leave 16" brings "refused 14"
    ∷ "digits by their places: 17 is none" says "leave 17" brings "refused 7"
    ∷ "digits by their places: 61 is none" says "leave 61" brings "refused 7"
    ∷ "a node of 255 leaves" says "leave 255" brings "refused 7"
    ∷ "a node of 256 leaves" says "leave 256" brings "unreadable"
    ∷ "a node of 255 arrives" says "arrive 255 E0040100002E16AD 11" brings "refused 7"
    ∷ "a node of 256 arrives" says "arrive 256 E0040100002E16AD 11" brings "unreadable"
    ∷ "a node of 255 collects" says "collect 255 framed" brings "refused 7"
    ∷ "a node of 256 collects" says "collect 256 framed" brings "unreadable"
    ∷ "a node of 256 acknowledges" says "acknowledge 256 1" brings "unreadable"
    ∷ "255 and a number of 65,535" says "acknowledge 255 65535" brings "refused 7"
    ∷ "a number of 65,536" says "acknowledge 1 65536" brings "unreadable"
    ∷ "255 all over and a clock of 4,294,967,295" says "check 255 255 255 255 255 255 4294967295" brings "refused 3"
    ∷ "a clock of 4,294,967,296" says "check 1 3 19 10 11 36 4294967296" brings "unreadable"
    ∷ "a node of 256 is checked" says "check 256 3 19 10 11 36 0" brings "unreadable"
    ∷ "a check in month 256" says "check 1 256 19 10 11 36 0" brings "unreadable"
    ∷ "a check on day 256" says "check 1 3 256 10 11 36 0" brings "unreadable"
    ∷ "a check in hour 256" says "check 1 3 19 256 11 36 0" brings "unreadable"
    ∷ "a check in minute 256" says "check 1 3 19 10 256 36 0" brings "unreadable"
    ∷ "a check in second 256" says "check 1 3 19 10 11 256 0" brings "unreadable"
    ∷ "255 all over a command's stamp" says "command 255 255 255 255 255 framed" brings "refused 3"
    ∷ "a command in month 256" says "command 256 19 10 11 36 framed" brings "unreadable"
    ∷ "a command on day 256" says "command 3 256 10 11 36 framed" brings "unreadable"
    ∷ "a command in hour 256" says "command 3 19 256 11 36 framed" brings "unreadable"
    ∷ "a command in minute 256" says "command 3 19 10 256 36 framed" brings "unreadable"
    ∷ "a command in second 256" says "command 3 19 10 11 256 framed" brings "unreadable"
    ∷ []

-- ---- "words are four hex digits"; "Hex digits may be of either case"
unfoldable pub word_cases : List Case
word_cases =
    "a word of three digits" says "command 3 19 10 11 36 register 006" brings "unreadable"
    ∷ "a word of five digits" says "command 3 19 10 11 36 register 00006" brings "unreadable"
    ∷ "a second word of three digits" says "command 3 19 10 11 36 register 0006 AA8" brings "unreadable"
    ∷ "the byte before 0 in a word" says "command 3 19 10 11 36 register 000/" brings "unreadable"
    ∷ "the byte after 9 in a word" says "command 3 19 10 11 36 register 000:" brings "unreadable"
    ∷ "the byte before A in a word" says "command 3 19 10 11 36 register 000@" brings "unreadable"
    ∷ "the byte after F in a word" says "command 3 19 10 11 36 register G000" brings "unreadable"
    ∷ "the byte before a in a word" says "command 3 19 10 11 36 register 000`" brings "unreadable"
    ∷ "the byte after f in a word" says "command 3 19 10 11 36 register g000" brings "unreadable"
    ∷ "every digit, upper case" says
    ("command 3 19 10 11 36 register 000A AA21 0020 0000 0000 0008 0123 4567 89AB CDEF" ∷ "acknowledge 32 1"
    ∷ "command 3 19 10 11 36 register 0006 AA11 0020 0000 0000 0000" ∷ "collect 32 register" ∷ [])
    bring ("queued" ∷ "done" ∷ "queued" ∷ "collected 2 000A AA11 0120 0313 0A0B 2408 0123 4567 89AB CDEF" ∷ [])
    ∷ "every digit, lower case" says
    ("command 3 19 10 11 36 register 000a aa21 0020 0000 0000 0008 0123 4567 89ab cdef" ∷ "acknowledge 32 1"
    ∷ "command 3 19 10 11 36 register 0006 aa11 0020 0000 0000 0000" ∷ "collect 32 register" ∷ [])
    bring ("queued" ∷ "done" ∷ "queued" ∷ "collected 2 000A AA11 0120 0313 0A0B 2408 0123 4567 89AB CDEF" ∷ [])
    ∷ "256 words" says given (ascii "command 3 19 10 11 36 register" ++ times 256 " 0006") (ascii "refused 4\n")
    ∷ "257 words" says given (ascii "command 3 19 10 11 36 register" ++ times 257 " 0006") (ascii "unreadable\n")
    ∷ []

-- ---- "an ID and plaque bytes are an even number of hex digits in one piece, or `-` for none"
unfoldable pub byte_cases : List Case
byte_cases =
    "no ID" says "arrive 1 - 11" brings "refused 9"
    ∷ "no bytes" says "arrive 1 E0040100002E16AD -" brings "refused 10"
    ∷ "two dashes" says "arrive 1 E0040100002E16AD --" brings "unreadable"
    ∷ "a dash and digits" says "arrive 1 E0040100002E16AD -1" brings "unreadable"
    ∷ "an empty field for an ID" says "arrive 1  11" brings "unreadable"
    ∷ "an ID of one byte" says "arrive 1 E0 11" brings "refused 9"
    ∷ "an ID of three digits" says "arrive 1 E00 11" brings "unreadable"
    ∷ "bytes of one digit" says "arrive 1 E0040100002E16AD 1" brings "unreadable"
    ∷ "bytes of three digits" says "arrive 1 E0040100002E16AD 111" brings "unreadable"
    ∷ "digits of either case" says "arrive 1 e0040100002e16ad aB" brings "done"
    ∷ "the byte before 0 in bytes" says "arrive 1 E0040100002E16AD 1/" brings "unreadable"
    ∷ "the byte after F in bytes" says "arrive 1 E0040100002E16AD G1" brings "unreadable"
    ∷ "the byte after f in an ID" says "arrive 1 g0040100002E16AD 11" brings "unreadable"
    ∷ "an ID of 16 bytes" says "arrive 1 00112233445566778899AABBCCDDEEFF 11" brings "refused 9"
    ∷ "an ID of 17 bytes" says "arrive 1 00112233445566778899AABBCCDDEEFF00 11" brings "unreadable"
    ∷ "2,047 bytes" says given (ascii "arrive 1 E0040100002E16AD " ++ times 2047 "11") (ascii "refused 10\n")
    ∷ "2,048 bytes" says given (ascii "arrive 1 E0040100002E16AD " ++ times 2048 "11") (ascii "unreadable\n")
    ∷ "an ID's bytes in their places" says
    ("arrive 2 0123456789abCDEF 11" ∷ "command 3 19 10 11 36 register 0006 AA07 0002 0001 0000 0000" ∷ "collect 2 register" ∷ [])
    bring ("done" ∷ "queued" ∷ "collected 1 000A AA07 0002 0313 0A0B 2408 0123 4567 89AB CDEF" ∷ [])
    ∷ "a plaque's bytes in their places" says
    ("arrive 2 E0040100002E16AD 0123456789abCDEF" ∷ "command 3 19 10 11 36 register 0006 AA05 0002 0001 0000 0008"
    ∷ "collect 2 register" ∷ [])
    bring ("done" ∷ "queued" ∷ "collected 1 000A AA05 0002 0313 0A0B 2408 0123 4567 89AB CDEF" ∷ [])
    ∷ []

-- ---- lines out
-- reader 2 with a plaque of two bytes and continuous reading of both, a second apart; its answer is acknowledged
abbrev going : List String
going =
    "arrive 2 E0040100002E16AD 1122" ∷ "command 3 19 10 11 36 register 0006 AA0D 0002 0001 0000 0002" ∷ "acknowledge 2 1" ∷ []

abbrev gone : List String
gone = "done" ∷ "queued" ∷ "done" ∷ []

unfoldable pub out_cases : List Case
out_cases =
    "a check that is queued, with its stamp" says
    (going ++ ("check 2 1 2 3 4 5 1000" ∷ "collect 2 register" ∷ []))
    bring (gone ++ ("queued" ∷ "collected 2 0007 AA0D 0102 0102 0304 0502 1122" ∷ []))
    ∷ "a check that is quiet, by its clock" says
    (going ++ ("check 2 1 2 3 4 5 1000" ∷ "check 2 1 2 3 4 5 1999" ∷ "check 2 1 2 3 4 5 2000" ∷ []))
    bring (gone ++ ("queued" ∷ "quiet" ∷ "queued" ∷ []))
    ∷ "a command's stamp" says
    ("command 1 2 3 4 5 register 0006 AA08 0001 0001 0000 0000" ∷ "collect 1 register" ∷ [])
    bring ("queued" ∷ "collected 1 0007 FFFF 0001 0102 0304 0501 0700" ∷ [])
    ∷ "a leaving that is done" says
    ("arrive 16 E0040100002E16AD 11" ∷ "leave 16" ∷ "leave 16" ∷ []) bring ("done" ∷ "done" ∷ "refused 14" ∷ [])
    ∷ "the longest answer, framed" says
    given (ascii "arrive 2 E0040100002E16AD " ++ times 255 "AB"
    ++ lines ("" ∷ "command 3 19 10 11 36 register 0006 AA05 0002 0001 0000 00FF" ∷ "collect 2 framed" ∷ []))
    (ascii "done\nqueued\ncollected 1 FF02 0086 AA05 0002 0313 0A0B 24FF" ++ times 127 " ABAB" ++ ascii " AB00\n")
    ∷ []

-- ---- "`store FIRST COUNT`: FIRST and FIRST + COUNT within the store, COUNT 1 to 128, else unreadable"
-- so many words that are 0, behind words of an answer
abbrev zeros : ℕ → List ℕ
zeros n = times n " 0000" ++ (10 ∷ [])

unfoldable pub look_cases : List Case
look_cases =
    "a word" says "store 0 1" brings "store 0000"
    ∷ "no word" says "store 0 0" brings "unreadable"
    ∷ "128 words" says given (ascii "store 0 128") (ascii "store" ++ zeros 128)
    ∷ "129 words" says "store 0 129" brings "unreadable"
    ∷ "the store's last word" says "store 4095 1" brings "store 0000"
    ∷ "and the one behind it" says "store 4095 2" brings "unreadable"
    ∷ "from behind the store" says "store 4096 1" brings "unreadable"
    ∷ "the store's last 128 words" says given (ascii "store 3968 128") (ascii "store" ++ zeros 128)
    ∷ "and the one behind them" says "store 3969 128" brings "unreadable"
    ∷ "store alone" says "store" brings "unreadable"
    ∷ "store without a count" says "store 0" brings "unreadable"
    ∷ "store and a field more" says "store 0 1 1" brings "unreadable"
    ∷ "store and a blank" says "store 0 1 " brings "unreadable"
    ∷ "a first word of -1" says "store -1 1" brings "unreadable"
    ∷ "a count of -1" says "store 0 -1" brings "unreadable"
    ∷ "a first word and a count of ten digits" says "store 0000004094 0000000002" brings "store 0000 0000"
    ∷ "a first word of eleven digits" says "store 00000000000 1" brings "unreadable"
    ∷ "a count of eleven digits" says "store 0 00000000001" brings "unreadable"
    ∷ "a first word of 4,294,967,295" says "store 4294967295 1" brings "unreadable"
    ∷ "a count of 4,294,967,295" says "store 1 4294967295" brings "unreadable"
    ∷ "store in upper case" says "Store 0 1" brings "unreadable"
    ∷ []

-- 54 and 11 have answers of six words; 08 without a plaque one of seven, with 07 for its error
unfoldable pub store_cases : List Case
store_cases =
    "node 1's answers lie before node 2's, whichever was made first" says
    ("command 3 19 10 11 36 register 0006 AA54 0002 0000 0000 0000" ∷ "store 0 7"
    ∷ "command 3 19 10 11 36 register 0006 AA08 0001 0001 0000 0000" ∷ "store 0 14" ∷ [])
    bring ("queued" ∷ "store 0006 AA54 0002 0313 0A0B 2400 0000" ∷ "queued"
    ∷ "store 0007 FFFF 0001 0313 0A0B 2401 0700 0006 AA54 0002 0313 0A0B 2400 0000" ∷ [])
    ∷ "words from the midst of an answer into the next" says
    ("command 3 19 10 11 36 register 0006 AA54 0002 0000 0000 0000" ∷ "command 3 19 10 11 36 register 0006 AA08 0001 0001 0000 0000"
    ∷ "store 5 4" ∷ "store 13 1" ∷ [])
    bring ("queued" ∷ "queued" ∷ "store 2401 0700 0006 AA54" ∷ "store 0000" ∷ [])
    ∷ "a node's answers lie oldest first" says
    ("command 3 19 10 11 36 register 0006 AA54 0001 0000 0000 0000" ∷ "command 3 19 10 11 36 register 0006 AA08 0001 0001 0000 0000"
    ∷ "store 0 14" ∷ [])
    bring ("queued" ∷ "queued" ∷ "store 0006 AA54 0001 0313 0A0B 2400 0007 FFFF 0101 0313 0A0B 2401 0700 0000" ∷ [])
    ∷ "what is acknowledged leaves the store, and the freed words are 0" says
    ("command 3 19 10 11 36 register 0006 AA08 0001 0001 0000 0000" ∷ "command 3 19 10 11 36 register 0006 AA54 0002 0000 0000 0000"
    ∷ "acknowledge 1 1" ∷ "store 0 14" ∷ "acknowledge 2 1" ∷ "store 0 7" ∷ [])
    bring ("queued" ∷ "queued" ∷ "done" ∷ "store 0006 AA54 0002 0313 0A0B 2400 0000 0000 0000 0000 0000 0000 0000 0000" ∷ "done"
    ∷ "store 0000 0000 0000 0000 0000 0000 0000" ∷ [])
    ∷ "node 32's lie last, and the rest is 0" says
    given (lines ("command 3 19 10 11 36 register 0006 AA11 0020 0000 0000 0000"
    ∷ "command 3 19 10 11 36 register 0006 AA54 0001 0000 0000 0000" ∷ "store 0 128" ∷ []))
    (ascii "queued\nqueued\nstore 0006 AA54 0001 0313 0A0B 2400 0006 AA11 0020 0313 0A0B 2400" ++ zeros 116)
    ∷ "node 16's lie before them, and node 10's between" says
    ("command 3 19 10 11 36 register 0006 AA11 0020 0000 0000 0000" ∷ "command 3 19 10 11 36 register 0006 AA54 0010 0000 0000 0000"
    ∷ "command 3 19 10 11 36 register 0006 AA54 000A 0000 0000 0000" ∷ "store 0 18" ∷ [])
    bring ("queued" ∷ "queued" ∷ "queued"
    ∷ "store 0006 AA54 000A 0313 0A0B 2400 0006 AA54 0010 0313 0A0B 2400 0006 AA11 0020 0313 0A0B 2400" ∷ [])
    ∷ "79 leaves its own answer alone" says
    given (lines ("command 3 19 10 11 36 register 0006 AA11 0020 0000 0000 0000"
    ∷ "command 3 19 10 11 36 register 0006 AA54 0001 0000 0000 0000" ∷ "command 3 19 10 11 36 register 0006 AA79 0020 0000 0000 0000"
    ∷ "store 0 128" ∷ []))
    (ascii "queued\nqueued\nqueued\nstore 0006 AA79 0120 0313 0A0B 2400" ++ zeros 122)
    ∷ "a look changes nothing" says
    ("command 3 19 10 11 36 register 0006 AA54 0001 0000 0000 0000" ∷ "store 0 6" ∷ "collect 1 register" ∷ "store 0 6" ∷ "acknowledge 1 1"
    ∷ [])
    bring ("queued" ∷ "store 0006 AA54 0001 0313 0A0B 2400" ∷ "collected 1 0006 AA54 0001 0313 0A0B 2400"
    ∷ "store 0006 AA54 0001 0313 0A0B 2400" ∷ "done" ∷ [])
    ∷ []

unfoldable pub talk_cases : List Case
talk_cases = line_cases ++ call_cases ++ number_cases ++ word_cases ++ byte_cases ++ out_cases ++ look_cases ++ store_cases
