-- Closed cases of the night run: files, and their listings to the byte. The checker computes every row (proofs/CasesHold).
-- Assumes nothing.
use Rattle.std.specs.Prelude.{ℕ, zero, suc, Bool, List, [], ◌∷◌, ◌++◌, eqb, take, replicate}
use Prim.Native.String.{String}
use Rattle.units.specs.Packing.{bytes_of}
use Rattle.meaning.specs.Bench.{full}
use Rattle.meaning.specs.Call.{same, done, quiet, handed, refused, answered, queued}
use Rattle.meaning.specs.Cases.{Case, ◌says◌, hex, bytes, search, reads}
use Rattle.text.specs.Text.{ascii}
use Rattle.listing.specs.Listing.{handover_in, blank, listing}

-- ---- parts of files
abbrev count : ℕ → List ℕ
count n = bytes_of (n ∷ [])

-- a plaque of four bytes at node 2
abbrev plaque : List ℕ
plaque = bytes "020004E0040100002E16AD11223344"

-- the front of a plaque record: node, length, ID
abbrev begun : ℕ → ℕ → List ℕ
begun node size = node ∷ bytes_of (size ∷ []) ++ bytes "E0040100002E16AE"

-- a command in the given month, on the 19th, 10:11:36
abbrev sent : ℕ → List ℕ → List ℕ
sent month ws = month ∷ bytes "130A0B24" ++ bytes_of ws

abbrev read_three : List ℕ
read_three = sent 3 (reads 2 0 3)

-- document 01's example
abbrev pub example : List ℕ
example = bytes "0001020004E0040100002E16AD11223344000203130A0B240006AA05000207D00000000303130A0B250006AA090002000000000000"

-- a file of that plaque and one command; of no plaque and one command, in the given month; of one plaque record and no command
abbrev one : List ℕ → List ℕ
one ws = count 1 ++ plaque ++ count 1 ++ sent 3 ws

abbrev alone : ℕ → List ℕ → List ℕ
alone month ws = count 0 ++ count 1 ++ sent month ws

abbrev placed : List ℕ → List ℕ
placed bs = count 1 ++ bs ++ count 0

abbrev gets_name : List ℕ
gets_name = hex "0006 AA11 0020 0000 0000 0000"

abbrev resets : List ℕ
resets = hex "0006 AA61 0020 0000 0000 0000"

-- a text so many times over
abbrev times : ℕ → String → List ℕ
times zero s = []
times (suc n) s = ascii s ++ times n s

infix 80 ◌lists◌
abbrev pub ◌lists◌ : List ℕ → String → Bool
file lists text = same (listing file) (ascii text)

-- ---- files that are played to their end
unfoldable pub played_cases : List Case
played_cases =
    "the paper's example" says example lists "commands 2\n0008 AA05 0002 0313 0A0B 2403 1122 3300\nrefused 8\n"
    ∷ "Tag Not Found" says alone 3 (search 1) lists "commands 1\n0007 FFFF 0001 0313 0A0B 2401 0700\n"
    ∷ "each part of the stamp in its place" says
    (bytes "000000010102030405" ++ bytes_of (search 1)) lists "commands 1\n0007 FFFF 0001 0102 0304 0501 0700\n"
    ∷ "the ID of a plaque record" says
    one (hex "0006 AA07 0002 07D0 0000 0000") lists "commands 1\n000A AA07 0002 0313 0A0B 2408 E004 0100 002E 16AD\n"
    ∷ "every byte of a plaque record, and none behind it" says
    (count 1 ++ plaque ++ count 2 ++ sent 3 (reads 2 0 4) ++ sent 3 (reads 2 0 5)) lists
    "commands 2\n0008 AA05 0002 0313 0A0B 2404 1122 3344\nrefused 12\n"
    ∷ "two plaques, each at its node" says
    (count 2 ++ plaque ++ begun 16 1 ++ bytes "55" ++ count 2 ++ sent 3 (reads 16 0 1) ++ sent 3 (reads 2 3 1)) lists
    "commands 2\n0007 AA05 0010 0313 0A0B 2401 5500\n0007 AA05 0002 0313 0A0B 2401 4400\n"
    ∷ "N-3 two counts of 0" says bytes "00000000" lists "commands 0\n"
    ∷ "N-4 the second plaque at a node counts, with its length" says
    (count 2 ++ plaque ++ begun 2 2 ++ bytes "5566" ++ count 1 ++ read_three) lists "commands 1\nrefused 12\n"
    ∷ "N-4 the second plaque at a node counts, with its bytes" says
    (count 2 ++ plaque ++ begun 2 2 ++ bytes "5566" ++ count 1 ++ sent 3 (reads 2 0 2)) lists
    "commands 1\n0007 AA05 0002 0313 0A0B 2402 5566\n"
    ∷ "N-7 the answer of 61 has count 0, the next 1" says
    (count 0 ++ count 3 ++ sent 3 gets_name ++ sent 3 resets ++ sent 3 gets_name) lists
    "commands 3\n0006 AA11 0020 0313 0A0B 2400\n0006 AA61 0020 0313 0A0B 2400\n0006 AA11 0120 0313 0A0B 2400\n"
    ∷ "N-7 each answer is collected at its own node, and acknowledged" says
    (count 0 ++ count 3 ++ sent 3 (search 16) ++ sent 3 gets_name ++ sent 3 (search 16)) lists
    "commands 3\n0007 FFFF 0010 0313 0A0B 2401 0700\n0006 AA11 0020 0313 0A0B 2400\n0007 FFFF 0110 0313 0A0B 2401 0700\n"
    ∷ []

-- ---- what a night starts with, and what collect hands over: an answer of 134 words too
unfoldable pub handed_cases : List Case
handed_cases =
    "plaque memory all 0 at reader 1" says same ((blank full).reader 1).region (replicate 1024 0)
    ∷ "plaque memory all 0 at reader 16" says same ((blank full).reader 16).region (replicate 1024 0)
    ∷ "no plaque memory at node 32" says same ((blank full).reader 32).region []
    ∷ "the longest answer" says
    same (listing (count 1 ++ begun 2 255 ++ replicate 255 0xAB ++ count 1 ++ sent 3 (reads 2 0 255)))
    (ascii "commands 1\n0086 AA05 0002 0313 0A0B 24FF" ++ times 127 " ABAB" ++ ascii " AB00\n")
    ∷ "the number that is handed over" says eqb (handover_in (answered (handed [] 7))) 7
    ∷ "no number with a refusal" says eqb (handover_in (refused 14)) 0
    ∷ "no number with done" says eqb (handover_in (answered done)) 0
    ∷ "no number with quiet" says eqb (handover_in (answered quiet)) 0
    ∷ "no number with queued" says eqb (handover_in queued) 0
    ∷ []

-- ---- "refused": N-8, by what the command says; the gateway is as it was
unfoldable pub refused_cases : List Case
refused_cases =
    "N-5 the stamp" says alone 13 (reads 2 0 3) lists "commands 1\nrefused 3\n"
    ∷ "N-8 a wrong AA" says one (hex "0006 AB05 0002 07D0 0000 0003") lists "commands 1\nrefused 5\n"
    ∷ "N-8 node 17" says one (reads 17 0 3) lists "commands 1\nrefused 7\n"
    ∷ "N-8 08 at the gateway" says one (search 32) lists "commands 1\nrefused 8\n"
    ∷ "N-8 a word too many" says one (hex "0007 AA05 0002 07D0 0000 0003 0000") lists "commands 1\nrefused 9\n"
    ∷ "N-8 size 0" says one (reads 2 0 0) lists "commands 1\nrefused 10\n"
    ∷ "N-8 an unused word" says one (hex "0006 AA08 0002 0001 0000 0009") lists "commands 1\nrefused 11\n"
    ∷ "N-8 past the plaque" says one (reads 2 2 3) lists "commands 1\nrefused 12\n"
    ∷ "a refused command has no answer and no count" says
    (count 1 ++ plaque ++ count 2 ++ sent 3 (reads 2 2 3) ++ read_three) lists
    "commands 2\nrefused 12\n0008 AA05 0002 0313 0A0B 2403 1122 3300\n"
    ∷ []

-- ---- "ends the listing with the line `broken`"
unfoldable pub broken_cases : List Case
broken_cases =
    "N-1 a command more than there are" says
    (count 1 ++ plaque ++ count 2 ++ read_three) lists "commands 2\n0008 AA05 0002 0313 0A0B 2403 1122 3300\nbroken\n"
    ∷ "N-2 a byte left" says (one (reads 2 0 3) ++ bytes "00") lists "commands 1\n0008 AA05 0002 0313 0A0B 2403 1122 3300\nbroken\n"
    ∷ "N-2 a byte left after no command" says bytes "0000000000" lists "commands 0\nbroken\n"
    ∷ "N-3 the count is the file's" says bytes "00000001" lists "commands 1\nbroken\n"
    ∷ "a count of two bytes" says bytes "00000100" lists "commands 256\nbroken\n"
    ∷ "the largest count" says bytes "0000FFFF" lists "commands 65535\nbroken\n"
    ∷ "N-5 Overall Length before the stamp" says alone 13 (hex "0005 AA05 0002 07D0 0000") lists "commands 1\nbroken\n"
    ∷ "Overall Length 5" says alone 3 (hex "0005 AA05 0002 07D0 0000") lists "commands 1\nbroken\n"
    ∷ "Overall Length 6" says alone 3 (hex "0006 0000 0000 0000 0000 0000") lists "commands 1\nrefused 5\n"
    ∷ "Overall Length 134" says alone 3 (0x0086 ∷ replicate 133 0) lists "commands 1\nrefused 5\n"
    ∷ "Overall Length 135" says alone 3 (0x0087 ∷ replicate 134 0) lists "commands 1\nbroken\n"
    ∷ "Overall Length 262" says alone 3 (0x0106 ∷ replicate 261 0) lists "commands 1\nbroken\n"
    ∷ "N-5 a cut command is not called" says
    (count 1 ++ plaque ++ count 1 ++ take 16 read_three) lists "commands 1\nbroken\n"
    ∷ "nothing is played behind the first error" says
    (count 0 ++ count 2 ++ sent 3 (hex "0005 AA05 0002 07D0 0000") ++ read_three) lists "commands 2\nbroken\n"
    ∷ "N-6 65,536 bytes" says (bytes "00000000" ++ replicate 65532 0) lists "commands 0\nbroken\n"
    ∷ []

-- ---- "an error in the plaques or either count gives that line alone"
unfoldable pub alone_cases : List Case
alone_cases =
    "N-3 no byte" says [] lists "broken\n"
    ∷ "N-3 one byte" says bytes "00" lists "broken\n"
    ∷ "N-3 two bytes" says bytes "0000" lists "broken\n"
    ∷ "N-3 three bytes" says bytes "000000" lists "broken\n"
    ∷ "N-1 half a plaque count, and it would be 256" says bytes "01" lists "broken\n"
    ∷ "N-1 a plaque more than there are" says (count 2 ++ plaque ++ count 0) lists "broken\n"
    ∷ "N-1 half a command count" says (count 1 ++ plaque ++ bytes "00") lists "broken\n"
    ∷ "a plaque that ends early" says (count 1 ++ take 14 plaque) lists "broken\n"
    ∷ "a plaque that ends within its ID" says (count 1 ++ take 10 plaque) lists "broken\n"
    ∷ "N-6 65,537 bytes" says (bytes "00000000" ++ replicate 65533 0) lists "broken\n"
    ∷ "N-10 node 0" says placed (begun 0 1 ++ bytes "11") lists "broken\n"
    ∷ "N-10 node 1" says placed (begun 1 1 ++ bytes "11") lists "commands 0\n"
    ∷ "N-10 node 16" says placed (begun 16 1 ++ bytes "11") lists "commands 0\n"
    ∷ "N-10 node 17" says placed (begun 17 1 ++ bytes "11") lists "broken\n"
    ∷ "N-10 node 32" says placed (begun 32 1 ++ bytes "11") lists "broken\n"
    ∷ "N-10 no bytes" says placed (begun 2 0) lists "broken\n"
    ∷ "N-10 1,024 bytes" says placed (begun 2 1024 ++ replicate 1024 0x11) lists "commands 0\n"
    ∷ "N-10 1,025 bytes" says placed (begun 2 1025 ++ replicate 1025 0x11) lists "broken\n"
    ∷ "a second plaque out of limits" says (count 2 ++ plaque ++ begun 17 1 ++ bytes "11" ++ count 0) lists "broken\n"
    ∷ []

unfoldable pub night_cases : List Case
night_cases = played_cases ++ handed_cases ++ refused_cases ++ broken_cases ++ alone_cases
