-- Document 01, "The night run": the listing of a run file, as a function of the file's bytes.
-- Assumes nothing.
use Rattle.std.specs.Prelude.{ℕ, zero, suc, cond, List, [], ◌∷◌, leb, eqb, length, drop, replicate}
use Rattle.units.specs.declared.stamp.Stamp.{Stamp}
use Rattle.units.specs.declared.Form.TheVariants.{Register}
use Rattle.meaning.specs.Bench.{Bench, full, is_reader}
use Rattle.meaning.specs.Gateway.{Gateway, fresh}
use Rattle.meaning.specs.Call.{command, arrive, collect, acknowledge, named, done, quiet, handed, Said, refused, answered, queued, step}
use Rattle.text.specs.Text.{words_line}
use Rattle.listing.specs.Records.{count_whole, count_said, plaque_whole, plaque_node, plaque_id, plaque_bytes, plaque_size}
use Rattle.listing.specs.Records.{command_whole, command_stamp, command_packet, command_size}
use Rattle.listing.specs.Lines.{commands_line, refused_line, broken_line, flat}

-- ---- one command: "each command's answer is collected in register form and acknowledged"
-- the words and the handover number that collect handed over
unfoldable pub words_handed : Said → List ℕ
words_handed (answered (handed ws h)) = ws
words_handed (answered done) = []
words_handed (answered quiet) = []
words_handed (refused k) = []
words_handed queued = []

unfoldable pub handover_in : Said → ℕ
handover_in (answered (handed ws h)) = h
handover_in (answered done) = 0
handover_in (answered quiet) = 0
handover_in (refused k) = 0
handover_in queued = 0

-- "Files are at most 65,536 bytes", and no listing of such a file is longer than this
abbrev pub longest_file : ℕ
longest_file = 65536

abbrev pub longest_listing : ℕ
longest_listing = 2600000

-- a command's line, and the gateway after it
pub record Turn : Type 0 where
  pub line : List ℕ
  pub after : Gateway

-- an answer of node n was queued, and stands in g. (134 words are room for every answer: it is always handed over, law `turn-answer`.)
unfoldable pub handed_over : Bench → ℕ → Gateway → Turn
handed_over b n g =
    let c = step b g (collect Register n 134) in
    record { line = words_line (words_handed c.said); after = (step b c.next (acknowledge n (handover_in c.said))).next }

-- node n was given the command
unfoldable pub heard : Bench → ℕ → Gateway → Said → Turn
heard b n g queued = handed_over b n g
heard b n g (refused k) = record { line = refused_line k; after = g }
heard b n g (answered r) = record { line = []; after = g }  -- never said of a command

unfoldable pub turn : Bench → Gateway → Stamp → List ℕ → Turn
turn b g t ws = let c = command t Register ws in let o = step b g c in heard b (named c) o.next o.said

module _ (b : Bench) where
  -- the command and the plaque at the front of the bytes
  unfoldable pub turned : Gateway → List ℕ → Turn
  turned g bs = turn b g (command_stamp bs) (command_packet bs)

  unfoldable pub arrived : Gateway → List ℕ → Gateway
  arrived g bs = (step b g (arrive (plaque_node bs) (plaque_id bs) (plaque_bytes bs))).next

  -- ---- "A file that ends early, has bytes left, a plaque record out of limits, or an Overall Length outside 6 to 134 ends the listing
  -- with the line `broken`; an error in the plaques or either count gives that line alone."
  -- the lines where n commands are to come
  unfoldable pub command_lines : ℕ → Gateway → List ℕ → List (List ℕ)
  command_lines zero g bs = cond (eqb (length bs) 0) [] (broken_line ∷ [])
  command_lines (suc n) g bs =
      cond (command_whole bs) ((turned g bs).line ∷ command_lines n (turned g bs).after (drop (command_size bs) bs)) (broken_line ∷ [])

  -- "The first line has the file's command count"
  unfoldable pub counted_lines : Gateway → List ℕ → List (List ℕ)
  counted_lines g bs = cond (count_whole bs) (commands_line (count_said bs) ∷ command_lines (count_said bs) g (drop 2 bs)) (broken_line ∷ [])

  -- "Plaques arrive first": the lines where n plaques are to come
  unfoldable pub plaque_lines : ℕ → Gateway → List ℕ → List (List ℕ)
  plaque_lines zero g bs = counted_lines g bs
  plaque_lines (suc n) g bs = cond (plaque_whole b bs) (plaque_lines n (arrived g bs) (drop (plaque_size bs) bs)) (broken_line ∷ [])

  -- "Files are at most 65,536 bytes; a longer one gives `broken` alone."
  unfoldable pub file_lines : Gateway → List ℕ → List (List ℕ)
  file_lines g bs =
      cond (leb (length bs) longest_file)
      (cond (count_whole bs) (plaque_lines (count_said bs) g (drop 2 bs)) (broken_line ∷ []))
      (broken_line ∷ [])

-- the gateway that a night starts with: fresh, its plaque memory all 0
unfoldable pub blank : Bench → Gateway
blank b = fresh (λ n. cond (is_reader b n) (replicate b.region 0) [])

-- the whole listing
unfoldable pub listing : List ℕ → List ℕ
listing bs = flat (file_lines full (blank full) bs)
