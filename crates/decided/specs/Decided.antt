-- What was decided of a reader's call, as the definition says it: an outcome that is `Local`.
-- Assumes nothing.
use Rattle.std.specs.Prelude.{ℕ, ◌+◌, ◌≤◌, ◌≡◌, Bool, true, not, ◌||◌, List, [], eqb, length, take, replicate}
use Rattle.std.proofs.Math.Seq.{paste}
use Rattle.units.specs.Stamp.{is_stamp}
use Rattle.units.specs.Packing.{bytes_of}
use Rattle.units.specs.declared.stamp.Stamp.{Stamp}
use Rattle.meaning.specs.Bench.{Bench, is_reader}
use Rattle.meaning.specs.Packet.{overall}
use Rattle.meaning.specs.Gateway as M
use Rattle.meaning.specs.Call.{Local, repeats, obeyed, looked}
use Rattle.meaning.specs.declared.table.Kind.{Kind}
use Rattle.meaning.specs.declared.packet.Command.{Command}
use Rattle.machine.specs.Machine.{field_of, mode_of, reader_of}
use Rattle.state.specs.Reports.{report_of}
use Rattle.machine.specs.Consistent.{reader_ok}
use Rattle.state.specs.declared.reader.Reader.{Reader}
use Rattle.answers.specs.Ordered.{load_of, Ready}
use Rattle.answers.specs.Decided.{bare, told, Formed}
use Rattle.decided.specs.declared.Change.{Change}
use Rattle.decided.specs.declared.Change.TheVariants as C
use Rattle.decided.specs.declared.Decided.{Decided}

-- the region after the change; ws are the command's data words
unfoldable pub altered : Change → List ℕ → List ℕ → List ℕ
altered C.Kept ws region = region
altered (C.Filled start size byte) ws region = paste region start (replicate size byte) size
altered (C.Written start size) ws region = paste region start (bytes_of ws) size

-- the change stays inside a region of so many bytes, and all of its bytes came
unfoldable pub Suits : Change → List ℕ → ℕ → Type 0
Suits C.Kept ws region = Unit
Suits (C.Filled start size byte) ws region = start + size ≤ region
Suits (C.Written start size) ws region = (start + size ≤ region) × (size ≤ length (bytes_of ws))

-- ---- what the code rests on
-- at any reader's call
pub record Readable (b : Bench) (n : ℕ) (t : Stamp) (x : Reader) (region answer : ℕ) : Type 0 where
  pub reader : is_reader b n ≡ true
  pub stamp : is_stamp t ≡ true
  pub in_order : reader_ok b x ≡ true
  pub whole : region ≡ b.region
  pub long : overall 255 ≤ answer

-- .. and at an accepted command
pub record Servable (b : Bench) (t : Stamp) (k : Kind) (m : Command) (words : List ℕ) (x : Reader) (region answer : ℕ) : Type 0 where
  pub readable : Readable b m.node t x region answer
  pub ready : Ready b k m words

-- ---- the decision d, at reader n, is the local outcome l of the definition; ws are the command's data words
abbrev pub decided : Decided → List ℕ → List ℕ → List ℕ → Local M.Reader
decided d ws region answer = told d.verdict (reader_of d.after (altered d.change ws region)) (take d.words.0 answer)

-- what settling it rests on
pub record Settles (b : Bench) (n : ℕ) (d : Decided) (answer : List ℕ) : Type 0 where
  pub in_order : reader_ok b d.after ≡ true
  pub inside : d.words.0 ≤ length answer
  pub formed : Formed b n d.verdict (take d.words.0 answer)

pub record Serves (b : Bench) (n : ℕ) (l : Local M.Reader) (ws region : List ℕ) (d : Decided) (answer : List ℕ) : Type 0 where
  pub same : decided d ws region answer ≡ l
  pub settles : Settles b n d answer
  pub suits : Suits d.change ws (length region)

-- a command, of a node with so many earlier answers
abbrev pub Obeys : Bench → ℕ → Stamp → Kind → Command → List ℕ → Reader → List ℕ → Decided → List ℕ → Type 0
Obeys b count t k m ws x region d answer =
    Serves b m.node (obeyed m.node (bare count) t k m (load_of b m ws) (reader_of x region)) ws region d answer

-- a field check: "quiet, changing nothing, unless continuous reading is on, a plaque is there, and it isn't a repeat"
unfoldable pub quietly : Reader → ℕ → Bool
quietly x clock =
    not x.plaque.present || (eqb x.reading.size.0 0 || repeats x.plaque.id clock x.reading.delay (report_of x.report))

abbrev pub seen : ℕ → ℕ → Stamp → ℕ → Reader → List ℕ → Local M.Reader
seen count n t clock x region = looked n (bare count) t clock (reader_of x region) (field_of x.plaque) (mode_of x.reading x.report)

-- one that is not quiet; the region stays as it is
pub record Looks (b : Bench) (count n : ℕ) (t : Stamp) (clock : ℕ) (x : Reader) (region : List ℕ) (d : Decided) (answer : List ℕ)
    : Type 0 where
  pub serves : Serves b n (seen count n t clock x region) [] region d answer
  pub kept : d.change ≡ C.Kept
