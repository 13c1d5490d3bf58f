-- What a whole record says in numbers, and back; and what an answer of the reader says of the bytes.
-- Assumes nothing.
use Rattle.units.proofs.Common.{◌≡◌, true, false, List, ℕ, ◌≤◌, ◌+◌, ◌*◌, arith, length}
use Rattle.std.proofs.Common.{Some, None}
use Rattle.std.proofs.lemmas.Bool.Decides.{nat_tests}
use Rattle.units.specs.declared.Words.{Words}
use Rattle.meaning.proofs.Terms.{Bench}
use Rattle.listing.specs.Records.{count_whole, count_said, plaque_whole, plaque_node, plaque_length, command_whole, command_length}
use Rattle.runfile.specs.Records.{count_of, plaque_of, command_of}
use Rattle.runfile.specs.declared.PlaqueRecord.{PlaqueRecord}

-- ---- a count
pub count_there : (bs : List ℕ) → count_whole bs ≡ true → 2 ≤ length bs
unfolding count_whole
count_there bs e = grind (arith, nat_tests)

pub there_count : (bs : List ℕ) → 2 ≤ length bs → count_whole bs ≡ true
unfolding count_whole
there_count bs h = grind (arith, nat_tests)

pub record CountRead (bs : List ℕ) (n : ℕ) : Type 0 where
  pub said : n ≡ count_said bs
  pub whole : count_whole bs ≡ true
  pub there : 2 ≤ length bs

pub count_read : (bs : List ℕ) {n : ℕ} → Some n ≡ count_of bs → CountRead bs n
unfolding count_of
count_read bs e = grind (arith, nat_tests, count_there)

pub count_unread : (bs : List ℕ) → None ≡ count_of bs → count_whole bs ≡ false
unfolding count_of
count_unread bs e = grind (arith, nat_tests)

-- ---- a plaque, of node n with l bytes
pub record PlaqueFacts (b : Bench) (bs : List ℕ) (n l : ℕ) : Type 0 where
  pub node_low : 1 ≤ n
  pub node_high : n ≤ b.readers
  pub low : 1 ≤ l
  pub high : l ≤ b.region
  pub there : 11 + l ≤ length bs

pub plaque_facts : (b : Bench) (bs : List ℕ) → plaque_whole b bs ≡ true → PlaqueFacts b bs (plaque_node bs) (plaque_length bs)
unfolding plaque_whole
plaque_facts b bs e = grind (arith, nat_tests)

pub facts_plaque : (b : Bench) (bs : List ℕ) → PlaqueFacts b bs (plaque_node bs) (plaque_length bs) → plaque_whole b bs ≡ true
unfolding plaque_whole
facts_plaque b bs f = grind (arith, nat_tests)

pub record PlaqueRead (b : Bench) (bs : List ℕ) (n l : ℕ) : Type 0 where
  pub node : n ≡ plaque_node bs
  pub size : l ≡ plaque_length bs
  pub whole : plaque_whole b bs ≡ true
  pub facts : PlaqueFacts b bs n l

pub plaque_read : (b : Bench) (bs : List ℕ) {p : PlaqueRecord} → Some p ≡ plaque_of b bs → PlaqueRead b bs p.node p.length.0
unfolding plaque_of
plaque_read b bs e = grind (arith, nat_tests, plaque_facts)

pub plaque_unread : (b : Bench) (bs : List ℕ) → None ≡ plaque_of b bs → plaque_whole b bs ≡ false
unfolding plaque_of
plaque_unread b bs e = grind (arith, nat_tests)

-- ---- a command, of n words
pub record CommandFacts (bs : List ℕ) (n : ℕ) : Type 0 where
  pub low : 6 ≤ n
  pub high : n ≤ 134
  pub there : 5 + 2 * n ≤ length bs

pub command_facts : (bs : List ℕ) → command_whole bs ≡ true → CommandFacts bs (command_length bs)
unfolding command_whole
command_facts bs e = grind (arith, nat_tests)

pub facts_command : (bs : List ℕ) → CommandFacts bs (command_length bs) → command_whole bs ≡ true
unfolding command_whole
facts_command bs f = grind (arith, nat_tests)

pub record CommandRead (bs : List ℕ) (n : ℕ) : Type 0 where
  pub size : n ≡ command_length bs
  pub whole : command_whole bs ≡ true
  pub facts : CommandFacts bs n

pub command_read : (bs : List ℕ) {n : Words} → Some n ≡ command_of bs → CommandRead bs n.0
unfolding command_of
command_read bs e = grind (arith, nat_tests, command_facts)

pub command_unread : (bs : List ℕ) → None ≡ command_of bs → command_whole bs ≡ false
unfolding command_of
command_unread bs e = grind (arith, nat_tests)
