-- Where readers and nodes stand in the state's arrays, and what stands there.
-- Assumes nothing.
use Rattle.units.proofs.Common.{sym, ◌∙◌, ◌≡◌, refl, ap, true, false, Bool, cond, [], ℕ, ◌≤◌, ◌-◌, ◌<◌, arith, get_or}
use Rattle.meaning.proofs.Terms.{full, is_reader}
use Rattle.machine.proofs.Terms.{fresh_reader, Machine, unfit}
use Rattle.state.specs.declared.reader.Reader.{Reader}
use Rattle.std.proofs.lemmas.List.{get_or_default}
use Rattle.promise.proofs.Parts.{parts}
use Rattle.promise.proofs.Tables.{reader_range}

-- ---- what `reader_slot` says of a node: past the array, it is no reader; inside, it is one, and this is its index
module _ (n i : ℕ) (e : i ≡ cond (is_reader full n) (n - 1) full.readers) where
  pub slot_out : full.readers ≤ i → is_reader full n ≡ false
  slot_out h = by_test (is_reader full n) refl e
    where
      by_test : (t : Bool) → is_reader full n ≡ t → i ≡ cond t (n - 1) full.readers → is_reader full n ≡ false
      by_test true f p = let r = reader_range full n f in absurd (omega arith)
      by_test false f p = f

  pub slot_in : i < full.readers → (is_reader full n ≡ true) × (i ≡ n - 1)
  slot_in h = by_reader (is_reader full n) refl e
    where
      by_reader : (t : Bool) → is_reader full n ≡ t → i ≡ cond t (n - 1) full.readers → (is_reader full n ≡ true) × (i ≡ n - 1)
      by_reader true f p = (f, p)
      by_reader false f p = absurd (omega arith)

-- ---- what code reads at the index of a reader, of a node; `blankReader` is what it would read past the array's end
abbrev pub blank_reader : Reader
blank_reader = record {
  plaque = record { present = false; id = []; length = record { 0 = 0 } };
  reading = record { start = 0; size = record { 0 = 0 }; delay = 0 };
  report = record { kept = false; id = []; clock = 0 };
}

module _ (m : Machine) (n i : ℕ) (fit : unfit full m ≡ 0) (is : is_reader full n ≡ true) (at : i ≡ n - 1) where
  pub reader_there : get_or m.state.readers (n - 1) fresh_reader ≡ get_or m.state.readers i blank_reader
  reader_there =
      ap (λ (k : ℕ). get_or m.state.readers k fresh_reader) (sym at)
      ∙ get_or_default m.state.readers i fresh_reader blank_reader (omega (arith, (parts full m fit).each_reader, reader_range full n is))
