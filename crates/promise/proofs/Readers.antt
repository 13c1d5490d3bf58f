-- One reader changed, with its region; and the changes that the calls make.
-- Assumes nothing.
use Rattle.units.proofs.Common.{rules, sym, ◌∙◌, ◌≡◌, refl, ap, fun_ext, true, false, Bool, cond, List, ℕ, ◌≤◌, ◌-◌, ◌+◌, arith, eqb, leb}
use Rattle.units.proofs.Common.{length, get_or, set, length-set, eq-eqb, le-leb, eqb-true, leb-true, eqb-false, every, and_true, yes_cond}
use Rattle.units.proofs.Common.{no_cond}
use Rattle.units.specs.declared.Bytes.{Bytes}
use Rattle.meaning.proofs.Terms.{Bench, is_reader, last, on, put, set_reader, set_mode}
use Rattle.meaning.specs.Gateway as M
use Rattle.machine.proofs.Terms.{fresh_reader, no_plaque, no_report, Machine, machine, meaning, seen, readers_of, reader_of, field_of, mode_of}
use Rattle.machine.proofs.Terms.{report_of, region_of, plaque_ok, reading_ok, report_ok, reader_ok, unfit}
use Rattle.state.specs.State.{off}
use Rattle.machine.specs.Machine.{reader_slot}
use Rattle.state.specs.declared.reader.Plaque.{Plaque}
use Rattle.state.specs.declared.reader.Reading.{Reading}
use Rattle.state.specs.declared.reader.Report.{Report}
use Rattle.state.specs.declared.reader.Reader.{Reader}
use Rattle.state.specs.declared.State.{State}
use Rattle.state.proofs.Lists.{both, every_get, every_set}
use Rattle.promise.proofs.Parts.{Parts, parts, fit, Means}
use Rattle.promise.proofs.Tables.{seen_set, reader_range, reader_inj, reader_at}
use Rattle.promise.proofs.Regions.{Within}

-- a state with another reader at an index
abbrev pub with_reader : State → ℕ → Reader → State
with_reader s i x = record { name = s.name; readers = set s.readers i x; nodes = s.nodes; held = s.held }

-- ---- what the machine means at reader n
module _ (b : Bench) (m : Machine) (n : ℕ) (is : is_reader b n ≡ true) (x : Reader) (at : get_or m.state.readers (n - 1) fresh_reader ≡ x)
  where
    pub reader_is : (meaning b m).reader n ≡ reader_of x (region_of b m.memory n)
    reader_is = reader_at b m n is ∙ ap (λ y. reader_of y (region_of b m.memory n)) at

    pub field_is : ((meaning b m).reader n).field ≡ field_of x.plaque
    unfolding reader_of
    field_is = ap (λ (r : M.Reader). r.field) reader_is

    pub mode_is : ((meaning b m).reader n).mode ≡ mode_of x.reading x.report
    unfolding reader_of
    mode_is = ap (λ (r : M.Reader). r.mode) reader_is

    pub reader_in_order : Parts b m → reader_ok b x ≡ true
    reader_in_order p =
        ap (reader_ok b) (sym at)
        ∙ every_get (reader_ok b) m.state.readers (n - 1) fresh_reader p.readers (omega (arith, p.each_reader, reader_range b n is))

-- ---- a reader replaced, and nothing else but in its region
put_readers : (b : Bench) (memory memory' : List ℕ) (n : ℕ) (x : Reader) (f : ℕ → Reader) → Within b n memory memory' → (k : ℕ)
    → reader_of (put n x f k) (region_of b memory' k) ≡ put n (reader_of x (region_of b memory' n)) (λ j. reader_of (f j) (region_of b memory j))
    k
unfolding put
put_readers b memory memory' n x f h k = by_number (eqb k n) refl
  where
    by_number : (t : Bool) → eqb k n ≡ t
        → reader_of (cond t x (f k)) (region_of b memory' k) ≡ cond t (reader_of x (region_of b memory' n))
        (reader_of (f k) (region_of b memory k))
    by_number true e = rw (eqb-true k n e)
    by_number false e = rw (h.others k (eqb-false k n e))

module _ (b : Bench) (m : Machine) (n : ℕ) (is : is_reader b n ≡ true) (x : Reader) (memory' : List ℕ) (h : Within b n m.memory memory')
  where
    readers_set : Parts b m → readers_of b memory' (set m.state.readers (n - 1) x)
        ≡ put n (reader_of x (region_of b memory' n)) (readers_of b m.memory m.state.readers)
    unfolding readers_of
    readers_set p =
        let rs : List Reader = m.state.readers in
        let e : seen (is_reader b) reader_slot fresh_reader (set rs (n - 1) x) ≡ put n x (seen (is_reader b) reader_slot fresh_reader rs) =
        seen_set (is_reader b) reader_slot fresh_reader rs n x is (omega (arith, p.each_reader, reader_range b n is))
        (λ k q r. reader_inj b k n is q r) in
        fun_ext (λ k. rw e (put_readers b m.memory memory' n x (seen (is_reader b) reader_slot fresh_reader rs) h k))

    pub reader_means : Parts b m
        → meaning b (machine (with_reader m.state (n - 1) x) m.store memory') ≡ set_reader n (reader_of x (region_of b memory' n))
        (meaning b m)
    unfolding meaning
    reader_means p =
        rw (readers_set p)

    pub reader_fit : Parts b m → reader_ok b x ≡ true → Parts b (machine (with_reader m.state (n - 1) x) m.store memory')
    reader_fit p o =
        let memory = h.long ∙ p.memory in
        let readers = every_set (reader_ok b) m.state.readers (n - 1) x p.readers o in
        let each = length-set m.state.readers (n - 1) x ∙ p.each_reader in
        search rules

    pub reader_changed : unfit b m ≡ 0 → reader_ok b x ≡ true → (r : M.Reader) → reader_of x (region_of b memory' n) ≡ r
        → Means b (machine (with_reader m.state (n - 1) x) m.store memory') (set_reader n r (meaning b m))
    reader_changed u o r e =
        let p = parts b m u in
        record { fit = fit b _ (reader_fit p o); means = reader_means p ∙ ap (λ y. set_reader n y (meaning b m)) e }

-- ---- a reader in order, part by part
pub record ReaderParts (b : Bench) (x : Reader) : Type 0 where
  pub plaque : plaque_ok b x.plaque ≡ true
  pub reading : reading_ok b x.reading x.report.kept ≡ true
  pub report : report_ok x.report ≡ true

module _ (b : Bench) (x : Reader) where
  pub reader_parts : reader_ok b x ≡ true → ReaderParts b x
  unfolding reader_ok
  reader_parts o =
      let p = and_true (plaque_ok b x.plaque) _ o in
      let q = and_true (reading_ok b x.reading x.report.kept) _ p.1 in
      record { plaque = p.0; reading = q.0; report = q.1 }

  pub reader_whole : ReaderParts b x → reader_ok b x ≡ true
  unfolding reader_ok
  reader_whole p = both p.plaque (both p.reading p.report)

pub id_long : (b : Bench) (p : Plaque) → plaque_ok b p ≡ true → length p.id ≡ 8
unfolding plaque_ok
id_long b p o = eqb-true _ _ (and_true (eqb (length p.id) 8) _ o).0

-- a plaque that is there has 1 byte to a whole region
pub plaque_bytes : (b : Bench) (p : Plaque) → plaque_ok b p ≡ true → p.present ≡ true → (1 ≤ p.length.0) × (p.length.0 ≤ b.region)
unfolding plaque_ok
plaque_bytes b p o e =
    let w = and_true (leb 1 p.length.0) _ (sym (yes_cond _ e) ∙ (and_true (eqb (length p.id) 8) _ o).1) in
    (leb-true _ _ w.0, leb-true _ _ w.1)

-- continuous reading that is on ends within a region
pub reading_range : (b : Bench) (r : Reading) (kept : Bool) → reading_ok b r kept ≡ true → eqb r.size.0 0 ≡ false
    → (r.size.0 ≤ 255) × (r.start + r.size.0 ≤ b.region)
unfolding reading_ok
reading_range b r kept o e =
    let p = and_true (leb r.size.0 255) _ (sym (no_cond _ e) ∙ o) in
    let q = and_true (leb (r.start + r.size.0) b.region) _ p.1 in
    (leb-true _ _ p.0, leb-true _ _ q.0)

-- ---- the changes that the code makes: in order, and what they mean
abbrev pub with_plaque : Reader → Plaque → Reader
with_plaque x p = record { plaque = p; reading = x.reading; report = x.report }

abbrev pub with_reading : Reader → Reading → Report → Reader
with_reading x r p = record { plaque = x.plaque; reading = r; report = p }

module _ (b : Bench) (x : Reader) (o : reader_ok b x ≡ true) where
  pub left_ok : reader_ok b (with_plaque x no_plaque) ≡ true
  unfolding plaque_ok every
  left_ok = let p = reader_parts b x o in reader_whole b _ (record { plaque = refl; reading = p.reading; report = p.report })

  pub arrived_ok : (id : List ℕ) (n : Bytes) → length id ≡ 8 → 1 ≤ n.0 → n.0 ≤ b.region
      → reader_ok b (with_plaque x (record { present = true; id = id; length = n })) ≡ true
  unfolding plaque_ok
  arrived_ok id n e l h =
      let p = reader_parts b x o in
      reader_whole b _
      (record { plaque = both (eq-eqb _ _ e) (both (le-leb _ _ l) (le-leb _ _ h)); reading = p.reading; report = p.report })

  pub stopped_ok : reader_ok b (with_reading x off no_report) ≡ true
  unfolding reading_ok report_ok every
  stopped_ok = reader_whole b _ (record { plaque = (reader_parts b x o).plaque; reading = refl; report = refl })

  pub started_ok : (r : Reading) → eqb r.size.0 0 ≡ false → r.size.0 ≤ 255 → r.start + r.size.0 ≤ b.region → r.delay ≤ 60
      → reader_ok b (with_reading x r no_report) ≡ true
  unfolding reading_ok report_ok every
  started_ok r e s h d =
      reader_whole b _ (record {
        plaque = (reader_parts b x o).plaque;
        reading = no_cond _ e ∙ both (le-leb _ _ s) (both (le-leb _ _ h) (le-leb _ _ d));
        report = refl;
      })

  pub reported_ok : (clock : ℕ) → eqb x.reading.size.0 0 ≡ false
      → reader_ok b (with_reading x x.reading (record { kept = true; id = x.plaque.id; clock = clock })) ≡ true
  unfolding reading_ok report_ok
  reported_ok clock e =
      let p = reader_parts b x o in
      reader_whole b _ (record {
        plaque = p.plaque;
        reading = no_cond _ e ∙ (sym (no_cond _ e) ∙ p.reading);
        report = both (eq-eqb _ _ (id_long b x.plaque p.plaque)) refl;
      })

module _ (x : Reader) (region : List ℕ) where
  pub reported_means : (clock : ℕ) → eqb x.reading.size.0 0 ≡ false
      → reader_of (with_reading x x.reading (record { kept = true; id = x.plaque.id; clock = clock })) region
      ≡ set_mode (on x.reading.start x.reading.size.0 x.reading.delay (last x.plaque.id clock)) (reader_of x region)
  unfolding reader_of mode_of report_of
  reported_means clock e = rw e
