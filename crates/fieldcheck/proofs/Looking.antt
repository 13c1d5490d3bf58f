-- The field check of a reader: each way that the code returns is the definition's local outcome.
-- Assumes nothing.
use Rattle.units.proofs.Common.{sym, ◌∙◌, ◌≡◌, refl, ap, true, false, Bool, not, ◌||◌, List, ℕ, ◌≤◌, ◌-◌, ◌+◌, arith, eqb, ltb, length}
use Rattle.units.proofs.Common.{drop, take, slice, le-leb, not-false, lt-leb, yes_cond, no_cond, yes_or, no_or, or_false}
use Rattle.units.specs.declared.Words.{Words}
use Rattle.units.specs.declared.stamp.Stamp.{Stamp}
use Rattle.meaning.proofs.Terms.{full, on, plaque, Field, Local, quiet, repeats, answer, looked}
use Rattle.meaning.specs.Gateway.{Mode}
use Rattle.meaning.specs.Gateway as M
use Rattle.meaning.specs.declared.packet.Response.{Response}
use Rattle.machine.proofs.Terms.{reader_of, field_of, mode_of, report_of}
use Rattle.state.specs.declared.reader.Reader.{Reader}
use Rattle.promise.proofs.Readers.{with_reading, reader_parts, reading_range, reported_ok, reported_means}
use Rattle.answers.specs.Say.{good, Sayable, Says}
use Rattle.answers.specs.Decided.{bare}
use Rattle.answers.proofs.Cuts.{cut}
use Rattle.decided.specs.Decided.{altered, Suits, Readable, quietly, seen, Looks}
use Rattle.decided.specs.declared.Change.TheVariants as C
use Rattle.decided.specs.declared.Decided.{Decided}
use Rattle.decided.proofs.Serving.{refusal, reply, serves_refused, serves_good, is_past, not_past, field, in_region, part_sayable}

-- the reader, once its plaque is reported
abbrev pub with_report : Reader → ℕ → Reader
with_report x clock = with_reading x x.reading (record { kept = true; id = x.plaque.id; clock = clock })

-- continuous reading on
mode : (x : Reader) (region : List ℕ) → eqb x.reading.size.0 0 ≡ false
    → (reader_of x region).mode ≡ on x.reading.start x.reading.size.0 x.reading.delay (report_of x.report)
unfolding reader_of mode_of
mode x region busy = no_cond _ busy

pub look_sayable : {n : ℕ} {t : Stamp} {x : Reader} {region room : ℕ} → Readable full n t x region room
    → eqb x.reading.size.0 0 ≡ false
    → {r : Response} {count : ℕ} → r ≡ good count n t 0x0D → (l : List ℕ)
    → Sayable full r (length (take (x.reading.start + x.reading.size.0 - x.reading.start) l)) room
look_sayable {x = x} a busy g l =
    let h = reading_range full x.reading x.report.kept (reader_parts full x a.in_order).reading busy in
    part_sayable a g x.reading.start x.reading.size.0 h.0 l

-- ---- quiet, for one of three causes
pub quiet_absent : (x : Reader) (clock : ℕ) → x.plaque.present ≡ false → true ≡ quietly x clock
unfolding quietly
quiet_absent x clock p = sym (yes_or _ (ap not p))

pub quiet_off : (x : Reader) (clock : ℕ) → eqb x.reading.size.0 0 ≡ true → true ≡ quietly x clock
unfolding quietly
quiet_off x clock e = second (not x.plaque.present) _ _ e
  where
    second : (t u v : Bool) → u ≡ true → true ≡ (t || (u || v))
    second true u v e = refl
    second false u v e = sym (yes_or v e)

pub quiet_rest : (x : Reader) (clock : ℕ) → x.plaque.present ≡ true → eqb x.reading.size.0 0 ≡ false
    → repeats x.plaque.id clock x.reading.delay (report_of x.report) ≡ quietly x clock
unfolding quietly
quiet_rest x clock p e = sym (no_or (ap not p) ∙ no_or e)

module _ (count clock n : ℕ) (t : Stamp) (x : Reader) (region : List ℕ) where
  -- with a plaque in the field
  seen_at : x.plaque.present ≡ true → {m : Mode} → (reader_of x region).mode ≡ m → seen count n t clock x region
      ≡ looked n (bare count) t clock (reader_of x region) (plaque x.plaque.id x.plaque.length.0) m
  unfolding reader_of
  seen_at p e =
      ap (λ (f : Field). looked n (bare count) t clock (reader_of x region) f (reader_of x region).mode) (field x region p)
      ∙ ap (looked n (bare count) t clock (reader_of x region) (plaque x.plaque.id x.plaque.length.0)) e

  pub look_quiet : quietly x clock ≡ true → seen count n t clock x region ≡ Local.give quiet (reader_of x region)
  unfolding quietly reader_of field_of mode_of looked
  look_quiet h = by x.plaque.present refl (eqb x.reading.size.0 0) refl h
    where
      by : (p : Bool) → x.plaque.present ≡ p → (z : Bool) → eqb x.reading.size.0 0 ≡ z
          → (not p || (z || repeats x.plaque.id clock x.reading.delay (report_of x.report))) ≡ true
          → seen count n t clock x region ≡ Local.give quiet (reader_of x region)
      by false p z e h =
          ap (λ (f : Field). looked n (bare count) t clock (reader_of x region) f (reader_of x region).mode) (no_cond _ p)
      by true p true e h = seen_at p (yes_cond _ e)
      by true p false e h = seen_at p (mode x region e) ∙ yes_cond _ h

-- ---- not quiet
pub record Busy (x : Reader) (clock : ℕ) : Type 0 where
  pub here : x.plaque.present ≡ true
  pub on : eqb x.reading.size.0 0 ≡ false
  pub new : repeats x.plaque.id clock x.reading.delay (report_of x.report) ≡ false

pub busy : (x : Reader) (clock : ℕ) → quietly x clock ≡ false → Busy x clock
unfolding quietly
busy x clock h =
    let p = or_false (not x.plaque.present) _ h in
    let q = or_false (eqb x.reading.size.0 0) _ p.1 in
    record { here = not-false _ p.0; on = q.0; new = q.1 }

module _ (count clock : ℕ) {n : ℕ} {t : Stamp} {x : Reader} {region : List ℕ} {room : ℕ} {d : Decided} {out : List ℕ}
    (a : Readable full n t x (length region) room) (b : Busy x clock)
    {past : Bool} (f : past ≡ ltb x.plaque.length.0 (x.reading.start + x.reading.size.0)) where
  pub look_past : past ≡ true → d ≡ refusal x 12 → Looks full count n t clock x region d out
  unfolding looked
  look_past h w = record {
    serves = serves_refused a.in_order w
        (seen_at count clock n t x region b.here (mode x region b.on) ∙ no_cond _ b.new
        ∙ no_cond _ (lt-leb (x.reading.start + x.reading.size.0) x.plaque.length.0 (is_past f h)));
    kept = ap (λ (d : Decided). d.change) w;
  }

  pub look_due : past ≡ false → {r : Response} {k : Words} {y : Reader} → r ≡ good count n t 0x0D
      → Says full r (take (x.reading.start + x.reading.size.0 - x.reading.start) (drop x.reading.start region)) k.0 out
      → y ≡ with_report x clock → d ≡ reply y C.Kept k → Looks full count n t clock x region d out
  unfolding reader_of altered Suits looked
  look_due h {r} {k} {y} g s z w =
      let start : ℕ = x.reading.start in
      let size : ℕ = x.reading.size.0 in
      let i : start + size ≤ length region = in_region a b.here (not_past f h) in
      record {
        serves = serves_good (reported_ok full x a.in_order clock b.on) (w ∙ ap (λ (y : Reader). reply y C.Kept k) z) g s tt
            (seen_at count clock n t x region b.here (mode x region b.on) ∙ no_cond _ b.new
            ∙ yes_cond _ (le-leb (start + size) x.plaque.length.0 (not_past f h))
            ∙ ap (λ (r : M.Reader). Local.due r (answer n (bare count) t 0x0D (slice start (start + size) region)))
            (sym (reported_means x region clock b.on))
            ∙ ap (λ (s : List ℕ). Local.due (reader_of (with_report x clock) region) (answer n (bare count) t 0x0D s))
            (sym (cut region start size i (start + size - start) (omega arith))));
        kept = ap (λ (d : Decided). d.change) w;
      }
