-- A field check, of the machine: refused by what it says, or obeyed as its own reader makes of it.
-- Assumes nothing.
use Rattle.units.proofs.Common.{◌∙◌, ◌≡◌, refl, ap, true, false, not, ℕ, arith, is_stamp}
use Rattle.units.specs.declared.stamp.Stamp.{Stamp}
use Rattle.meaning.proofs.Terms.{Bench, is_reader, check, Said, refused, asked, judged, looked, at_reader, named}
use Rattle.meaning.proofs.Chain.{none, pass_if, stop_if}
use Rattle.machine.proofs.Terms.{Machine, meaning, unfit}
use Rattle.promise.specs.Obeyed.{Obeyed}
use Rattle.promise.proofs.Promises.{AtReader}
use Rattle.promise.proofs.Steps.{refused_by, reader_called}

module _ (b : Bench) (m : Machine) (fit : unfit b m ≡ 0) (n : ℕ) (t : Stamp) (clock : ℕ) where
  pub checked_3 : is_stamp t ≡ false → Obeyed b (check n t clock) m (refused 3) m
  unfolding judged asked
  checked_3 e = refused_by b m (check n t clock) fit 3 (stop_if 3 _ refl (ap not e)) (λ z. omega arith)

  module _ (good : is_stamp t ≡ true) where
    pub checked_7 : is_reader b n ≡ false → Obeyed b (check n t clock) m (refused 7) m
    unfolding judged asked
    checked_7 e =
        refused_by b m (check n t clock) fit 7 (pass_if 3 _ (ap not good) ∙ stop_if 7 _ refl (ap not e)) (λ z. omega arith)

    pub checked_by : is_reader b n ≡ true → b.continuous ≡ true → {s : Said} {m' : Machine}
        → AtReader b m n
        (looked n ((meaning b m).nodes n) t clock ((meaning b m).reader n) ((meaning b m).reader n).field ((meaning b m).reader n).mode) s
        m'
        → Obeyed b (check n t clock) m s m'
    unfolding judged asked named at_reader
    checked_by r c d =
        reader_called b m (check n t clock) fit n (pass_if 3 _ (ap not good) ∙ pass_if 7 _ (ap not r) ∙ none 10 (ap not c)) refl r d
