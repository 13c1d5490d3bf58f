-- "The lowest number that applies is given", of every call of the code, on any machine.
-- Assumes nothing.
use Rattle.units.proofs.Common.{sym, ◌∙◌, ◌≡◌, refl, ap, true, false, Bool, ℕ, ◌≤◌, arith, eqb, eqb-true, eqb-false, yes_cond, no_cond}
use Rattle.meaning.proofs.Terms.{refusal, Bench, Call, Said, Outcome, refused, step}
use Rattle.meaning.proofs.Chain.{pass, stop}
use Rattle.demands.specs.Sound.{Sound}
use Rattle.demands.specs.Wrong.{wrong}
use Rattle.demands.specs.Order.{doubts, numbers, rise, Lowest}
use Rattle.demands.proofs.Numbers.{refused_numbers}
use Rattle.demands.proofs.Late.{number, number_step}
use Rattle.demands.proofs.Whole.{lowest_by, rise_down, wrong_rise}
use Rattle.machine.proofs.Terms.{Machine, meaning, lent, unfit}
use Rattle.promise.specs.Obeyed.{expected, Obeyed}
use Rattle.promise.specs.Faults.{faults}

module _ (b : Bench) (ok : Sound b) (c : Call) (m : Machine) where
  -- what is said is by the first that applies, and is no refusal 0
  record First : Type 0 where
    first : number (expected b c m).said ≡ refusal (faults b m c)
    some : (k : ℕ) → (expected b c m).said ≡ refused k → 1 ≤ k

  first_fault : First
  unfolding expected unfit faults
  first_fault = by_fit (eqb (unfit b m) 0) refl
    where
      by_fit : (t : Bool) → eqb (unfit b m) 0 ≡ t → First
      by_fit true e =
          let is : expected b c m ≡ step b (meaning b m) c = yes_cond _ e in
          record {
            first = ap (λ (o : Outcome). number o.said) is ∙ number_step b ok (meaning b m) c ∙ sym (pass (lent b m) _ (eqb-true _ _ e));
            some = λ k h. omega (arith, refused_numbers b ok (meaning b m) c k (ap (λ (o : Outcome). o.said) (sym is) ∙ h));
          }
      by_fit false e =
          let z = eqb-false (unfit b m) 0 e in
          let is : expected b c m ≡ record { said = refused (unfit b m); next = meaning b m } = no_cond _ e in
          record {
            first = ap (λ (o : Outcome). number o.said) is ∙ sym (stop (lent b m) _ z);
            some = λ k h. let q : unfit b m ≡ k = ap (λ (o : Outcome). number o.said) (sym is) ∙ ap number h in omega arith;
          }

  faults_rise : rise 1 (numbers (doubts (faults b m c))) ≡ true
  unfolding rise numbers doubts faults lent
  faults_rise = rise_down 2 3 (numbers (doubts (wrong b (meaning b m) c))) (omega arith) (wrong_rise b (meaning b m) c)

  -- "each given exactly when that paper says": a refusal's number applies, and no lower one; where one applies, there is a refusal
  pub code_lowest : (said : Said) (m' : Machine) → Obeyed b c m said m' → Lowest said (faults b m c)
  code_lowest said m' o = rw o.says (lowest_by _ _ faults_rise first_fault.some first_fault.first)
