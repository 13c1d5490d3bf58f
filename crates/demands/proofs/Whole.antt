-- "The lowest number that applies is given", of all the numbers that a call meets.
-- Assumes nothing.
use Rattle.units.proofs.Common.{sym, ◌∙◌, ◌≡◌, refl, ap, subst, true, List, [], ◌∷◌, ℕ, ◌≤◌, le_refl, arith, leb, le-leb, leb-true}
use Rattle.units.proofs.Common.{and_true}
use Rattle.meaning.proofs.Terms.{Doubts, refusal, Bench, frame_doubts, who_doubts, limit_doubts, unused_doubts, row_doubts, command_doubts}
use Rattle.meaning.proofs.Terms.{Gateway, Call, command, check, arrive, leave, collect, acknowledge, Said, refused, answered, queued, asked}
use Rattle.meaning.proofs.Terms.{step}
use Rattle.demands.specs.Sound.{Sound}
use Rattle.demands.specs.Wrong.{state_doubts, wrong}
use Rattle.demands.specs.Order.{doubts, numbers, rise, Applies, Lowest}
use Rattle.demands.proofs.Lowest.{refusal_applies, refusal_lowest, rise_positive}
use Rattle.demands.proofs.Numbers.{refused_numbers}
use Rattle.demands.proofs.Late.{number, number_step}

said_number : (s : Said) → 1 ≤ number s → s ≡ refused (number s)
said_number (refused k) h = refl
said_number (answered r) h = absurd (omega arith)
said_number queued h = absurd (omega arith)

-- so it is where the numbers never fall, and what is said is by the first that applies
pub lowest_by : (s : Said) (ds : Doubts) → rise 1 (numbers (doubts ds)) ≡ true → ((k : ℕ) → s ≡ refused k → 1 ≤ k) → number s ≡ refusal ds →
    Lowest s ds
lowest_by s ds up some e = record {
  applies = λ k h. subst (λ (n : ℕ). Applies n (doubts ds)) (is k h) (refusal_applies ds (rise_positive 1 _ (le_refl 1) up)
      (λ z. omega (arith, is k h, some k h)));
  lowest = λ k h n a. omega (arith, is k h, refusal_lowest ds up n a);
  refuses = λ n a. (number s, said_number s (omega (arith, refusal_lowest ds up n a)));
}
  where
    is : (k : ℕ) → s ≡ refused k → refusal ds ≡ k
    is k h = sym e ∙ ap number h

-- numbers of k or more are of any lower number or more
pub rise_down : (j k : ℕ) (ns : List ℕ) → j ≤ k → rise k ns ≡ true → rise j ns ≡ true
unfolding rise
rise_down j k [] h e = refl
rise_down j k (n ∷ ns) h e =
    let p = and_true (leb k n) _ e in
    rw (le-leb j n (omega (arith, leb-true k n p.0)), p.1)

-- the numbers of a call's doubts are 3 or more and never fall, whatever the tests beside them say
pub wrong_rise : (b : Bench) (g : Gateway) (c : Call) → rise 3 (numbers (doubts (wrong b g c))) ≡ true
unfolding rise numbers doubts wrong state_doubts asked command_doubts frame_doubts row_doubts who_doubts limit_doubts unused_doubts
wrong_rise b g (command t f ws) = refl
wrong_rise b g (check n t k) = refl
wrong_rise b g (arrive n id s) = refl
wrong_rise b g (leave n) = refl
wrong_rise b g (collect f n k) = refl
wrong_rise b g (acknowledge n h) = refl

-- "The lowest number that applies is given": 3 to 16
pub said_lowest : (b : Bench) → Sound b → (g : Gateway) (c : Call) → Lowest (step b g c).said (wrong b g c)
said_lowest b ok g c = lowest_by _ _ (rise_down 1 3 _ (omega arith) (wrong_rise b g c)) (λ k e. omega (arith, refused_numbers b ok g c k e))
    (number_step b ok g c)
