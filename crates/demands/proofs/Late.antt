-- What is said is by the first doubt of `wrong` that applies: what its own node makes of a call, then room, then what it says alone.
-- Assumes nothing.
use Rattle.units.proofs.Common.{sym, ◌∙◌, ◌≡◌, refl, ap, true, false, Bool, not, ℕ, arith, eqb, eqb-true, eqb-false, yes_cond}
use Rattle.meaning.proofs.Terms.{◌when◌, ◌or_else◌, refusal, Bench, fits, Gateway, join, Call, Try, Said, refused, answered, queued, Outcome}
use Rattle.meaning.proofs.Terms.{asked, judged, whom, heeded, tried, roomed, settled, step}
use Rattle.meaning.proofs.Chain.{pass, stop}
use Rattle.demands.specs.Sound.{Sound}
use Rattle.demands.specs.Wrong.{no_room, state_doubts, wrong}
use Rattle.demands.proofs.Local.{roomless}
use Rattle.demands.proofs.Aim.{aim}
use Rattle.demands.proofs.Numbers.{FineT, fine_heeded, judged_given}

-- ---- with room: 13 comes between 12 and 14
abbrev pub number : Said → ℕ
number (refused k) = k
number (answered r) = 0
number queued = 0

-- no answer is due: 13 does not apply
undue : (k : ℕ) (p q r s : Bool) → k ≡ roomless p q r s → k ≡ refusal (12 when p or_else 13 when false or_else 14 when q or_else 15 when r
    or_else 16 when s)
unfolding refusal
undue k true q r s e = e
undue k false q r s e = e

-- an answer is due: no other number applies
isdue : (t : Bool) (g h : Gateway) (p q r s : Bool) → 0 ≡ roomless p q r s
    → number (roomed t g h).said ≡ refusal (12 when p or_else 13 when not t or_else 14 when q or_else 15 when r or_else 16 when s)
unfolding refusal roomed
isdue true g h p q r s e = undue 0 p q r s e
isdue false g h true q r s e = absurd (omega arith)
isdue false g h false q r s e = refl

number_settled : (b : Bench) (g : Gateway) (t : Try) (p q r s : Bool) → FineT (roomless p q r s) t
    → number (settled b g t).said ≡ refusal (12 when p or_else 13 when no_room b t or_else 14 when q or_else 15 when r or_else 16 when s)
unfolding settled no_room FineT
number_settled b g (Try.refuse k) p q r s e = undue k p q r s e.1
number_settled b g (Try.give x h) p q r s e = undue 0 p q r s e
number_settled b g (Try.due n h w) p q r s e = isdue (fits b n (join n w h)) g (join n w h) p q r s e

-- what is said is by the first doubt that applies
pub number_step : (b : Bench) → Sound b → (g : Gateway) (c : Call) → number (step b g c).said ≡ refusal (wrong b g c)
unfolding step wrong state_doubts judged
number_step b ok g c = by_judgement (eqb (judged b c) 0) refl
  where
    by_judgement : (t : Bool) → eqb (judged b c) 0 ≡ t
        → number (settled b g (tried b g c)).said ≡ refusal (asked b c or_else state_doubts b g c)
    by_judgement true e =
        let j = eqb-true (judged b c) 0 e in
        let h : tried b g c ≡ heeded b g c (whom b c) = unfold tried in yes_cond _ e in
        number_settled b g (tried b g c) _ _ _ _ (rw h (fine_heeded b ok g c j (aim b c))) ∙ sym (pass (asked b c) _ j)
    by_judgement false e =
        let j = eqb-false (judged b c) 0 e in
        ap (λ (o : Outcome). number o.said) (judged_given b g c j) ∙ sym (stop (asked b c) _ j)
