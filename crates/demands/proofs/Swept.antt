-- "For 61 and 79 room is judged after emptying, so it is always there": such a command, if nothing is wrong with it, is obeyed.
-- Assumes nothing.
use Rattle.units.proofs.Common.{sym, ◌∙◌, ◌≡◌, refl, ap, subst, inl, inr, true, false, false≢true, true≢false, List, ℕ, ℕ_discrete, arith}
use Rattle.units.proofs.Common.{eq-eqb, eqb-true}
use Rattle.units.specs.declared.Form.{Form}
use Rattle.units.specs.declared.stamp.Stamp.{Stamp}
use Rattle.meaning.proofs.Terms.{Bench, hub, Gateway, Sweep, none, share_of, table, lookup, row_of, suits, Call, command, Local, Try, Whom}
use Rattle.meaning.proofs.Terms.{nobody, gateway, one, Desk, refused, queued, Outcome, judged, kind_in, whom, lifted, from_desk, heeded}
use Rattle.meaning.proofs.Terms.{tried, roomed, settled, step}
use Rattle.meaning.specs.declared.table.OfGateway.{OfGateway}
use Rattle.meaning.specs.declared.table.OfGateway.TheVariants.{ResetGateway, Clear}
use Rattle.meaning.specs.declared.table.Kind.{Kind}
use Rattle.meaning.specs.declared.table.Kind.TheVariants as K
use Rattle.demands.specs.Sound.{Sound}
use Rattle.demands.specs.Demand.{Bounds}
use Rattle.demands.specs.Counts.{is_sweep, broom_of, broom_kind, broom_call, broom_for, Sweeps}
use Rattle.demands.proofs.Room.{Within, BoundsT, bounds_heeded, fits_within, swept_empty}
use Rattle.demands.proofs.Counted.{Brooms, brooms_at_hub}
use Rattle.demands.proofs.Aim.{Aim, aim, reader_apart}
use Rattle.demands.proofs.Numbers.{who, never_nobody, judged_low, judged_given}

-- a call with the broom z: if it sweeps, an answer is due and is within the share of its node
SweepT : Bench → Sweep → Try → Type 0
SweepT b z (Try.refuse k) = is_sweep z ≡ false
SweepT b z (Try.give r h) = is_sweep z ≡ false
SweepT b z (Try.due n h w) = is_sweep z ≡ true → Within b n w h

sweep_none : (b : Bench) (t : Try) → SweepT b none t
unfolding SweepT is_sweep
sweep_none b (Try.refuse k) = refl
sweep_none b (Try.give r h) = refl
sweep_none b (Try.due n h w) = λ e. absurd (false≢true e)

sweep_hub : (b : Bench) → Sound b → (z : Sweep) (g : Gateway) (l : Local Desk) → Brooms z l → SweepT b z (lifted from_desk hub g l)
unfolding lifted SweepT Brooms from_desk share_of
sweep_hub b ok z g (Local.refuse k) e = e
sweep_hub b ok z g (Local.give r d) e = e.1
sweep_hub b ok z g Local.acked e = e
sweep_hub b ok z g (Local.due d w) e = λ s. omega (arith, ok, e.1 s, swept_empty d.broom (g.nodes hub) (ap is_sweep e.0 ∙ s))

sweep_heeded : (b : Bench) → Sound b → (g : Gateway) (c : Call) (v : Whom) → SweepT b (broom_for b c v) (heeded b g c v)
unfolding heeded broom_for
sweep_heeded b ok g c nobody = sweep_none b _
sweep_heeded b ok g c gateway = sweep_hub b ok (broom_call b c) g _ (brooms_at_hub b (g.nodes hub) g.name c)
sweep_heeded b ok g c (one n) = sweep_none b _

sweep_settled : (b : Bench) → Sound b → (z : Sweep) (g : Gateway) (t : Try) → is_sweep z ≡ true → BoundsT b t → SweepT b z t
    → (settled b g t).said ≡ queued
unfolding SweepT BoundsT settled roomed
sweep_settled b ok z g (Try.refuse k) s i e = absurd (true≢false (sym s ∙ e))
sweep_settled b ok z g (Try.give r h) s i e = absurd (true≢false (sym s ∙ e))
sweep_settled b ok z g (Try.due n h w) s i e = rw (fits_within b ok n w h i (e s))

pub sweeping_given : (b : Bench) → Sound b → (g : Gateway) → Bounds b g → (c : Call) → judged b c ≡ 0 → is_sweep (broom_for b c (whom b c)) ≡
    true
    → (step b g c).said ≡ queued
unfolding step tried
sweeping_given b ok g i c e s =
    rw (eq-eqb (judged b c) 0 e)
    (sweep_settled b ok (broom_for b c (whom b c)) g _ s (bounds_heeded b g c (whom b c) i) (sweep_heeded b ok g c (whom b c)))

-- ---- the same by the packet's number: a 61 or a 79 in which nothing is wrong is for the gateway, and sweeps
record Swept (k : Kind) : Type 0 where
  sweeps : is_sweep (broom_kind k) ≡ true
  node : (n : ℕ) → suits k n ≡ true → n ≡ hub

swept_of : (k : OfGateway) → is_sweep (broom_of k) ≡ true → Swept (K.Gateway k)
unfolding suits broom_kind
swept_of k e = record { sweeps = e; node = λ n h. eqb-true n hub h }

module _ (b : Bench) (t : Stamp) (f : Form) (ws : List ℕ) where
  sweeps_kind : Sweeps f ws → Swept (kind_in b f ws)
  unfolding kind_in table lookup row_of broom_of is_sweep
  sweeps_kind (inl e) = subst (λ (c : ℕ). Swept (row_of b c).kind) (sym e) (swept_of ResetGateway refl)
  sweeps_kind (inr e) = subst (λ (c : ℕ). Swept (row_of b c).kind) (sym e) (swept_of Clear refl)

  sweeps_broom : Sound b → judged b (command t f ws) ≡ 0 → Sweeps f ws → {v : Whom} → Aim b (command t f ws) v
      → is_sweep (broom_for b (command t f ws) v) ≡ true
  unfolding broom_for broom_call
  sweeps_broom ok e s (Aim.nowhere p q) = absurd (never_nobody b (command t f ws) e p q)
  sweeps_broom ok e s (Aim.desk p q) = (sweeps_kind s).sweeps
  sweeps_broom ok e s (Aim.reader p) = absurd (reader_apart b ok _ p ((sweeps_kind s).node _ (who b t f ws e).1))

  pub sweep_queued : Sound b → (g : Gateway) → Bounds b g → Sweeps f ws → judged b (command t f ws) ≡ 0
      → (step b g (command t f ws)).said ≡ queued
  sweep_queued ok g i s e = sweeping_given b ok g i (command t f ws) e (sweeps_broom ok e s (aim b (command t f ws)))

  -- so whatever else may be wrong with it, it is never refused for room
  pub sweep_room : Sound b → (g : Gateway) → Bounds b g → Sweeps f ws → (step b g (command t f ws)).said ≡ refused 13 → ⊥
  sweep_room ok g i s r = elim (ℕ_discrete (judged b (command t f ws)) 0) [
    | yes e ↦ let q = sweep_queued ok g i s e in let z : ◌≡◌ {A = ℕ} 0 1 = cc in omega arith
    | no d ↦
        let q : (step b g (command t f ws)).said ≡ refused (judged b (command t f ws)) =
        ap (λ (o : Outcome). o.said) (judged_given b g (command t f ws) d) in
        let z : judged b (command t f ws) ≡ 13 = cc in omega (arith, judged_low b (command t f ws))
  ]
