-- How a promise is kept: once for every call. What is lent is at fault; the meaning refuses; the meaning says something else.
-- Assumes nothing.
use Rattle.units.proofs.Common.{sym, ◌∙◌, ◌≡◌, refl, false, true≢false, ℕ, eq-eqb, ne_eqb}
use Rattle.meaning.proofs.Terms.{Bench, hub, Reader, Gateway, set_reader, Call, Said, refused, answered, Result, Outcome, Local, Desk}
use Rattle.meaning.proofs.Terms.{from_desk, lifted, settled, step}
use Rattle.machine.proofs.Terms.{Machine, meaning, unfit}
use Rattle.promise.specs.Obeyed.{is_refusal, Does, expected, Obeyed}
use Rattle.promise.proofs.Parts.{Means}

abbrev pub saying : Said → Gateway → Outcome
saying s g = record { said = s; next = g }

module _ (b : Bench) (m : Machine) where
  -- ---- an outcome of the meaning
  pub does_refused : (k : ℕ) → Does b (saying (refused k) (meaning b m)) m (refused k) m
  unfolding is_refusal
  does_refused k = record { says = refl; refusal = λ _. refl; sound = λ f. absurd (true≢false f); means = λ f. absurd (true≢false f) }

  pub does_said : (s : Said) (g : Gateway) (m' : Machine) → is_refusal s ≡ false → Means b m' g → Does b (saying s g) m s m'
  does_said s g m' t h = record {
    says = refl;
    refusal = λ f. absurd (true≢false (sym f ∙ t));
    sound = λ _. h.fit;
    means = λ _. h.means;
  }

  -- ---- a call: what is lent is at fault ..
  pub unlent : (c : Call) (k : ℕ) → unfit b m ≡ k → (k ≡ 0 → ⊥) → Obeyed b c m (refused k) m
  unfolding expected
  unlent c k e n = rw (ne_eqb (unfit b m) 0 (λ z. n (sym e ∙ z)), e) (does_refused k)

  -- .. or it is not, and the promise is of the meaning's step
  module _ (c : Call) (fit : unfit b m ≡ 0) where
    pub by_step : {o : Outcome} {s : Said} {m' : Machine} → step b (meaning b m) c ≡ o → Does b o m s m' → Obeyed b c m s m'
    unfolding expected
    by_step e d = rw (eq-eqb (unfit b m) 0 fit, e) d

    pub turning : (k : ℕ) → step b (meaning b m) c ≡ saying (refused k) (meaning b m) → Obeyed b c m (refused k) m
    turning k e = by_step e (does_refused k)

    pub obeying : (s : Said) (g : Gateway) (m' : Machine) → is_refusal s ≡ false → step b (meaning b m) c ≡ saying s g → Means b m' g
        → Obeyed b c m s m'
    obeying s g m' t e h = by_step e (does_said s g m' t h)

-- ---- what its own node makes of a call: l, at node n, where `into` puts the changed part back
abbrev pub Locally : {A : Type 0} → Bench → Machine → (A → Gateway → Gateway) → ℕ → Local A → Said → Machine → Type 0
Locally b m into n l s m' = Does b (settled b (meaning b m) (lifted into n (meaning b m) l)) m s m'

-- .. at a reader, and at the gateway's own node
abbrev pub AtReader : Bench → Machine → ℕ → Local Reader → Said → Machine → Type 0
AtReader b m n l s m' = Locally b m (set_reader n) n l s m'

abbrev pub AtHub : Bench → Machine → Local Desk → Said → Machine → Type 0
AtHub b m l s m' = Locally b m from_desk hub l s m'

-- it refuses, or gives a result with no answer
module _ {A : Type 0} (b : Bench) (m : Machine) (into : A → Gateway → Gateway) (n : ℕ) {l : Local A} where
  pub refusing : {k : ℕ} → l ≡ Local.refuse k → Locally b m into n l (refused k) m
  unfolding lifted settled
  refusing {k} e = rw e (does_refused b m k)

  pub giving : {r : Result} {a : A} → l ≡ Local.give r a → (m' : Machine) → Means b m' (into a (meaning b m)) → Locally b m into n l
      (answered r) m'
  unfolding lifted settled is_refusal
  giving {r} {a} e m' h = rw e (does_said b m (answered r) (into a (meaning b m)) m' refl h)
