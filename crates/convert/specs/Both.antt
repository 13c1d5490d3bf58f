-- Request E8: "From states that mean the same, any run of calls gives the same results in both layouts". What a call promises of a machine
-- with places is what `promise` says of one without gaps, word for word; its calls need not stay as code.
-- Assumes nothing.
use Rattle.std.specs.Prelude.{◌≡◌, true, false, cond, List, [], ◌∷◌, map, eqb}
use Rattle.meaning.specs.Bench.{Bench}
use Rattle.meaning.specs.Gateway.{Gateway}
use Rattle.meaning.specs.Call.{Call, Said, refused, Outcome, step}
use Rattle.placed.specs.Machine.{Machine, meaning}
use Rattle.placed.specs.Consistent.{unfit}
use Rattle.machine.specs.Machine as N
use Rattle.promise.specs.Obeyed.{is_refusal}
use Rattle.promise.specs.Runs as R

-- On machine m the outcome o of the meaning is brought about (`promise`, `Does`)
pub record Does (b : Bench) (o : Outcome) (m : Machine) (said : Said) (m' : Machine) : Type 0 where
  pub says : said ≡ o.said
  pub refusal : is_refusal said ≡ true → m' ≡ m
  pub sound : is_refusal said ≡ false → unfit b m' ≡ 0
  pub means : is_refusal said ≡ false → meaning b m' ≡ o.next

unfoldable pub expected : Bench → Call → Machine → Outcome
expected b c m = cond (eqb (unfit b m) 0) (step b (meaning b m) c) (record { said = refused (unfit b m); next = meaning b m })

abbrev pub Obeyed : Bench → Call → Machine → Said → Machine → Type 0
Obeyed b c m said m' = Does b (expected b c m) m said m'

-- calls one after the other, each on the machine that the one before left (`promise`, `Chain`)
pub record Exchange : Type 0 where
  pub call : Call
  pub said : Said
  pub after : Machine

unfoldable pub Chain : Bench → Machine → List Exchange → Type 0
Chain b m [] = Unit
Chain b m (h ∷ hs) = Obeyed b h.call m h.said h.after × Chain b h.after hs

abbrev pub calls : List Exchange → List Call
calls hs = map (λ h. h.call) hs

-- ---- what a run gives, call by call: what is said, and the gateway that is meant after it; with places, and without gaps
abbrev pub results : Bench → List Exchange → List (Said × Gateway)
results b hs = map (λ h. (h.said, meaning b h.after)) hs

abbrev pub new_results : Bench → List R.Exchange → List (Said × Gateway)
new_results b hs = map (λ h. (h.said, N.meaning b h.after)) hs
