-- Collect, where what is lent is at fault.
-- Assumes nothing.
use Rattle.units.proofs.Common.{◌≡◌, ap, subst, List, ℕ}
use Rattle.meaning.proofs.Terms.{Bench, Call, Said}
use Rattle.machine.proofs.Terms.{Machine, unfit}
use Rattle.promise.specs.Obeyed.{Obeyed, replied, written, Collects}
use Rattle.promise.specs.declared.Handout.{Handout}
use Rattle.promise.proofs.Promises.{unlent}

pub collect_unlent : (b : Bench) (m : Machine) (c : Call) (k : ℕ) (out : List ℕ) → unfit b m ≡ k → (k ≡ 0 → ⊥) → Collects b c m
    (Handout.Refused k) out out
unfolding replied written
collect_unlent b m c k out e d =
    let o = unlent b m c k e d in
    record {
      reply = ap replied o.says;
      output = ap (λ (s : Said). written s out) o.says;
      obeyed = subst (λ (s : Said). Obeyed b c m s m) o.says o;
    }
