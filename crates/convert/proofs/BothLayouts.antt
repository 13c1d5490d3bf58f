-- "From states that mean the same, any run of calls gives the same results in both layouts": two machines, one fit with places and one
-- without gaps, that mean the same, and any list of calls: the same is said, call by call, and after each call the machines mean the same.
-- Assumes nothing.
use Rattle.units.proofs.Common.{sym, ◌∙◌, ◌≡◌, refl, ap, List, [], ◌∷◌, ℕ, arith, eq-eqb}
use Rattle.meaning.proofs.Terms.{Bench, Outcome, step}
use Rattle.machine.specs.Machine as N
use Rattle.machine.specs.Consistent as C
use Rattle.promise.specs.Runs as R
use Rattle.promise.proofs.Chains as NC
use Rattle.placed.specs.Machine.{Machine, meaning}
use Rattle.placed.specs.Consistent.{unfit}
use Rattle.convert.specs.Both.{Does, expected, Exchange, Chain, calls, results, new_results}

pub both_layouts : (b : Bench) (m : Machine) (n : N.Machine) → unfit b m ≡ 0 → C.unfit b n ≡ 0 → meaning b m ≡ N.meaning b n
    → (hs : List Exchange) (ks : List R.Exchange) → Chain b m hs → R.Chain b n ks → calls hs ≡ R.calls ks → results b hs ≡ new_results b ks
unfolding Chain R.Chain expected
both_layouts b m n u v e [] [] c d q = refl
both_layouts b m n u v e [] (k ∷ ks) c d q = absurd (let z : ◌≡◌ {A = ℕ} 0 1 = cc in omega arith)
both_layouts b m n u v e (h ∷ hs) [] c d q = absurd (let z : ◌≡◌ {A = ℕ} 0 1 = cc in omega arith)
both_layouts b m n u v e (h ∷ hs) (k ∷ ks) c d q =
    let f : Does b (step b (meaning b m) h.call) m h.said h.after = rw (eq-eqb (unfit b m) 0 u) at c.0 in
    let x = NC.stepped_by b (meaning b) (unfit b) h.call m h.after h.said u f.says f.refusal f.sound f.means in
    let y = NC.stepped b k.call n k.said k.after v d.0 in
    let same : h.call ≡ k.call = cc in
    let rest : calls hs ≡ R.calls ks = cc in
    let o : step b (meaning b m) h.call ≡ step b (N.meaning b n) k.call = cc in
    let s : h.said ≡ k.said = f.says ∙ ap (λ (z : Outcome). z.said) o ∙ sym y.says in
    let w : meaning b h.after ≡ N.meaning b k.after = x.0 ∙ ap (λ (z : Outcome). z.next) o ∙ sym y.means in
    cc (both_layouts b h.after k.after x.1 y.fit w hs ks c.1 d.1 rest)
