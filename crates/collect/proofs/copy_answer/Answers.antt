-- The part of the store that is copied has as many words as the answer's first word says.
use Rattle.units.proofs.Common.{◌∙◌, ◌≡◌, ap, ℕ, ◌-◌, ◌+◌, arith, drop, get_or, take}
use lib.Seq.{sets}
use Rattle.collect.proofs.copy_answer.Goals as goal

pub returns : goal.returns
returns c =
    let a = c.args in
    let n = get_or a.store.now a.place 0 in
    let e : a.place + n - a.place ≡ n = omega arith in
    c.copy_in.ensures ∙ ap (λ (k : ℕ). sets a.out.now a.to (take k (drop a.place a.store.now))) e
