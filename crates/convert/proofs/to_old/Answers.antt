-- A machine in order has its places added up by `with_places`, and the store stays; one that is not is refused.
use Rattle.units.proofs.Common.{sym, ◌∙◌, ◌≡◌, ap, List}
use Rattle.meaning.proofs.Terms.{full}
use Rattle.machine.proofs.Terms.{machine, unfit}
use Rattle.promise.proofs.Parts.{parts}
use Rattle.store.proofs.Promised.{sum_inside}
use Rattle.placed.specs.Machine as P
use Rattle.placed.specs.declared.Node as O
use Rattle.convert.proofs.to_old.Goals as goal

pub returns-then-refusal-ne0 : goal.returns-then-refusal-ne0
returns-then-refusal-ne0 c =
    let left : List O.Node → P.Machine = λ ns. P.machine (record { name = c.args.s.name; readers = c.args.s.readers; nodes = ns }) c.args.store.now
    c.args.plaques.now in
    record {
      number = c.unfit-refusal.ensures;
      refused = λ _. ap (left) c.silent_placed.ensures;
      done = λ e. absurd (c.if-refusal-ne0.true (c.unfit-refusal.ensures ∙ e));
    }

pub with_places-requires : goal.with_places-requires
with_places-requires c =
    let fits : unfit full ((machine c.args.s c.args.store.now c.args.plaques.now)) ≡ 0 = sym c.unfit-refusal.ensures ∙ c.if-refusal-ne0.false in
    let p = parts full ((machine c.args.s c.args.store.now c.args.plaques.now)) (fits) in
    sum_inside full c.args.store.now c.args.s (record { size = p.store; lists = p.lists })

pub returns : goal.returns
returns c =
    let fits : unfit full ((machine c.args.s c.args.store.now c.args.plaques.now)) ≡ 0 = sym c.unfit-refusal.ensures ∙ c.if-refusal-ne0.false in
    let left : List O.Node → P.Machine = λ ns. P.machine (record { name = c.args.s.name; readers = c.args.s.readers; nodes = ns }) c.args.store.now
    c.args.plaques.now in
    record {
      number = sym (fits);
      refused = λ d. absurd (d (fits));
      done = λ _. ap (left) c.with_places.ensures;
    }
