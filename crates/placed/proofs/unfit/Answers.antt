-- The code asks what the definition doubts, in its order: the lengths, the lists, the nodes, the readers, the name.
use Rattle.units.proofs.Common.{sym, ◌∙◌, ◌≡◌, refl, ap, true, not, length, eq-eqb, ne_eqb, rules, yes_and, no_and}
use Rattle.units.proofs.Common.{every}
use Rattle.meaning.proofs.Terms.{full, refusal, ◌when◌}
use Rattle.machine.proofs.Terms.{reader_ok}
use Rattle.state.proofs.Lists.{length_mapped}
use Rattle.meaning.proofs.Chain.{none, this, pass_if, stop_if}
use Rattle.placed.specs.Consistent.{lists_ok, node_ok, arrays, consistent, lengths, lent, unfit}
use Rattle.placed.specs.Machine.{machine}
use Rattle.placed.proofs.unfit.Goals as goal

pub returns-then-store : goal.returns-then-store
unfolding unfit lent lengths
returns-then-store c = sym (stop_if 1 _ refl (ap not (no_and _ (ne_eqb _ _ c.if-store.true))))

pub returns-then-plaques : goal.returns-then-plaques
unfolding unfit lent lengths
returns-then-plaques c = sym (stop_if 1 _ refl (ap not (yes_and (eq-eqb _ _ c.if-store.false) ∙ ne_eqb _ _ c.if-plaques.true)))

pub returns-then-not-lists_ok : goal.returns-then-not-lists_ok
unfolding consistent unfit lent lengths
returns-then-not-lists_ok c =
    -- past the lengths
    let long : (let a = c.args in let m = machine a.s a.store.now
    a.plaques.now in unfit full m ≡ refusal (2 when not (consistent full m))) = pass_if 1 _ (ap not (yes_and (eq-eqb _ _ c.if-store.false) ∙ eq-eqb _ _ c.if-plaques.false)) in
    sym (long ∙ this 2 (ap not (no_and _
    (sym c.lists_ok.ensures ∙ c.if-not-lists_ok.true))))

pub returns-then-not-nodes_ok : goal.returns-then-not-nodes_ok
unfolding consistent unfit lent lengths
returns-then-not-nodes_ok c =
    -- past the lengths
    let long : (let a = c.args in let m = machine a.s a.store.now
    a.plaques.now in unfit full m ≡ refusal (2 when not (consistent full m))) = pass_if 1 _ (ap not (yes_and (eq-eqb _ _ c.if-store.false) ∙ eq-eqb _ _ c.if-plaques.false)) in
    -- a test that was passed
    let lists : (let a = c.args in lists_ok full
    a.store.now a.s.nodes ≡ true) = sym c.lists_ok.ensures ∙ c.if-not-lists_ok.false in
    sym (long
    ∙ this 2 (ap not (yes_and (lists) ∙ no_and _ (sym c.nodes_ok.ensures ∙ c.if-not-nodes_ok.true))))

pub returns-then-not-readers_ok : goal.returns-then-not-readers_ok
unfolding consistent unfit lent lengths
returns-then-not-readers_ok c =
    -- a test that was passed
    let lists : (let a = c.args in lists_ok full
    a.store.now a.s.nodes ≡ true) = sym c.lists_ok.ensures ∙ c.if-not-lists_ok.false in
    let nodes : every node_ok
    c.args.s.nodes ≡ true = sym c.nodes_ok.ensures ∙ c.if-not-nodes_ok.false in
    -- past the lengths
    let long : (let a = c.args in let m = machine a.s a.store.now
    a.plaques.now in unfit full m ≡ refusal (2 when not (consistent full m))) = pass_if 1 _ (ap not (yes_and (eq-eqb _ _ c.if-store.false) ∙ eq-eqb _ _ c.if-plaques.false)) in
    let l = lists in
    let n = nodes in
    sym (long
    ∙ this 2 (ap not (yes_and l ∙ yes_and n ∙ no_and _ (sym c.readers_ok.ensures ∙ c.if-not-readers_ok.true))))

pub returns-then-not-name_ok : goal.returns-then-not-name_ok
unfolding consistent unfit lent lengths
returns-then-not-name_ok c =
    -- a test that was passed
    let lists : (let a = c.args in lists_ok full
    a.store.now a.s.nodes ≡ true) = sym c.lists_ok.ensures ∙ c.if-not-lists_ok.false in
    let nodes : every node_ok
    c.args.s.nodes ≡ true = sym c.nodes_ok.ensures ∙ c.if-not-nodes_ok.false in
    let readers : every (reader_ok full)
    c.args.s.readers ≡
    true = sym c.readers_ok.ensures ∙ c.if-not-readers_ok.false in
    -- past the lengths
    let long : (let a = c.args in let m = machine a.s a.store.now
    a.plaques.now in unfit full m ≡ refusal (2 when not (consistent full m))) = pass_if 1 _ (ap not (yes_and (eq-eqb _ _ c.if-store.false) ∙ eq-eqb _ _ c.if-plaques.false)) in
    let l = lists in
    let n = nodes in
    let r = readers in
    sym (long
    ∙ this 2 (ap not (yes_and l ∙ yes_and n ∙ yes_and r ∙ no_and _ (sym c.name_ok.ensures ∙ c.if-not-name_ok.true))))

pub returns : goal.returns
unfolding consistent unfit lent lengths arrays
returns c =
    -- a test that was passed
    let lists : (let a = c.args in lists_ok full
    a.store.now a.s.nodes ≡ true) = sym c.lists_ok.ensures ∙ c.if-not-lists_ok.false in
    let nodes : every node_ok
    c.args.s.nodes ≡ true = sym c.nodes_ok.ensures ∙ c.if-not-nodes_ok.false in
    let readers : every (reader_ok full)
    c.args.s.readers ≡
    true = sym c.readers_ok.ensures ∙ c.if-not-readers_ok.false in
    -- past the lengths
    let long : (let a = c.args in let m = machine a.s a.store.now
    a.plaques.now in unfit full m ≡ refusal (2 when not (consistent full m))) = pass_if 1 _ (ap not (yes_and (eq-eqb _ _ c.if-store.false) ∙ eq-eqb _ _ c.if-plaques.false)) in
    -- the arrays' lengths are in their types
    let sized : arrays full c.args.s ≡ true = let x : length c.args.s.name.bytes ≡ 64 = search rules in
    let r : length c.args.s.readers ≡ 16 = search (rules, length_mapped) in
    let n : length c.args.s.nodes ≡ 17 = search (rules, length_mapped) in
    yes_and (eq-eqb _ _ x) ∙ yes_and (eq-eqb _ _ r) ∙ eq-eqb _ _ n in
    let l = lists in
    let n = nodes in
    let r = readers in
    let x = sym c.name_ok.ensures ∙ c.if-not-name_ok.false in
    sym (long ∙ none 2 (ap not (yes_and l ∙ yes_and n ∙ yes_and r ∙ yes_and x ∙ sized)))
