-- Refusals 1 and 2, part by part: what is known of a machine that has neither, and what has to be shown for it.
-- Assumes nothing.
use Rattle.units.proofs.Common.{◌∙◌, ◌≡◌, refl, ap, true, false, Bool, not, ◌≤◌, ◌+◌, ◌*◌, arith, eqb, length, eq-eqb, not-false, eqb-true}
use Rattle.units.proofs.Common.{every, and_true}
use Rattle.meaning.proofs.Terms.{Bench, Gateway}
use Rattle.meaning.proofs.Chain.{accepts, fine, none, this, pass_if, stop_if}
use Rattle.machine.proofs.Terms.{Machine, meaning, lists_ok, node_ok, reader_ok, name_ok, arrays, consistent, lengths, lent, unfit}
use Rattle.state.proofs.Lists.{both}

pub record Parts (b : Bench) (m : Machine) : Type 0 where
  pub store : length m.store ≡ b.store
  pub memory : length m.memory ≡ b.readers * b.region
  pub lists : lists_ok b m.store m.state.nodes m.state.held ≡ true
  pub nodes : every node_ok m.state.nodes ≡ true
  pub readers : every (reader_ok b) m.state.readers ≡ true
  pub name : name_ok m.state.name ≡ true
  pub wide : length m.state.name.bytes ≡ 64
  pub each_reader : length m.state.readers ≡ b.readers
  pub each_node : length m.state.nodes ≡ b.readers + 1
  pub each_held : length m.state.held ≡ b.readers + 1

module _ (b : Bench) (m : Machine) where
  pub parts : unfit b m ≡ 0 → Parts b m
  unfolding unfit lent lengths consistent arrays
  parts e =
      let p = accepts _ _ e in
      let l = and_true (eqb (length m.store) b.store) _ (not-false _ (fine 1 _ refl p.0)) in
      let c = and_true (lists_ok b m.store m.state.nodes m.state.held) _ (not-false _ (fine 2 _ refl p.1)) in
      let n = and_true (every node_ok m.state.nodes) _ c.1 in
      let r = and_true (every (reader_ok b) m.state.readers) _ n.1 in
      let t = and_true (name_ok m.state.name) _ r.1 in
      let a = and_true (eqb (length m.state.name.bytes) 64) _ t.1 in
      let s = and_true (eqb (length m.state.readers) b.readers) _ a.1 in
      let k = and_true (eqb (length m.state.nodes) (b.readers + 1)) _ s.1 in
      record {
        store = eqb-true _ _ l.0;
        memory = eqb-true _ _ l.1;
        lists = c.0;
        nodes = n.0;
        readers = r.0;
        name = t.0;
        wide = eqb-true _ _ a.0;
        each_reader = eqb-true _ _ s.0;
        each_node = eqb-true _ _ k.0;
        each_held = eqb-true _ _ k.1;
      }

  -- refusal 1
  pub unfit_1 : lengths b m ≡ false → unfit b m ≡ 1
  unfolding unfit lent
  unfit_1 e = stop_if 1 _ refl (ap not e)

  -- refusal 2
  pub unfit_2 : lengths b m ≡ true → consistent b m ≡ false → unfit b m ≡ 2
  unfolding unfit lent
  unfit_2 e f = pass_if 1 _ (ap not e) ∙ this 2 (ap not f)

  pub unfit_0 : lengths b m ≡ true → consistent b m ≡ true → unfit b m ≡ 0
  unfolding unfit lent
  unfit_0 e f = pass_if 1 _ (ap not e) ∙ none 2 (ap not f)

  pub unfit_low : unfit b m ≤ 2
  unfit_low = by_parts (lengths b m) refl (consistent b m) refl
    where
      by_parts : (t : Bool) → lengths b m ≡ t → (u : Bool) → consistent b m ≡ u → unfit b m ≤ 2
      by_parts false e u f = omega (arith, unfit_1 e)
      by_parts true e false f = omega (arith, unfit_2 e f)
      by_parts true e true f = omega (arith, unfit_0 e f)

  pub fit : Parts b m → unfit b m ≡ 0
  unfolding lengths consistent arrays
  fit p = unfit_0
      (both (eq-eqb _ _ p.store) (eq-eqb _ _ p.memory))
      (both p.lists (both p.nodes (both p.readers (both p.name
      (both (eq-eqb _ _ p.wide) (both (eq-eqb _ _ p.each_reader) (both (eq-eqb _ _ p.each_node) (eq-eqb _ _ p.each_held))))))))

-- a machine that has neither refusal, and what it means: what a change of the machine has to show
pub record Means (b : Bench) (m : Machine) (g : Gateway) : Type 0 where
  pub fit : unfit b m ≡ 0
  pub means : meaning b m ≡ g
