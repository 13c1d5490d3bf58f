-- Refusals 1 and 2 of a state with places, part by part: what is known where there is neither, and what has to be shown for it.
-- Assumes nothing.
use Rattle.units.proofs.Common.{◌∙◌, ◌≡◌, refl, ap, true, not, ◌+◌, ◌*◌, eqb, length, eq-eqb, not-false, eqb-true, every, and_true}
use Rattle.meaning.proofs.Terms.{Bench}
use Rattle.meaning.proofs.Chain.{accepts, fine, none, pass_if}
use Rattle.machine.proofs.Terms.{reader_ok, name_ok}
use Rattle.state.proofs.Lists.{both}
use Rattle.placed.specs.Machine.{Machine}
use Rattle.placed.specs.Consistent.{lists_ok, node_ok, arrays, consistent, lengths, lent, unfit}

pub record Parts (b : Bench) (m : Machine) : Type 0 where
  pub store : length m.store ≡ b.store
  pub memory : length m.memory ≡ b.readers * b.region
  pub lists : lists_ok b m.store m.state.nodes ≡ true
  pub nodes : every node_ok m.state.nodes ≡ true
  pub readers : every (reader_ok b) m.state.readers ≡ true
  pub name : name_ok m.state.name ≡ true
  pub wide : length m.state.name.bytes ≡ 64
  pub each_reader : length m.state.readers ≡ b.readers
  pub each_node : length m.state.nodes ≡ b.readers + 1

module _ (b : Bench) (m : Machine) where
  pub parts : unfit b m ≡ 0 → Parts b m
  unfolding unfit lent lengths consistent arrays
  parts e =
      let p = accepts _ _ e in
      let l = and_true (eqb (length m.store) b.store) _ (not-false _ (fine 1 _ refl p.0)) in
      let c = and_true (lists_ok b m.store m.state.nodes) _ (not-false _ (fine 2 _ refl p.1)) in
      let n = and_true (every node_ok m.state.nodes) _ c.1 in
      let r = and_true (every (reader_ok b) m.state.readers) _ n.1 in
      let t = and_true (name_ok m.state.name) _ r.1 in
      let a = and_true (eqb (length m.state.name.bytes) 64) _ t.1 in
      let s = and_true (eqb (length m.state.readers) b.readers) _ a.1 in
      record {
        store = eqb-true _ _ l.0;
        memory = eqb-true _ _ l.1;
        lists = c.0;
        nodes = n.0;
        readers = r.0;
        name = t.0;
        wide = eqb-true _ _ a.0;
        each_reader = eqb-true _ _ s.0;
        each_node = eqb-true _ _ s.1;
      }

  pub fit : Parts b m → unfit b m ≡ 0
  unfolding unfit lent lengths consistent arrays
  fit p =
      pass_if 1 _ (ap not (both (eq-eqb _ _ p.store) (eq-eqb _ _ p.memory)))
      ∙ none 2 (ap not (both p.lists (both p.nodes (both p.readers (both p.name
      (both (eq-eqb _ _ p.wide) (both (eq-eqb _ _ p.each_reader) (eq-eqb _ _ p.each_node))))))))
