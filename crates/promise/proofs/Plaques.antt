-- Leave and arrive, of the machine: a law for each way that the code returns.
-- Assumes nothing.
use Rattle.units.proofs.Common.{sym, ◌∙◌, ◌≡◌, refl, ap, subst, true, false, not, List, ℕ, ◌≤◌, ◌-◌, ◌+◌, ◌*◌, add-zero, le_refl, arith}
use Rattle.units.proofs.Common.{leb, length, get_or, paste, eq-eqb, ne_eqb, leb-true, within, yes_cond, no_cond, and_true}
use Rattle.meaning.proofs.Terms.{◌when◌, refusal, Bench, is_reader, empty, set_reader, set_field, leave, arrive, refused, answered}
use Rattle.meaning.proofs.Terms.{done, asked, judged, named, left, at_reader}
use Rattle.meaning.specs.Call.{arrived}
use Rattle.meaning.proofs.Chain.{none, this, pass_if, stop_if}
use Rattle.machine.proofs.Terms.{fresh_reader, no_plaque, Machine, machine, meaning, reader_of, field_of, region_of, unfit}
use Rattle.state.specs.declared.reader.Reader.{Reader}
use Rattle.promise.specs.Obeyed.{Obeyed}
use Rattle.promise.proofs.Parts.{parts, Means}
use Rattle.promise.proofs.Regions.{Within, untouched, region_paste, pasted}
use Rattle.promise.proofs.Readers.{with_reader, reader_is, field_is, reader_in_order, reader_changed, with_plaque, left_ok, arrived_ok}
use Rattle.promise.proofs.Promises.{refusing, giving}
use Rattle.promise.proofs.Steps.{refused_by, reader_called}

module _ (b : Bench) (m : Machine) (n : ℕ) (fit : unfit b m ≡ 0) where
  -- ---- leave
  pub left_7 : is_reader b n ≡ false → Obeyed b (leave n) m (refused 7) m
  unfolding judged asked
  left_7 r = refused_by b m (leave n) fit 7 (this 7 (ap not r)) (λ z. omega arith)

  module _ (is : is_reader b n ≡ true) (x : Reader) (at : get_or m.state.readers (n - 1) fresh_reader ≡ x) where
    pub left_14 : x.plaque.present ≡ false → Obeyed b (leave n) m (refused 14) m
    unfolding judged asked named at_reader left field_of
    left_14 p =
        reader_called b m (leave n) fit n (none 7 (ap not is)) refl is
        (refusing b m (set_reader n) n (ap (left ((meaning b m).reader n)) (field_is b m n is x at ∙ no_cond _ p)))

    pub left_0 : x.plaque.present ≡ true
        → Obeyed b (leave n) m (answered done) (machine (with_reader m.state (n - 1) (with_plaque x no_plaque)) m.store m.memory)
    unfolding judged asked named at_reader left reader_of field_of
    left_0 p =
        reader_called b m (leave n) fit n (none 7 (ap not is)) refl is
        (giving b m (set_reader n) n (ap (left ((meaning b m).reader n)) (field_is b m n is x at ∙ yes_cond _ p)) _
        (reader_changed b m n is (with_plaque x no_plaque) m.memory (untouched b n m.memory) fit
        (left_ok b x (reader_in_order b m n is x at (parts b m fit))) (set_field empty ((meaning b m).reader n))
        (ap (set_field empty) (sym (reader_is b m n is x at)))))

  -- ---- arrive
  module _ (id s : List ℕ) where
    pub arrived_7 : is_reader b n ≡ false → Obeyed b (arrive n id s) m (refused 7) m
    unfolding judged asked
    arrived_7 r = refused_by b m (arrive n id s) fit 7 (stop_if 7 _ refl (ap not r)) (λ z. omega arith)

    module _ (is : is_reader b n ≡ true) where
      pub arrived_9 : (length id ≡ 8 → ⊥) → Obeyed b (arrive n id s) m (refused 9) m
      unfolding judged asked
      arrived_9 d =
          refused_by b m (arrive n id s) fit 9 (pass_if 7 _ (ap not is) ∙ stop_if 9 _ refl (ap not (ne_eqb (length id) 8 d)))
          (λ z. omega arith)

      -- an ID of 8 bytes: nothing but the plaque's length can be wrong
      only_10 : length id ≡ 8 → judged b (arrive n id s) ≡ refusal (10 when not (within 1 b.region (length s)))
      unfolding judged asked
      only_10 e = pass_if 7 _ (ap not is) ∙ pass_if 9 _ (ap not (eq-eqb (length id) 8 e))

      pub arrived_10 : length id ≡ 8 → within 1 b.region (length s) ≡ false → Obeyed b (arrive n id s) m (refused 10) m
      arrived_10 e d = refused_by b m (arrive n id s) fit 10 (only_10 e ∙ this 10 (ap not d)) (λ z. omega arith)

      -- the machine with the plaque
      module _ (e : length id ≡ 8) (d : within 1 b.region (length s) ≡ true) (x : Reader)
          (at : get_or m.state.readers (n - 1) fresh_reader ≡ x) (memory' : List ℕ)
          (w : memory' ≡ paste m.memory ((n - 1) * b.region) s (length s)) where
        abbrev after : Machine
        after =
            machine (with_reader m.state (n - 1) (with_plaque x (record { present = true; id = id; length = record { 0 = length s } })))
            m.store memory'

        pub arrived_changed : Means b after (set_reader n (arrived id s ((meaning b m).reader n)) (meaning b m))
        unfolding arrived reader_of field_of
        arrived_changed =
            let p = parts b m fit in
            let o = and_true (leb 1 (length s)) _ d in
            let low : 1 ≤ length s = leb-true _ _ o.0 in
            let high : length s ≤ b.region = leb-true _ _ o.1 in
            let v : paste m.memory ((n - 1) * b.region + 0) s (length s) ≡ memory' = rw add-zero (sym w) in
            let h : Within b n m.memory memory' =
            subst (Within b n m.memory) v (pasted b n m.memory is p.memory 0 s (length s) (omega arith) (le_refl (length s))) in
            let own : region_of b memory' n ≡ paste (region_of b m.memory n) 0 s (length s) =
            rw (← v) (region_paste b n m.memory is p.memory 0 s (length s) (omega arith) (le_refl (length s))) in
            reader_changed b m n is _ memory' h fit
            (arrived_ok b x (reader_in_order b m n is x at p) id (record { 0 = length s }) e low high) _
            (rw (own, reader_is b m n is x at))

        pub arrived_0 : Obeyed b (arrive n id s) m (answered done) after
        unfolding named at_reader
        arrived_0 =
            reader_called b m (arrive n id s) fit n (only_10 e ∙ none 10 (ap not d)) refl is
            (giving b m (set_reader n) n refl after arrived_changed)
