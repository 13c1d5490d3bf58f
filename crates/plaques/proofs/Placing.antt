-- A plaque that arrives or leaves changes its reader and nothing else of the parts: what the meaning's step makes of it, on any machine
-- that they are parts of.
-- Assumes nothing.
use Rattle.units.proofs.Common.{sym, ◌∙◌, ◌≡◌, refl, ap, subst, true, false, not, List, ℕ, ◌≤◌, ◌-◌, ◌*◌, eqb, leb, length, set, paste}
use Rattle.units.proofs.Common.{set-get_or, not-false, eqb-true, leb-true, within, and_true}
use Rattle.units.specs.declared.Words.{Words}
use Rattle.meaning.proofs.Terms.{◌when◌, full, is_reader, arrive, leave, refused, answered, done, asked, judged, step}
use Rattle.meaning.proofs.Chain.{accepts, fine}
use Rattle.machine.proofs.Terms.{fresh_node, no_plaque, Machine, machine, meaning}
use Rattle.state.specs.declared.node.Node.{Node}
use Rattle.state.specs.declared.reader.Reader.{Reader}
use Rattle.state.specs.declared.State.{State}
use Rattle.promise.specs.Obeyed.{said_of, Does}
use Rattle.promise.specs.declared.Reply.{Reply}
use Rattle.promise.proofs.Readers.{with_reader, with_plaque}
use Rattle.promise.proofs.Plaques.{left_14, left_0, arrived_0}
use Rattle.answers.proofs.Replies.{stepped}
use Rattle.settle.specs.Settled.{Seat, seated, Seats}
use Rattle.settle.specs.declared.Seated.{Seated}
use Rattle.settle.proofs.Seating.{still}

-- ---- an arrival that is within its limits
pub record Limits (n : ℕ) (id s : List ℕ) : Type 0 where
  pub reader : is_reader full n ≡ true
  pub eight : length id ≡ 8
  pub bytes : within 1 full.region (length s) ≡ true
  pub some : 1 ≤ length s
  pub few : length s ≤ full.region

pub limits : (n : ℕ) (id s : List ℕ) → judged full (arrive n id s) ≡ 0 → Limits n id s
unfolding judged asked
limits n id s e =
    let p = accepts (7 when not (is_reader full n)) _ e in
    let q = accepts (9 when not (eqb (length id) 8)) _ p.1 in
    let w : within 1 full.region (length s) ≡ true = not-false _ (fine 10 (not (within 1 full.region (length s))) refl q.1) in
    let o = and_true (leb 1 (length s)) _ w in
    record {
      reader = not-false _ (fine 7 (not (is_reader full n)) refl p.0);
      eight = eqb-true _ _ (not-false _ (fine 9 (not (eqb (length id) 8)) refl q.0));
      bytes = w;
      some = leb-true _ _ o.0;
      few = leb-true _ _ o.1;
    }

-- ---- the parts handed back
module _ (n : ℕ) (own : Node) (x : Reader) (held : List Words) (store memory : List ℕ) where
  abbrev back : Reader → Reply → Seated
  back y p = record { node = own; held = held; reader = y; reply = p }

  -- with another reader, the node and the words held as they were
  reader_alone : (s : State) → Seat n own x held s → (y : Reader) (p : Reply) → with_reader s (n - 1) y ≡ seated s n (back y p)
  reader_alone s a y p =
      let k : s.nodes ≡ set s.nodes (n - 1) own =
      sym (ap (set s.nodes (n - 1)) (sym a.node) ∙ set-get_or s.nodes (n - 1) fresh_node) in
      let rs : List Reader = set s.readers (n - 1) y in
      ap (λ (l : List Node). record { name = s.name; readers = rs; nodes = l; held = s.held }) k
      ∙ ap (λ (l : List Words). record { name = s.name; readers = rs; nodes = set s.nodes (n - 1) own; held = l }) a.helds

  pub leaves_refused : is_reader full n ≡ true → x.plaque.present ≡ false
      → Seats full (λ g. step full g (leave n)) n own x held store memory (back x (Reply.Refused 14)) store memory
  unfolding said_of
  leaves_refused is p s a fit =
      let m : Machine = machine s store memory in
      subst (λ (t : State). Does full (step full (meaning full m) (leave n)) m (refused 14) (machine t store memory))
      (sym (still n own x held s (Reply.Refused 14) a)) (stepped (leave n) fit (left_14 full m n fit is x a.reader p))

  pub leaves_done : is_reader full n ≡ true → x.plaque.present ≡ true → {y : Reader} → y ≡ with_plaque x no_plaque
      → Seats full (λ g. step full g (leave n)) n own x held store memory (back y Reply.Done) store memory
  unfolding said_of
  leaves_done is p {y} e s a fit =
      let m : Machine = machine s store memory in
      subst (λ (t : State). Does full (step full (meaning full m) (leave n)) m (answered done) (machine t store memory))
      (ap (with_reader s (n - 1)) (sym e) ∙ reader_alone s a y Reply.Done) (stepped (leave n) fit (left_0 full m n fit is x a.reader p))

  pub arrives_done : (id bytes : List ℕ) → judged full (arrive n id bytes) ≡ 0 → {y : Reader}
      → y ≡ with_plaque x (record { present = true; id = id; length = record { 0 = length bytes } }) → (memory' : List ℕ)
      → memory' ≡ paste memory ((n - 1) * full.region) bytes (length bytes)
      → Seats full (λ g. step full g (arrive n id bytes)) n own x held store memory (back y Reply.Done) store memory'
  unfolding said_of
  arrives_done id bytes j {y} e memory' w s a fit =
      let m : Machine = machine s store memory in
      let l = limits n id bytes j in
      subst (λ (t : State). Does full (step full (meaning full m) (arrive n id bytes)) m (answered done) (machine t store memory'))
      (ap (with_reader s (n - 1)) (sym e) ∙ reader_alone s a y Reply.Done)
      (stepped (arrive n id bytes) fit (arrived_0 full m n fit id bytes l.reader l.eight l.bytes x a.reader memory' w))
