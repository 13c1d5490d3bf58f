-- What is known of an accepted command, by its kind.
-- Assumes nothing.
use Rattle.units.proofs.Common.{sym, ◌∙◌, ◌≡◌, refl, ap, true, false, Bool, cond, not, false≢true, ◌||◌, List, [], ◌∷◌, ℕ, ◌≤◌, ◌+◌, eqb}
use Rattle.units.proofs.Common.{leb, ltb, eq-eqb, not-false, not-true, eqb-true, leb-true, ltb-false, and_true, or_false}
use Rattle.units.proofs.Choice.{and-false}
use Rattle.meaning.proofs.Terms.{Bench, hub, is_reader, is_node, ◌to◌, table, lookup, row_of, suits, who_doubts, limit_doubts, range_wrong}
use Rattle.meaning.specs.Table.{Entry, row, stranger, timeout, any, unused}
use Rattle.meaning.specs.Command.{outside, delay_wrong}
use Rattle.meaning.specs.declared.table.OnPlaque.TheVariants.{Fill, Read, Write, ReadId, Search}
use Rattle.meaning.specs.declared.table.OfGateway.TheVariants.{GetName, SetName, Initialise, ResetGateway, Clear}
use Rattle.meaning.specs.declared.table.Kind.{Kind}
use Rattle.meaning.specs.declared.table.Kind.TheVariants as K
use Rattle.meaning.specs.declared.table.Load.TheVariants.{Nothing, One, Size}
use Rattle.meaning.specs.declared.table.Limits.{Limits}
use Rattle.meaning.specs.declared.table.Row.{Row}
use Rattle.meaning.specs.declared.packet.Command.{Command}
use Rattle.meaning.proofs.Chain.{accepts, fine_at}
use Rattle.meaning.proofs.CommandLaws.{Kept}
use Rattle.state.proofs.Lists.{All}

-- the row of a kind
abbrev pub row_for : Bench → Kind → Row
row_for b (K.Plaque Fill) = row (K.Plaque Fill) One timeout any (1 to b.region)
row_for b (K.Plaque Read) = row (K.Plaque Read) Nothing timeout any (1 to 255)
row_for b (K.Plaque Write) = row (K.Plaque Write) Size timeout any (1 to 255)
row_for b (K.Plaque ReadId) = row (K.Plaque ReadId) Nothing timeout unused unused
row_for b (K.Plaque Search) = row (K.Plaque Search) Nothing timeout unused unused
row_for b K.Continuous = row K.Continuous Nothing (0 to 60) any (0 to 255)
row_for b K.ResetReader = row K.ResetReader Nothing unused unused unused
row_for b (K.Gateway GetName) = row (K.Gateway GetName) Nothing unused unused unused
row_for b (K.Gateway SetName) = row (K.Gateway SetName) Size unused unused (1 to 64)
row_for b (K.Gateway Initialise) = row (K.Gateway Initialise) Nothing unused unused unused
row_for b (K.Gateway ResetGateway) = row (K.Gateway ResetGateway) Nothing unused unused unused
row_for b (K.Gateway Clear) = row (K.Gateway Clear) Nothing unused unused unused
row_for b K.Unknown = stranger

-- a row that is for some node is its kind's
abbrev Regular : Bench → Row → Type 0
Regular b r = (n : ℕ) → suits r.kind n ≡ true → r ≡ row_for b r.kind

cond_row : (P : Row → Type 0) (t : Bool) (r s : Row) → P r → P s → P (cond t r s)
cond_row P true r s p q = p
cond_row P false r s p q = q

lookup_all : (P : Row → Type 0) (c : ℕ) (es : List Entry) → All (λ e. P e.rule) es → P stranger → P (lookup c es)
unfolding lookup
lookup_all P c [] a z = z
lookup_all P c (e ∷ es) a z = cond_row P (eqb c e.byte) e.rule (lookup c es) a.0 (lookup_all P c es a.1 z)

-- one after the other
infixr 5 ◌then◌
pub ◌then◌ : {A B : Type 0} → A → B → A × B
a then b = (a, b)

regular : (b : Bench) → All (λ e. Regular b e.rule) (table b)
unfolding table suits
regular b =
    (λ _ _. refl) then (λ _ _. refl) then (λ _ _. refl) then (λ _ _. refl) then (λ _ _. refl) then continuous b.continuous
    then (λ _ _. refl) then (λ _ _. refl) then (λ _ _. refl) then (λ _ _. refl) then (λ _ _. refl) then (λ _ _. refl) then tt
  where
    continuous : (t : Bool) → Regular b (row (cond t K.Continuous K.Unknown) Nothing (0 to 60) any (0 to 255))
    continuous true n e = refl
    continuous false n e = absurd (false≢true e)

pub row_regular : (b : Bench) (c : ℕ) → Regular b (row_of b c)
unfolding row_of suits
row_regular b c = lookup_all (Regular b) c (table b) (regular b) (λ _ _. refl)

pub record Accepted (b : Bench) (k : Kind) (m : Command) : Type 0 where
  pub node : is_node b m.node ≡ true
  pub suits : suits k m.node ≡ true
  pub delay : delay_wrong k m ≡ false
  pub range : range_wrong b.region k m ≡ false
  pub word4 : outside (row_for b k).word4 m.word4 ≡ false
  pub start : outside (row_for b k).start m.start ≡ false
  pub size : outside (row_for b k).size m.size ≡ false

pub accepted : (b : Bench) (m : Command) → Kept b m → (k : Kind) → (row_of b m.command).kind ≡ k → Accepted b k m
unfolding who_doubts limit_doubts
accepted b m p k e =
    let r : Row = row_of b m.command in
    let w = accepts _ _ p.who in
    let s : suits k m.node ≡ true = ap (λ (k : Kind). suits k m.node) (sym e) ∙ not-false _ (fine_at 8 2 _ refl w.1) in
    let l1 = accepts _ _ p.limit in
    let l2 = accepts _ _ l1.1 in
    let l3 = accepts _ _ l2.1 in
    let l4 = accepts _ _ l3.1 in
    let q : r ≡ row_for b k = row_regular b m.command m.node (ap (λ (k : Kind). suits k m.node) e ∙ s) ∙ ap (row_for b) e in
    record {
      node = not-false _ (fine_at 7 3 _ refl w.0);
      suits = s;
      delay = ap (λ (k : Kind). delay_wrong k m) (sym e) ∙ fine_at 10 4 _ refl l2.0;
      range = ap (λ (k : Kind). range_wrong b.region k m) (sym e) ∙ fine_at 10 5 _ refl l4.0;
      word4 = ap (λ (r : Row). outside r.word4 m.word4) (sym q) ∙ fine_at 10 4 _ refl l1.0;
      start = ap (λ (r : Row). outside r.start m.start) (sym q) ∙ fine_at 10 5 _ refl l3.0;
      size = ap (λ (r : Row). outside r.size m.size) (sym q) ∙ fine_at 10 6 _ refl l4.1;
    }

-- a word that is used is within its limits
pub used : (l : Limits) (v : ℕ) → eqb l.high 0 ≡ false → outside l v ≡ false → (l.low ≤ v) × (v ≤ l.high)
unfolding outside
used l v e o =
    let p = and_true (leb l.low v) _ (not-false _ (and-false (not (eqb l.high 0)) _ o (ap not e))) in
    (leb-true _ _ p.0, leb-true _ _ p.1)

-- a node that is not the gateway's own is a reader
pub reader_suited : (b : Bench) (n : ℕ) → is_node b n ≡ true → not (eqb n hub) ≡ true → is_reader b n ≡ true
reader_suited b n p s = left_true (is_reader b n) (eqb n hub) p (not-true _ s)
  where
    left_true : (t u : Bool) → (t || u) ≡ true → u ≡ false → t ≡ true
    left_true true u p q = refl
    left_true false u p q = absurd (false≢true (sym q ∙ p))

-- continuous reading
pub record Reads (b : Bench) (m : Command) : Type 0 where
  pub size : m.size ≤ 255
  pub delay : m.word4 ≤ 60
  pub range : m.start + m.size ≤ b.region
  pub stops : m.size ≡ 0 → (m.start ≡ 0) × (m.word4 ≡ 0)

pub reads : (b : Bench) (m : Command) → Accepted b K.Continuous m → Reads b m
unfolding delay_wrong range_wrong
reads b m a =
    let r = or_false (ltb b.region (m.start + m.size)) _ a.range in
    record {
      size = (used (0 to 255) m.size refl a.size).1;
      delay = (used (0 to 60) m.word4 refl a.word4).1;
      range = ltb-false _ _ r.0;
      stops = λ e. let z = eq-eqb m.size 0 e in (
        eqb-true _ _ (not-false _ (and-false (eqb m.size 0) _ r.1 z)),
        eqb-true _ _
            (not-false _ (and-false (eqb m.size 0) _ a.delay z)),
      );
    }
