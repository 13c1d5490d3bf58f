-- Laws of a line: a text is said or left out, and what is said in turn goes on from place to place.
-- Assumes nothing.
use Rattle.units.proofs.Common.{sym, ◌∙◌, ◌≡◌, refl, ap, List, [], ◌∷◌, ℕ, ◌≤◌, ◌-◌, ◌+◌, ◌<◌, ◌^◌, suc, arith, length, drop, take, set, sets}
use Rattle.units.proofs.Common.{drop-drop, take-take, le-leb, lt-leb, yes_cond, no_cond}
use lib.Seq.{take-set-le, drop-set-lt}
use Rattle.text.specs.Text.{Put, decimal_of}
use Rattle.text.proofs.Writing.{put_then, put_as, put_length, decimal_short}
use Rattle.guide.specs.declared.line.Line.{Line}
use Rattle.guide.specs.Say.{fitting, GoesOn, Onward, Said, labelling, Labelled}

-- a machine's number has at most 20 digits
pub decimal_twenty : (n : ℕ) → n < 2 ^ 64 → length (decimal_of n) ≤ 20
decimal_twenty n h = decimal_short 19 n (omega arith)

-- ---- going on
take_sets : (n : ℕ) (l : List ℕ) (i : ℕ) (vs : List ℕ) → n ≤ i → take n (sets l i vs) ≡ take n l
take_sets n l i [] h = refl
take_sets n l i (v ∷ vs) h = take_sets n (set l i v) (suc i) vs (omega arith) ∙ take-set-le n l i v h

drop_sets : (n : ℕ) (l : List ℕ) (i : ℕ) (vs : List ℕ) → i + length vs ≤ n → drop n (sets l i vs) ≡ drop n l
drop_sets n l i [] h = refl
drop_sets n l i (v ∷ vs) h = drop_sets n (set l i v) (suc i) vs (omega arith) ∙ drop-set-lt n l i v (omega arith)

goes_put : {o n t : List ℕ} {at r : ℕ} → (at ≤ length o → at + length t ≤ length o) → Put o at t n r → GoesOn o at n r
goes_put {o} {n} {t} {at} {r} w p =
    let e = p.next in
    record {
      size = put_length p;
      before = ap (take at) p.wrote ∙ take_sets at o at t (omega arith);
      past = ap (drop r) p.wrote ∙ drop_sets r o at t (omega arith);
      forth = omega arith;
      within = λ h. let g = w h in omega arith;
    }

pub goes_then : {o o₁ o₂ : List ℕ} {at a r : ℕ} → GoesOn o at o₁ a → GoesOn o₁ a o₂ r → GoesOn o at o₂ r
goes_then {o} {o₁} {o₂} {at} {a} {r} p q =
    let e : a + (r - a) ≡ r = omega (arith, q.forth) in
    record {
      size = q.size ∙ p.size;
      before = sym (take-take at a o₂ p.forth) ∙ ap (take at) q.before ∙ take-take at a o₁ p.forth ∙ p.before;
      past =
          q.past
          ∙ ap (λ (k : ℕ). drop k o₁) (sym e)
          ∙ sym (drop-drop (r - a) a o₁)
          ∙ ap (drop (r - a)) p.past
          ∙ drop-drop (r - a) a o
          ∙ ap (λ (k : ℕ). drop k o) e;
      forth = omega (arith, p.forth, q.forth);
      within = λ h. let g = p.within h in let k = q.within (omega (arith, p.size)) in omega (arith, p.size);
    }

pub onward_then : {k l m : Line} → Onward k l → Onward l m → Onward k m
onward_then p q = record { lent = q.lent ∙ p.lent; on = goes_then p.on q.on }

goes_nowhere : (o : List ℕ) (at : ℕ) → GoesOn o at o at
goes_nowhere o at = record { size = refl; before = refl; past = refl; forth = omega arith; within = λ h. h }

-- ---- one text
pub said :
    {l m : Line} {t : List ℕ} (room : ℕ) → m.bytes.ghost_name ≡ l.bytes.ghost_name → l.at + room ≤ length l.bytes.now → length t ≤ room
    → Put l.bytes.now l.at t m.bytes.now m.at → Said l room t m
unfolding fitting
said {l} {m} {t} room e h k p = record {
  exact = put_as (sym (yes_cond [] (le-leb (l.at + room) (length l.bytes.now) h))) p;
  on = record { lent = e; on = goes_put (λ g. omega arith) p };
}

pub left_out : (l : Line) (room : ℕ) (t : List ℕ) → length l.bytes.now < l.at + room → Said l room t l
unfolding fitting
left_out l room t h =
    let p : Put l.bytes.now l.at [] l.bytes.now l.at = record { next = omega arith; wrote = refl } in
    record {
      exact = put_as (sym (no_cond t (lt-leb (l.at + room) (length l.bytes.now) h))) p;
      on = record { lent = refl; on = goes_nowhere l.bytes.now l.at };
    }

-- ---- a label and a text
pub labelled : {l m n : Line} (label t : List ℕ) (room : ℕ) → Said l (length label) label m → Said m room t n → Labelled l label room t n
unfolding labelling
labelled {l} {m} {n} label t room p q = record {
  exact = put_then p.exact (put_as (ap (λ (k : ℕ). fitting k m.at room t) (put_length p.exact) ∙ ap
      (λ (k : ℕ). fitting (length l.bytes.now) k room t) p.exact.next) q.exact);
  on = onward_then p.on q.on;
}
