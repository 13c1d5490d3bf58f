-- What it is to lie at a place of the store. Any bench.
-- Assumes nothing.
use Rattle.units.proofs.Common.{sym, ◌∙◌, ◌≡◌, refl, ap, true, false, Bool, ◌&&◌, and-false, List, [], ◌∷◌, ℕ, ◌≤◌, ◌+◌, suc, zero}
use Rattle.units.proofs.Common.{add-zero, leb, length, drop, get_or, take, get_or-drop, le-leb, and_true}
use Rattle.meaning.proofs.Terms.{Bench, word_no, well_formed}
use Rattle.machine.proofs.Terms.{node_at}
use Rattle.state.proofs.Lists.{both}
use Rattle.lists.specs.Line as L
use Rattle.lists.proofs.WordsRead as A
use Rattle.placed.specs.Consistent.{ok_answer}
use Rattle.placed.specs.Machine.{answer_at}

-- ---- the answer at a place of the store
head_taken : (v : ℕ) (l : List ℕ) → get_or l 0 0 ≡ v → get_or (take v l) 0 0 ≡ v
head_taken zero l e = refl
head_taken (suc v) [] e = e
head_taken (suc v) (x ∷ l) e = e

-- its Overall Length is the word there, even past the store's end
pub first_word : (store : List ℕ) (p : ℕ) → word_no 1 (answer_at store p) ≡ get_or store p 0
unfolding answer_at
first_word store p = head_taken (get_or store p 0) (drop p store) (get_or-drop p store 0 0 ∙ rw add-zero)

-- ---- an answer in order is one at the front of the words from its place on: it says how long it is, so all of it is there
module _ (b : Bench) (store : List ℕ) (i p : ℕ) where
  front_formed : L.ok_answer b i (drop p store) ≡ well_formed b (node_at b i) (answer_at store p)
  unfolding L.ok_answer answer_at
  front_formed = rw (A.first_at store p)

  by_front : (t : Bool) → L.ok_answer b i (drop p store) ≡ t → ok_answer b store i p ≡ t
  unfolding ok_answer
  by_front true e = both (le-leb _ _ (A.lies b store i p e).inside) (sym front_formed ∙ e)
  by_front false e =
      let t : Bool = leb (p + get_or store p 0) (length store) in
      ap (λ (u : Bool). t && u) (sym front_formed ∙ e) ∙ and-false t

  pub ok_front : ok_answer b store i p ≡ L.ok_answer b i (drop p store)
  ok_front = by_front (L.ok_answer b i (drop p store)) refl

-- an answer in order
pub record Lies (b : Bench) (store : List ℕ) (i p : ℕ) : Type 0 where
  pub inside : p + get_or store p 0 ≤ length store
  pub formed : well_formed b (node_at b i) (answer_at store p) ≡ true
  pub least : 6 ≤ get_or store p 0

pub lies : (b : Bench) (store : List ℕ) (i p : ℕ) → ok_answer b store i p ≡ true → Lies b store i p
unfolding ok_answer
lies b store i p h =
    let l = A.lies b store i p (sym (ok_front b store i p) ∙ h) in
    record { inside = l.inside; formed = (and_true (leb (p + get_or store p 0) (length store)) _ h).1; least = l.least }
