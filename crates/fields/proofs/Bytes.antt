-- Two lists of bytes compared, byte by byte.
-- Assumes nothing.
use Rattle.units.proofs.Common.{sym, ◌∙◌, ◌≡◌, refl, ap, true, false, Bool, ◌&&◌, List, [], ◌∷◌, ℕ, ◌<◌, suc, arith, eqb, length, get_or, cond, ne_eqb}
use Rattle.std.proofs.lemmas.Bool.Decides.{nat_tests}
use Rattle.meaning.proofs.Terms.{same}
use Rattle.text.specs.Text.{ascii}
use Rattle.fields.specs.FieldsAt.{verb_of}
use Rattle.std.proofs.Common.{Some, None}
use Rattle.fields.specs.declared.Verb.TheVariants.{Command, Check, Arrive, Leave, Collect, Acknowledge, Store}

abbrev pub bytes_at : List ℕ → ℕ → List ℕ → Bool
bytes_at f i [] = true
bytes_at f i (c ∷ w) = eqb (get_or f i 0) c && bytes_at f (suc i) w

shifted : (x : ℕ) (f : List ℕ) (i : ℕ) (w : List ℕ) → bytes_at (x ∷ f) (suc i) w ≡ bytes_at f i w
shifted x f i [] = refl
shifted x f i (c ∷ w) = ap (λ (b : Bool). eqb (get_or f i 0) c && b) (shifted x f (suc i) w)

swap_tests : (l x r : Bool) → (x && (l && r)) ≡ (l && (x && r))
swap_tests true x r = refl
swap_tests false true r = refl
swap_tests false false r = refl

pub same_at : (f w : List ℕ) → same f w ≡ (eqb (length f) (length w) && bytes_at f 0 w)
unfolding same
same_at [] [] = refl
same_at [] (y ∷ ys) = let n : eqb (length {A = ℕ} []) (length (y ∷ ys)) ≡ false = grind (arith, nat_tests) in rw n
same_at (x ∷ xs) [] = let n : eqb (length (x ∷ xs)) (length {A = ℕ} []) ≡ false = grind (arith, nat_tests) in rw n
same_at (x ∷ xs) (y ∷ ys) =
    let n : eqb (length (x ∷ xs)) (length (y ∷ ys)) ≡ eqb (length xs) (length ys) = grind (arith, nat_tests) in
    rw (n, shifted x xs 0 ys, same_at xs ys) (swap_tests (eqb (length xs) (length ys)) (eqb x y) (bytes_at xs 0 ys))

-- ---- the words of the table, by their lengths
module _ (f : List ℕ) where
  pub verb_of_five : length f ≡ 5 → verb_of f ≡
      cond (bytes_at f 0 (ascii "check")) (Some Check) (cond (bytes_at f 0 (ascii "leave")) (Some Leave) (cond (bytes_at f 0 (ascii "store")) (Some Store) None))
  unfolding verb_of
  verb_of_five e = simp (same_at f, e)

  -- no verb of five bytes begins with another byte
  pub verb_of_five_not : length f ≡ 5 → (get_or f 0 0 ≡ 99 → ⊥) → (get_or f 0 0 ≡ 108 → ⊥) → (get_or f 0 0 ≡ 115 → ⊥) → verb_of f ≡ None
  verb_of_five_not e c l s =
      let a : eqb (get_or f 0 0) 99 ≡ false = ne_eqb _ _ c in
      let b : eqb (get_or f 0 0) 108 ≡ false = ne_eqb _ _ l in
      let d : eqb (get_or f 0 0) 115 ≡ false = ne_eqb _ _ s in
      verb_of_five e ∙ simp (a, b, d)

  pub verb_of_six : length f ≡ 6 → verb_of f ≡ cond (bytes_at f 0 (ascii "arrive")) (Some Arrive) None
  unfolding verb_of
  verb_of_six e = simp (same_at f, e)

  pub verb_of_seven : length f ≡ 7 → verb_of f ≡ cond (bytes_at f 0 (ascii "command")) (Some Command) (cond (bytes_at f 0 (ascii "collect")) (Some Collect) None)
  unfolding verb_of
  verb_of_seven e = simp (same_at f, e)

  pub verb_of_eleven : length f ≡ 11 → verb_of f ≡ cond (bytes_at f 0 (ascii "acknowledge")) (Some Acknowledge) None
  unfolding verb_of
  verb_of_eleven e = simp (same_at f, e)

  no_verb : (length f ≡ 5 → ⊥) → (length f ≡ 6 → ⊥) → (length f ≡ 7 → ⊥) → (length f ≡ 11 → ⊥) → verb_of f ≡ None
  unfolding verb_of
  no_verb a b c d =
      let five : eqb (length f) 5 ≡ false = ne_eqb _ _ a in
      let six : eqb (length f) 6 ≡ false = ne_eqb _ _ b in
      let seven : eqb (length f) 7 ≡ false = ne_eqb _ _ c in
      let eleven : eqb (length f) 11 ≡ false = ne_eqb _ _ d in
      simp (same_at f, five, six, seven, eleven)

  pub verb_of_short : length f < 5 → verb_of f ≡ None
  verb_of_short h = no_verb (λ e. omega arith) (λ e. omega arith) (λ e. omega arith) (λ e. omega arith)

  pub verb_of_between : 7 < length f → length f < 11 → verb_of f ≡ None
  verb_of_between h k = no_verb (λ e. omega arith) (λ e. omega arith) (λ e. omega arith) (λ e. omega arith)

  pub verb_of_long : 11 < length f → verb_of f ≡ None
  verb_of_long h = no_verb (λ e. omega arith) (λ e. omega arith) (λ e. omega arith) (λ e. omega arith)

pub ruleset verbs = (verb_of_short, verb_of_five, verb_of_five_not, verb_of_six, verb_of_seven, verb_of_between, verb_of_eleven, verb_of_long)
