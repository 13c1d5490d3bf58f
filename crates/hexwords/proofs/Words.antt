-- A word at a place of a line: four digits, and the field goes on no more; the field after it begins five bytes on.
-- Assumes nothing.
use Rattle.units.proofs.Common.{sym, ◌∙◌, ◌≡◌, refl, ap, true, false, Bool, ◌&&◌, List, [], ◌∷◌, ℕ, ◌≤◌, ◌-◌, ◌+◌, ◌<◌, arith, length, drop}
use Rattle.units.proofs.Common.{◌*◌, get_or, get_or-drop, get_or-take, take, length-take-le, length-drop, eq-eqb, every, word, no_or, and_true, ne_eqb, take-take, take_all, ℕ_discrete, and-false, drop_of_length-le, suc, zero, drop-drop, take-append-drop, length-take, yes_and, no_and, true≢false, ◌%◌, ◌/◌}
use native.Mathlib.Decide.{dec_lt, dec_le}
use Rattle.std.specs.List.{list_all}
use Rattle.std.specs.Bool.{then_some}
use Rattle.dialog.specs.Fields.{is_hex, hex_digit, hex_from, word_ok, word_of}
use Rattle.dialog.specs.Spoken.{field}
use Rattle.dialog.proofs.FieldLaws.{both, nowise, and_end, next, every_is, every_split, same_length}
use Rattle.dialog.proofs.HexLaws.{word_length, word_digits}
use Rattle.fields.specs.FieldsAt.{fields_from, FieldAt}
use Rattle.hexwords.specs.WordsAt.{is_piece, words_at}
use Rattle.fields.proofs.Places.{from_some, from_past, at_blank, at_end, ends, through}
use Rattle.std.proofs.Common.{◌++◌, min, ◌||◌, eqb, Bor, fold, Some, None}
use Rattle.std.specs.declared.slice.Chunks.{Chunks}
use Rattle.std.proofs.lemmas.Bool.Decides.{nat_tests}
use Rattle.std.specs.Slice.Iter.{chunks_steps, chunks_rest, chunks_size}
use Rattle.std.proofs.lemmas.Iterator.{YieldsList}
use Rattle.std.proofs.lemmas.Iterator.Splits.{YieldsList-from_shown_while}
use Rattle.meaning.proofs.Terms.{same}

-- two tests that say yes of the same say the same
alike : (a b : Bool) → (a ≡ true → b ≡ true) → (b ≡ true → a ≡ true) → a ≡ b
alike true b f g = sym (f refl)
alike false true f g = g refl
alike false false f g = refl

-- ---- a line cut into pieces of five bytes
abbrev pub pieces : List ℕ → List (List ℕ)
pieces [] = []
pieces (a ∷ []) = (a ∷ []) ∷ []
pieces (a ∷ b ∷ []) = (a ∷ b ∷ []) ∷ []
pieces (a ∷ b ∷ c ∷ []) = (a ∷ b ∷ c ∷ []) ∷ []
pieces (a ∷ b ∷ c ∷ d ∷ []) = (a ∷ b ∷ c ∷ d ∷ []) ∷ []
pieces (a ∷ b ∷ c ∷ d ∷ e ∷ xs) = (a ∷ b ∷ c ∷ d ∷ e ∷ []) ∷ pieces xs

pieces_next : (x t : List ℕ) → length x ≡ min 5 (length (x ++ t)) → 0 < length (x ++ t) → pieces (x ++ t) ≡ x ∷ pieces t
pieces_next [] t e h = absurd (omega arith)
pieces_next (a ∷ []) [] e h = refl
pieces_next (a ∷ []) (y ∷ t) e h = absurd (omega arith)
pieces_next (a ∷ b ∷ []) [] e h = refl
pieces_next (a ∷ b ∷ []) (y ∷ t) e h = absurd (omega arith)
pieces_next (a ∷ b ∷ c ∷ []) [] e h = refl
pieces_next (a ∷ b ∷ c ∷ []) (y ∷ t) e h = absurd (omega arith)
pieces_next (a ∷ b ∷ c ∷ d ∷ []) [] e h = refl
pieces_next (a ∷ b ∷ c ∷ d ∷ []) (y ∷ t) e h = absurd (omega arith)
pieces_next (a ∷ b ∷ c ∷ d ∷ f ∷ []) t e h = refl
pieces_next (a ∷ b ∷ c ∷ d ∷ f ∷ g ∷ x) t e h = absurd (omega arith)

pieces_none : (xs : List ℕ) → length xs ≡ 0 → length (pieces xs) ≡ 0
pieces_none [] e = refl
pieces_none (x ∷ xs) e = absurd (omega arith)

pub yields_pieces : (s : Chunks ℕ) → chunks_size s ≡ 5 → YieldsList chunks_steps (λ (x : Bor (List ℕ)). x.now) s (pieces (chunks_rest s))
yields_pieces s e =
    YieldsList-from_shown_while chunks_steps (λ (x : Bor (List ℕ)). x.now) (λ t. pieces (chunks_rest t)) (λ t. chunks_size t ≡ 5)
    (λ t u p k. pieces_none (chunks_rest t) k.1.0)
    (λ t x u p k. (k.0 ∙ p, ap pieces k.1.0 ∙ pieces_next x.now (chunks_rest u) (rw (p, k.1.0) at k.1.1) (rw k.1.0 at k.1.2))) s e

-- what has no four bytes is no word, and what has more than five no piece
no_word : (w : List ℕ) → (length w ≡ 4 → ⊥) → word_ok w ≡ false
no_word w h = nowise (word_ok w) (λ e. h (word_length w e))

no_piece : (p : List ℕ) → 5 < length p → is_piece p ≡ false
no_piece p h =
    no_or (no_word p (λ e. omega arith)) ∙ nowise _ (λ e.
    let q = and_true (word_ok (take 4 p)) (same (drop 4 p) (32 ∷ [])) e in
    omega (arith, same_length (drop 4 p) (32 ∷ []) q.1, length-drop 4 p))

-- four bytes of which the last is a blank are no word
not_last : (a b c : Bool) → false ≡ ((a && (b && (c && false))) || (a && (b && (c && false)) && false))
not_last true true true = refl
not_last true true false = refl
not_last true false c = refl
not_last false b c = refl

or_never : (a : Bool) → a ≡ (a || (a && false))
or_never true = refl
or_never false = refl

and_never : (a b : Bool) → b ≡ false → false ≡ (a && (b && true))
and_never true b e = sym (rw e)
and_never false b e = refl

-- a piece that ends with a blank is one just where the rest of it is a word ..
pub ends_blank : (p : List ℕ) → 1 ≤ length p → get_or p (length p - 1) 0 ≡ 32 → word_ok (take (length p - 1) p) ≡ is_piece p
unfolding word_ok every same
ends_blank [] h e = absurd (omega arith)
ends_blank (a ∷ []) h e = refl
ends_blank (a ∷ b ∷ []) h e = refl
ends_blank (a ∷ b ∷ c ∷ []) h e = refl
ends_blank (a ∷ b ∷ c ∷ d ∷ []) h e = rw e (not_last (is_hex a) (is_hex b) (is_hex c))
ends_blank (a ∷ b ∷ c ∷ d ∷ f ∷ []) h e = rw e (sym (and_end (is_hex a && (is_hex b && (is_hex c && (is_hex d && true))))))
ends_blank (a ∷ b ∷ c ∷ d ∷ f ∷ g ∷ xs) h e =
    let p : List ℕ = a ∷ b ∷ c ∷ d ∷ f ∷ g ∷ xs in
    no_word (take (length p - 1) p) (λ z. omega (arith, z, length-take-le (length p - 1) p (omega arith))) ∙ sym (no_piece p (omega arith))

-- .. and any other just where it is a word
pub ends_else : (p : List ℕ) → (1 ≤ length p → get_or p (length p - 1) 0 ≡ 32 → ⊥) → word_ok p ≡ is_piece p
unfolding word_ok every same
ends_else [] h = refl
ends_else (a ∷ []) h = refl
ends_else (a ∷ b ∷ []) h = refl
ends_else (a ∷ b ∷ c ∷ []) h = refl
ends_else (a ∷ b ∷ c ∷ d ∷ []) h = or_never (is_hex a && (is_hex b && (is_hex c && (is_hex d && true))))
ends_else (a ∷ b ∷ c ∷ d ∷ f ∷ []) h =
    and_never (is_hex a && (is_hex b && (is_hex c && (is_hex d && true)))) (eqb f 32) (ne_eqb f 32 (h (omega arith)))
ends_else (a ∷ b ∷ c ∷ d ∷ f ∷ g ∷ xs) h =
    let p : List ℕ = a ∷ b ∷ c ∷ d ∷ f ∷ g ∷ xs in
    no_word p (λ z. omega (arith, z)) ∙ sym (no_piece p (omega arith))

-- a piece of four bytes, and of five
or_none : (a b : Bool) → b ≡ false → (a || b) ≡ a
or_none true b e = refl
or_none false b e = e

four_piece : (p : List ℕ) → length p ≡ 4 → is_piece p ≡ word_ok p
unfolding same
four_piece p e = or_none (word_ok p) _ (rw (drop_of_length-le p {i = 4} (omega arith)) (and-false (word_ok (take 4 p))))

five_piece : (p w : List ℕ) → length p ≡ 5 → take 4 p ≡ w → get_or p 4 0 ≡ 32 → is_piece p ≡ word_ok w
five_piece p w e f b = let four : length p - 1 ≡ 4 = omega arith in sym (ap word_ok (sym f) ∙ rw four at (ends_blank p (omega arith) (rw four b)))

five_else : (p : List ℕ) → length p ≡ 5 → (get_or p 4 0 ≡ 32 → ⊥) → is_piece p ≡ false
five_else p e b =
    let four : length p - 1 ≡ 4 = omega arith in
    sym (ends_else p (λ k. rw four b)) ∙ no_word p (λ z. omega arith)

-- ---- digits judged one after another, none left out
and_assoc : (a b c : Bool) → ((a && b) && c) ≡ (a && (b && c))
and_assoc true b c = refl
and_assoc false b c = refl

pub fold_every : (t : ℕ → Bool) (a : Bool) (xs : List ℕ) → fold (λ (b : Bool) (x : ℕ). b && t x) a xs ≡ (a && every t xs)
unfolding every
fold_every t a [] = sym (and_end a)
fold_every t a (x ∷ xs) = fold_every t (a && t x) xs ∙ and_assoc a (t x) (every t xs)

-- ---- four digits
pub digit : (w : List ℕ) (j : ℕ) → every is_hex w ≡ true → j < length w → is_hex (get_or w j 0) ≡ true
digit w j e h = every_is is_hex w 0 e j h

pub word_value : (w : List ℕ) → length w ≡ 4 → word_of w ≡ word (hex_digit (get_or w 0 0) * 16 + hex_digit (get_or w 1 0))
    (hex_digit (get_or w 2 0) * 16 + hex_digit (get_or w 3 0))
unfolding hex_from
word_value [] e = absurd (omega arith)
word_value (a ∷ []) e = absurd (omega arith)
word_value (a ∷ b ∷ []) e = absurd (omega arith)
word_value (a ∷ b ∷ c ∷ []) e = absurd (omega arith)
word_value (a ∷ b ∷ c ∷ d ∷ []) e = omega arith
word_value (a ∷ b ∷ c ∷ d ∷ f ∷ xs) e = absurd (omega arith)

-- ---- a word at a place
pub record WordAt (line : List ℕ) (at : ℕ) : Type 0 where
  pub first : fields_from line at ≡ take 4 (drop at line) ∷ fields_from line (at + 5)
  pub ok : word_ok (take 4 (drop at line)) ≡ true
  pub inside : at + 4 ≤ length line
  pub stops : at + 4 < length line → get_or line (at + 4) 0 ≡ 32

module _ (line : List ℕ) (at : ℕ) where
  word_at : at ≤ length line → word_ok (field (fields_from line at) 0) ≡ true → WordAt line at
  word_at h e =
      let (r, f, b) = ends line (length line - at) at (omega arith) in
      let ok : word_ok (take (r - at) (drop at line)) ≡ true = sym (ap (λ (fs : List (List ℕ)). word_ok (field fs 0)) f.first) ∙ e in
      let long : r - at ≡ 4 =
      sym (length-take-le (r - at) (drop at line) (omega (arith, f.most, length-drop at line))) ∙ word_length _ ok in
      let four : r ≡ at + 4 = omega (arith, f.least) in
      let five : r + 1 ≡ at + 5 = omega arith in
      record { first = f.first ∙ rw (long, five); ok = rw long at ok; inside = omega (arith, f.most); stops = rw four at b }

  -- where all fields from a place on are words, the first is
  pub first_word : at ≤ length line → every word_ok (fields_from line at) ≡ true → WordAt line at
  first_word h e = word_at h (every_is word_ok (fields_from line at) [] e 0 (from_some line at h))

  -- four digits that end there are the first field
  word_here : word_ok (take 4 (drop at line)) ≡ true → FieldAt line (at + 4) (at + 4) → word_ok (field (fields_from line at) 0) ≡ true
  word_here w f =
      let g = through line is_hex refl 4 at (at + 4) (at + 4) refl f.most (word_digits (take 4 (drop at line)) w) f in
      let z : at + 4 - at ≡ 4 = omega arith in
      rw (g.first, z) w

  at_stop : FieldAt line (at + 4) (at + 4) → word_ok (take 4 (drop at line)) ≡ word_ok (field (fields_from line at) 0)
  at_stop f = alike (word_ok (take 4 (drop at line))) (word_ok (field (fields_from line at) 0)) (λ w. word_here w f)
      (λ e. (word_at (omega (arith, f.most)) e).ok)

  -- the next piece is one just where the next field is a word
  piece_at : at + 4 ≤ length line → is_piece (take 5 (drop at line)) ≡ word_ok (field (fields_from line at) 0)
  piece_at h = elim (dec_lt (at + 4) (length line)) [
    | yes l ↦
        let p : List ℕ = take 5 (drop at line) in
        let long : length p ≡ 5 = length-take-le 5 (drop at line) (omega (arith, length-drop at line)) in
        let front : take 4 p ≡ take 4 (drop at line) = take-take 4 5 (drop at line) (omega arith) in
        let there : get_or p 4 0 ≡ get_or line (at + 4) 0 = get_or-take 5 (drop at line) 4 0 (omega arith) ∙ get_or-drop at line 4 0 in
        elim (ℕ_discrete (get_or line (at + 4) 0) 32) [
          | yes b ↦ five_piece p (take 4 (drop at line)) long front (there ∙ b) ∙ at_stop (at_blank line (at + 4) l b)
          | no b ↦ five_else p long (λ e. b (sym there ∙ e)) ∙ sym (nowise _ (λ e. b ((word_at (omega arith) e).stops l)))
        ]
    | no l ↦
        let all : take 5 (drop at line) ≡ take 4 (drop at line) =
        take_all 5 (drop at line) (omega (arith, length-drop at line)) ∙ sym (take_all 4 (drop at line) (omega (arith, length-drop at line))) in
        rw all (four_piece (take 4 (drop at line)) (length-take-le 4 (drop at line) (omega (arith, length-drop at line)))
        ∙ at_stop (at_end line (at + 4) (omega arith)))
  ]

-- ---- the words from a place on
module _ (line : List ℕ) where
  pieces_at : (at : ℕ) → at + 4 ≤ length line → pieces (drop at line) ≡ take 5 (drop at line) ∷ pieces (drop (at + 5) line)
  pieces_at at h =
      let l : List ℕ = drop at line in
      let cut : take 5 l ++ drop 5 l ≡ l = take-append-drop 5 l in
      let m : length (take 5 l) ≡ min 5 (length l) = length-take 5 l in
      ap pieces (sym cut) ∙ pieces_next (take 5 l) (drop 5 l) (rw cut m) (rw cut (omega (arith, length-drop at line)))
      ∙ ap (λ (xs : List ℕ). take 5 l ∷ pieces xs) (drop-drop 5 at line)

  -- where their bytes are those of j words and of blanks between two
  abbrev Here : ℕ → ℕ → Type 0
  Here j at = (list_all is_piece (pieces (drop at line)) ≡ every word_ok (fields_from line at))
      × (every word_ok (fields_from line at) ≡ true → length (fields_from line at) ≡ j)

  words_here : (j at : ℕ) → at + 5 * j ≡ length line + 1 → Here j at
  unfolding every
  words_here zero at e = rw (drop_of_length-le line {i = at} (omega arith), from_past line at (omega arith)) (refl, λ t. refl)
  words_here (suc j) at e = go (words_here j (at + 5) (omega arith)) (word_ok (field (fields_from line at) 0)) refl
    where
      inside : at + 4 ≤ length line
      inside = omega arith

      cut : list_all is_piece (pieces (drop at line)) ≡ (word_ok (field (fields_from line at) 0) && list_all is_piece (pieces (drop (at + 5) line)))
      cut = rw (pieces_at at inside, piece_at line at inside)

      go : Here j (at + 5) → (t : Bool) → word_ok (field (fields_from line at) 0) ≡ t → Here (suc j) at
      go r true w =
          let x = word_at line at (omega arith) w in
          let fs : every word_ok (fields_from line at) ≡ every word_ok (fields_from line (at + 5)) =
          ap (every word_ok) x.first ∙ yes_and x.ok in
          (cut ∙ yes_and w ∙ r.0 ∙ sym fs, λ t. omega (arith, ap length x.first, r.1 (sym fs ∙ t)))
      go r false w =
          let never : every word_ok (fields_from line at) ≡ false =
          nowise _ (λ t. true≢false (sym (every_is word_ok (fields_from line at) [] t 0 (from_some line at (omega arith))) ∙ w)) in
          (cut ∙ no_and _ w ∙ sym never, λ t. absurd (true≢false (sym t ∙ never)))

  -- and where all are words, they are so many
  words_long : (f k at : ℕ) → k ≤ f → length line + 1 ≡ at + k → every word_ok (fields_from line at) ≡ true
      → 5 * length (fields_from line at) ≡ k
  words_long zero k at l e t = omega (arith, ap length (from_past line at (omega arith)))
  words_long (suc f) k at l e t = elim (dec_le at (length line)) [
    | yes h ↦
        let x = first_word line at h t in
        let more : every word_ok (fields_from line (at + 5)) ≡ true = (every_split word_ok x.first t).1 in
        omega (arith, ap length x.first, x.inside, words_long f (k - 5) (at + 5) (omega arith) (omega (arith, x.inside)) more)
    | no h ↦ omega (arith, ap length (from_past line at (omega arith)))
  ]

  -- what the count of words promises
  pub none_left : (at : ℕ) → length line < at → Some 0 ≡ words_at line at
  unfolding words_at every
  none_left at h = rw (from_past line at h)

  pub uneven : (at n : ℕ) → at ≤ length line → n ≡ length line - at → (n % 5 ≡ 4 → ⊥) → None ≡ words_at line at
  unfolding words_at
  uneven at n h e d =
      let never : every word_ok (fields_from line at) ≡ false =
      nowise _ (λ t. d (omega (arith, words_long (length line + 1) (length line + 1 - at) at (omega arith) (omega arith) t))) in
      rw never

  pub counted : (at n : ℕ) (r : Bool) → at ≤ length line → n ≡ length line - at → n % 5 ≡ 4 → r ≡ list_all is_piece (pieces (drop at line))
      → then_some r (n / 5 + 1) ≡ words_at line at
  unfolding words_at
  counted at n r h e m a =
      let w = words_here (n / 5 + 1) at (omega arith) in
      go (every word_ok (fields_from line at)) refl (a ∙ w.0) w.1
    where
      go : (t : Bool) → every word_ok (fields_from line at) ≡ t → r ≡ every word_ok (fields_from line at) → (every word_ok (fields_from line at) ≡ true → length (fields_from line at) ≡ n / 5 + 1) → then_some r (n / 5 + 1) ≡ then_some (every word_ok (fields_from line at)) (length (fields_from line at))
      go true t i l = rw (i ∙ t, t, l t)
      go false t i l = rw (i ∙ t, t)

  -- and what it tells
  pub words_ok : (at n : ℕ) → words_at line at ≡ Some n → every word_ok (fields_from line at) ≡ true
  unfolding words_at
  words_ok at n e = go (every word_ok (fields_from line at)) refl e
    where
      go : (t : Bool) → every word_ok (fields_from line at) ≡ t → then_some t (length (fields_from line at)) ≡ Some n
          → every word_ok (fields_from line at) ≡ true
      go true f s = f
      go false f s = absurd (cc)
