-- Laws of the calls of the table: numbers one after another, and what makes a line each call.
-- Assumes nothing.
use Rattle.units.proofs.Common.{sym, ◌∙◌, ◌≡◌, refl, ap, true, false, Bool, cond, ◌&&◌, false≢true, ◌||◌, List, [], ◌∷◌, ◌++◌, ℕ, ◌≤◌, ◌+◌}
use Rattle.units.proofs.Common.{◌<◌, arith, eqb, leb, ltb, length, drop, get_or, length-map, get_or-eq_default, get_or-drop, eq-eqb, ne_eqb}
use Rattle.units.proofs.Common.{le-leb, eqb-true, leb-true, le-ltb, lt-ltb, every, yes_cond, no_cond, yes_or, no_or, and_true}
use native.Mathlib.Decide.{dec_lt}
use Rattle.meaning.proofs.Terms.{same, Call, command, check, arrive, leave, collect, acknowledge}
use Rattle.dialog.specs.Fields.{fields, number_ok, word_ok, word_of, bytes_ok}
use Rattle.dialog.specs.Spoken.{Spoken, passed, unreadable, call, look, call_by, spoken, saying, is_form, numbers_ok, a_node}
use Rattle.dialog.specs.Spoken.{a_node_and_number, a_first_and_a_count, a_stamp, a_node_a_stamp_and_a_clock, field, number}
use Rattle.dialog.specs.Spoken.{command_ok, check_ok, arrive_ok, leave_ok, collect_ok, acknowledge_ok, store_ok}
use Rattle.dialog.specs.Spoken.{store_said}
use Rattle.text.specs.Text.{ascii}
use Rattle.dialog.proofs.HexLaws.{bytes_few}
use Rattle.dialog.proofs.FieldLaws.{both, number_is, of_number}

-- ---- numbers one after another
and_assoc : (a b c : Bool) → ((a && b) && c) ≡ (a && (b && c))
and_assoc true b c = refl
and_assoc false b c = refl

and_yes : (a : Bool) → (a && true) ≡ a
and_yes true = refl
and_yes false = refl

pub numbers_enough : (ms : List ℕ) (fs : List (List ℕ)) → numbers_ok ms fs ≡ true → length ms ≤ length fs
unfolding numbers_ok
numbers_enough [] fs e = omega arith
numbers_enough (m ∷ ms) [] e = absurd (false≢true e)
numbers_enough (m ∷ ms) (f ∷ fs) e = let h = numbers_enough ms fs (and_true (number_ok m f) (numbers_ok ms fs) e).1 in omega arith

pub numbers_split : (ms ns : List ℕ) (fs : List (List ℕ)) → numbers_ok (ms ++ ns) fs ≡
    (numbers_ok ms fs && numbers_ok ns (drop (length ms) fs))
unfolding numbers_ok
numbers_split [] ns fs = refl
numbers_split (m ∷ ms) ns [] = refl
numbers_split (m ∷ ms) ns (f ∷ fs) = ap (λ (x : Bool). number_ok m f && x) (numbers_split ms ns fs) ∙ sym
    (and_assoc (number_ok m f) (numbers_ok ms fs) _)

-- one number
pub one_number : (most : ℕ) (f : List ℕ) (fs : List (List ℕ)) → numbers_ok (most ∷ []) (f ∷ fs) ≡ number_ok most f
unfolding numbers_ok
one_number most f fs = and_yes (number_ok most f)

pub no_number : (most : ℕ) → numbers_ok (most ∷ []) [] ≡ false
unfolding numbers_ok
no_number most = refl

-- what is within a limit is within a larger one
pub number_wider : (most wider : ℕ) (fs : List (List ℕ)) → most ≤ wider → numbers_ok (most ∷ []) fs ≡ true → numbers_ok (wider ∷ []) fs ≡ true
number_wider most wider [] h e = absurd (false≢true (sym (no_number most) ∙ e))
number_wider most wider (f ∷ fs) h e =
    let n = of_number most f (sym (one_number most f fs) ∙ e) in
    one_number wider f fs ∙ number_is wider f n.least n.short n.digits (omega (arith, n.few))

-- and its value is
pub few_number : (most : ℕ) (fs : List (List ℕ)) → numbers_ok (most ∷ []) fs ≡ true → number fs 0 ≤ most
few_number most [] e = absurd (false≢true (sym (no_number most) ∙ e))
few_number most (f ∷ fs) e = (of_number most f (sym (one_number most f fs) ∙ e)).few

-- the first numbers of a check
abbrev node_and_stamp : List ℕ
node_and_stamp = 255 ∷ 255 ∷ 255 ∷ 255 ∷ 255 ∷ 255 ∷ []

-- ---- the calls
module _ (fs : List (List ℕ)) where
  pub record IsCommand : Type 0 where
    pub stamp : numbers_ok a_stamp fs ≡ true
    pub form : is_form (field fs 5) ≡ true
    pub few : length (drop 6 fs) ≤ 256
    pub words : every word_ok (drop 6 fs) ≡ true

  pub record IsCheck : Type 0 where
    pub node : numbers_ok a_node fs ≡ true
    pub stamp : numbers_ok a_stamp (drop 1 fs) ≡ true
    pub clock : numbers_ok (4294967295 ∷ []) (drop 6 fs) ≡ true
    pub seven : length fs ≡ 7

  pub record IsArrive : Type 0 where
    pub node : numbers_ok a_node fs ≡ true
    pub three : length fs ≡ 3
    pub id : bytes_ok 16 (field fs 1) ≡ true
    pub bytes : bytes_ok 2047 (field fs 2) ≡ true

  pub record IsLeave : Type 0 where
    pub node : numbers_ok a_node fs ≡ true
    pub one : length fs ≡ 1

  pub record IsCollect : Type 0 where
    pub node : numbers_ok a_node fs ≡ true
    pub two : length fs ≡ 2
    pub form : is_form (field fs 1) ≡ true

  pub record IsAcknowledge : Type 0 where
    pub node : numbers_ok a_node fs ≡ true
    pub number : numbers_ok (65535 ∷ []) (drop 1 fs) ≡ true
    pub two : length fs ≡ 2

  pub record IsStore : Type 0 where
    pub first : numbers_ok (4095 ∷ []) fs ≡ true
    pub count : numbers_ok (128 ∷ []) (drop 1 fs) ≡ true
    pub two : length fs ≡ 2
    pub some : 1 ≤ number fs 1
    pub inside : number fs 0 + number fs 1 ≤ 4096

  pub is_command : IsCommand → command_ok fs ≡ true
  unfolding command_ok
  is_command c = both (both (both c.stamp c.form) (le-leb (length (drop 6 fs)) 256 c.few)) c.words

  pub of_command : command_ok fs ≡ true → IsCommand
  unfolding command_ok
  of_command e =
      let p = and_true ((numbers_ok a_stamp fs && is_form (field fs 5)) && leb (length (drop 6 fs)) 256) (every word_ok (drop 6 fs)) e in
      let q = and_true (numbers_ok a_stamp fs && is_form (field fs 5)) (leb (length (drop 6 fs)) 256) p.0 in
      let r = and_true (numbers_ok a_stamp fs) (is_form (field fs 5)) q.0 in
      record { stamp = r.0; form = r.1; few = leb-true (length (drop 6 fs)) 256 q.1; words = p.1 }

  pub is_check : IsCheck → check_ok fs ≡ true
  unfolding check_ok
  is_check c =
      both
      (numbers_split node_and_stamp (4294967295 ∷ []) fs ∙ both (numbers_split a_node a_stamp fs ∙ both c.node c.stamp) c.clock)
      (eq-eqb (length fs) 7 c.seven)

  pub of_check : check_ok fs ≡ true → IsCheck
  unfolding check_ok
  of_check e =
      let p = and_true (numbers_ok a_node_a_stamp_and_a_clock fs) (eqb (length fs) 7) e in
      let q = and_true (numbers_ok node_and_stamp fs) (numbers_ok (4294967295 ∷ []) (drop 6 fs))
      (sym (numbers_split node_and_stamp (4294967295 ∷ []) fs) ∙ p.0) in
      let r = and_true (numbers_ok a_node fs) (numbers_ok a_stamp (drop 1 fs)) (sym (numbers_split a_node a_stamp fs) ∙ q.0) in record {
        node = r.0;
        stamp = r.1;
        clock = q.1;
        seven = eqb-true (length fs) 7 p.1;
      }

  pub is_arrive : IsArrive → arrive_ok fs ≡ true
  unfolding arrive_ok
  is_arrive c = both (both (both c.node (eq-eqb (length fs) 3 c.three)) c.id) c.bytes

  pub of_arrive : arrive_ok fs ≡ true → IsArrive
  unfolding arrive_ok
  of_arrive e =
      let p = and_true ((numbers_ok a_node fs && eqb (length fs) 3) && bytes_ok 16 (field fs 1)) (bytes_ok 2047 (field fs 2)) e in
      let q = and_true (numbers_ok a_node fs && eqb (length fs) 3) (bytes_ok 16 (field fs 1)) p.0 in
      let r = and_true (numbers_ok a_node fs) (eqb (length fs) 3) q.0 in
      record { node = r.0; three = eqb-true (length fs) 3 r.1; id = q.1; bytes = p.1 }

  pub is_leave : IsLeave → leave_ok fs ≡ true
  unfolding leave_ok
  is_leave c = both c.node (eq-eqb (length fs) 1 c.one)

  pub of_leave : leave_ok fs ≡ true → IsLeave
  unfolding leave_ok
  of_leave e = let p = and_true (numbers_ok a_node fs) (eqb (length fs) 1) e in record { node = p.0; one = eqb-true (length fs) 1 p.1 }

  pub is_collect : IsCollect → collect_ok fs ≡ true
  unfolding collect_ok
  is_collect c = both (both c.node (eq-eqb (length fs) 2 c.two)) c.form

  pub of_collect : collect_ok fs ≡ true → IsCollect
  unfolding collect_ok
  of_collect e =
      let p = and_true (numbers_ok a_node fs && eqb (length fs) 2) (is_form (field fs 1)) e in
      let q = and_true (numbers_ok a_node fs) (eqb (length fs) 2) p.0 in
      record { node = q.0; two = eqb-true (length fs) 2 q.1; form = p.1 }

  pub is_acknowledge : IsAcknowledge → acknowledge_ok fs ≡ true
  unfolding acknowledge_ok
  is_acknowledge c = both (numbers_split a_node (65535 ∷ []) fs ∙ both c.node c.number) (eq-eqb (length fs) 2 c.two)

  pub of_acknowledge : acknowledge_ok fs ≡ true → IsAcknowledge
  unfolding acknowledge_ok
  of_acknowledge e =
      let p = and_true (numbers_ok a_node_and_number fs) (eqb (length fs) 2) e in
      let q = and_true (numbers_ok a_node fs) (numbers_ok (65535 ∷ []) (drop 1 fs)) (sym (numbers_split a_node (65535 ∷ []) fs) ∙ p.0) in
      record { node = q.0; number = q.1; two = eqb-true (length fs) 2 p.1 }

  pub is_store : IsStore → store_ok fs ≡ true
  unfolding store_ok
  is_store c =
      both
      (both (numbers_split (4095 ∷ []) (128 ∷ []) fs ∙ both c.first c.count) (eq-eqb (length fs) 2 c.two))
      (both (le-leb 1 (number fs 1) c.some) (le-leb (number fs 0 + number fs 1) 4096 c.inside))

  pub of_store : store_ok fs ≡ true → IsStore
  unfolding store_ok
  of_store e =
      let p = and_true (numbers_ok a_first_and_a_count fs && eqb (length fs) 2) (leb 1 (number fs 1) && leb (number fs 0 + number fs 1) 4096)
      e in
      let q = and_true (numbers_ok a_first_and_a_count fs) (eqb (length fs) 2) p.0 in
      let r = and_true (numbers_ok (4095 ∷ []) fs) (numbers_ok (128 ∷ []) (drop 1 fs))
      (sym (numbers_split (4095 ∷ []) (128 ∷ []) fs) ∙ q.0) in
      let t = and_true (leb 1 (number fs 1)) (leb (number fs 0 + number fs 1) 4096) p.1 in record {
        first = r.0;
        count = r.1;
        two = eqb-true (length fs) 2 q.1;
        some = leb-true 1 (number fs 1) t.0;
        inside = leb-true (number fs 0 + number fs 1) 4096 t.1;
      }

  -- a form is one of the fields
  pub form_there : (k : ℕ) → is_form (field fs k) ≡ true → k < length fs
  unfolding same
  form_there k e = elim (dec_lt k (length fs)) [
    | yes h ↦ h
    | no h ↦ absurd (false≢true (sym (ap is_form (get_or-eq_default fs [] {n = k} (omega arith))) ∙ e))
  ]

  -- five nodes are a stamp
  pub stamp_numbers : numbers_ok a_stamp fs
      ≡ ((((numbers_ok a_node fs && numbers_ok a_node (drop 1 fs)) && numbers_ok a_node (drop 2 fs)) && numbers_ok a_node (drop 3 fs)) && numbers_ok
      a_node (drop 4 fs))
  stamp_numbers =
      let split : (ms : List ℕ) → _ = λ ms. numbers_split ms a_node fs in
      rw (split (255 ∷ 255 ∷ 255 ∷ 255 ∷ []), split (255 ∷ 255 ∷ 255 ∷ []), split (255 ∷ 255 ∷ []), split a_node)

-- ---- the line
module _ (line : List ℕ) where
  pub too_long : 4400 < length line → spoken line ≡ unreadable
  unfolding spoken
  too_long h = yes_cond _ (lt-ltb 4400 (length line) h)

  pub empty : length line ≡ 0 → spoken line ≡ passed
  unfolding spoken
  empty e = no_cond _ (le-ltb 4400 (length line) (omega arith)) ∙ yes_cond _ (yes_or _ (eq-eqb (length line) 0 e))

  pub comment : length line ≤ 4400 → (length line ≡ 0 → ⊥) → get_or line 0 0 ≡ 35 → spoken line ≡ passed
  unfolding spoken
  comment h d e =
      no_cond _ (le-ltb 4400 (length line) h)
      ∙ yes_cond _ (no_or (ne_eqb (length line) 0 d) ∙ eq-eqb (get_or line 0 0) 35 e)

  pub tried : (w : List ℕ) (fs : List (List ℕ)) → length line ≤ 4400 → (length line ≡ 0 → ⊥) → (get_or line 0 0 ≡ 35 → ⊥) → fields line ≡ w ∷
      fs
      → spoken line ≡ call_by w fs
  unfolding spoken
  tried w fs h d e f =
      no_cond _ (le-ltb 4400 (length line) h)
      ∙ no_cond _ (no_or (ne_eqb (length line) 0 d) ∙ ne_eqb (get_or line 0 0) 35 e)
      ∙ ap (λ (gs : List (List ℕ)). call_by (get_or gs 0 []) (drop 1 gs)) f

-- ---- what every line keeps to: a call's packet, ID and plaque have room, and collect lends 135 words; a look is within the store
unfoldable pub Kept : Spoken → Type 0
Kept passed = Unit {0}
Kept unreadable = Unit {0}
Kept (call (command t f ws)) = length ws ≤ 256
Kept (call (check n t c)) = Unit {0}
Kept (call (arrive n id s)) = (length id ≤ 16) × (length s ≤ 2047)
Kept (call (leave n)) = Unit {0}
Kept (call (collect f n k)) = k ≡ 135
Kept (call (acknowledge n h)) = Unit {0}
Kept (look first count) = (count ≤ 128) × (first + count ≤ 4096)

if_said : (ok : Bool) (c : Call) → (ok ≡ true → Kept (call c)) → Kept (saying ok c)
unfolding Kept
if_said true c h = h refl
if_said false c h = tt

either : (t : Bool) (a b : Spoken) → Kept a → Kept b → Kept (cond t a b)
either true a b p q = p
either false a b p q = q

store_kept : (fs : List (List ℕ)) → Kept (store_said fs)
unfolding Kept
store_kept fs = go (store_ok fs) refl
  where
    go : (t : Bool) → store_ok fs ≡ t → Kept (cond t (look (number fs 0) (number fs 1)) unreadable)
    go true e = let s = of_store fs e in (rw (sym (get_or-drop 1 fs 0 [])) (few_number 128 (drop 1 fs) s.count), s.inside)
    go false e = tt

by_kept : (w : List ℕ) (fs : List (List ℕ)) → Kept (call_by w fs)
unfolding Kept call_by
by_kept w fs =
    either (same w (ascii "command")) _ _ (if_said (command_ok fs) _ (λ e. rw (length-map (drop 6 fs) word_of) (of_command fs e).few))
    (either (same w (ascii "check")) _ _ (if_said (check_ok fs) _ (λ e. tt))
    (either (same w (ascii "arrive")) _ _
    (if_said (arrive_ok fs) _ (λ e. (bytes_few 16 (field fs 1) (of_arrive fs e).id, bytes_few 2047 (field fs 2) (of_arrive fs e).bytes)))
    (either (same w (ascii "leave")) _ _ (if_said (leave_ok fs) _ (λ e. tt))
    (either (same w (ascii "collect")) _ _ (if_said (collect_ok fs) _ (λ e. refl))
    (either (same w (ascii "acknowledge")) _ _ (if_said (acknowledge_ok fs) _ (λ e. tt))
    (either (same w (ascii "store")) _ _ (store_kept fs) tt))))))

pub spoken_kept : (line : List ℕ) → Kept (spoken line)
unfolding Kept spoken
spoken_kept line =
    either (ltb 4400 (length line)) _ _ tt
    (either (eqb (length line) 0 || eqb (get_or line 0 0) 35) _ _ tt (by_kept (get_or (fields line) 0 []) (drop 1 (fields line))))
