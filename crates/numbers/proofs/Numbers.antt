-- What the readers of numbers promise, from what they found. `fs` are the fields from some place on, and a place is known by how many of
-- them come before it.
-- Assumes nothing.
use native.Mathlib.Decide.{dec_le}
use Rattle.units.proofs.Common.{sym, ◌∙◌, ◌≡◌, refl, ap, true, false, Bool, cond, ◌&&◌, List, [], ◌∷◌, ℕ, ◌≤◌, ◌-◌, ◌+◌, ◌<◌}
use Rattle.units.proofs.Common.{◌*◌, ◌^◌, arith, length, drop, get_or, take, length-drop, get_or-drop, drop-drop}
use Rattle.units.proofs.Common.{leb, le-leb, every, true≢false, drop_of_length-le, yes_and, no_and, eqb, eq-eqb, ne_eqb, lt-leb}
use Rattle.units.proofs.Common.{length-take, length-take-le, get_or-take}
use Rattle.std.proofs.Common.{Some, None}
use Rattle.std.specs.List.{AllWithin, HoldsAt}
use Rattle.std.specs.Bool.{then_some}
use Rattle.units.specs.declared.stamp.Stamp.{Stamp}
use Rattle.dialog.specs.Fields.{is_digit, decimal_from, value_of, number_ok}
use Rattle.dialog.specs.Spoken.{numbers_ok, a_stamp, a_node, field, number, stamp_from}
use Rattle.dialog.proofs.FieldLaws.{nowise, in_range, ten_times, IsNumber, of_number, number_is, next, every_next, every_end}
use Rattle.dialog.proofs.SpokenLaws.{numbers_enough, one_number, no_number, stamp_numbers}
use Rattle.fields.specs.declared.Read.{Read}
use Rattle.fields.specs.FieldsAt.{fields_from, FieldAt}
use Rattle.numbers.specs.NumbersAt.{number_in, number_at, node_at, stamp_of, stamp_at}
use Rattle.fields.proofs.Places.{from_past, from_some, after_field, after_past, after_rest, to_blank, to_line_end, ends}

-- ---- a field by itself
module _ (most : ℕ) (f : List ℕ) where
  pub not_number : (IsNumber most f → ⊥) → None ≡ number_in most f
  unfolding number_in
  not_number h = sym (ap (λ (b : Bool). then_some b (value_of f)) (nowise (number_ok most f) (λ e. h (of_number most f e))))

  pub is_number : IsNumber most f → Some (value_of f) ≡ number_in most f
  unfolding number_in
  is_number n = sym (ap (λ (b : Bool). then_some b (value_of f)) (number_is most f n.least n.short n.digits n.few))

-- its first i bytes are digits, that make v
pub record SoFar (f : List ℕ) (i v : ℕ) : Type 0 where
  pub small : v < 10 ^ i
  pub digits : every is_digit f ≡ every is_digit (drop i f)
  pub value : value_of f ≡ decimal_from v (drop i f)

module _ (f : List ℕ) where
  pub so_none : SoFar f 0 0
  so_none = record { small = omega arith; digits = refl; value = refl }

  module _ {i v : ℕ} (s : SoFar f i v) where
    here : i < length f → every is_digit f ≡ (is_digit (get_or f i 0) && every is_digit (drop (i + 1) f))
    here h = s.digits ∙ every_next is_digit f i 0 h

    pub so_bad : i < length f → is_digit (get_or f i 0) ≡ false → every is_digit f ≡ true → ⊥
    so_bad h b e = true≢false (sym e ∙ here h ∙ no_and _ b)

    pub so_more : i < length f → is_digit (get_or f i 0) ≡ true → SoFar f (i + 1) (v * 10 + (get_or f i 0 - 48))
    unfolding decimal_from
    so_more h y =
        let w = in_range 48 57 (get_or f i 0) y in record {
          small = ten_times v _ i s.small (omega arith);
          digits = here h ∙ yes_and y;
          value = s.value ∙ ap (decimal_from v) (next f i 0 h);
        }

    pub so_end : length f ≤ i → (every is_digit f ≡ true) × (value_of f ≡ v)
    unfolding decimal_from
    so_end h =
        (s.digits ∙ every_end is_digit f i h, s.value ∙ ap (decimal_from v) (drop_of_length-le f {i = i} h))

pub ruleset digit_by_digit = (not_number, is_number, so_bad, so_end)

-- ---- the field at a place
no_field : (most : ℕ) → number_in most [] ≡ None
unfolding number_in number_ok
no_field most = refl

too_long : (most : ℕ) (f : List ℕ) → 12 ≤ length f → number_in most f ≡ None
too_long most f h = sym (not_number most f (λ n. omega (arith, n.short)))

module _ (most : ℕ) (line : List ℕ) (at : ℕ) where
  -- by where it ends, and where it is too long for a number
  pub field_to : (r : ℕ) → FieldAt line at r → number_in most (take (r - at) (drop at line)) ≡ number_in most (field (fields_from line at) 0)
  field_to r f = sym (ap (λ (fs : List (List ℕ)). number_in most (field fs 0)) f.first)

  pub field_long : 12 ≤ length (field (fields_from line at) 0) → number_in most (field (fields_from line at) 0) ≡ None
  field_long = too_long most (field (fields_from line at) 0)

  pub field_past : length line < at → number_in most (field (fields_from line at) 0) ≡ None
  field_past h = ap (λ (fs : List (List ℕ)). number_in most (field fs 0)) (from_past line at h) ∙ no_field most

pub ruleset field_there = (field_to, field_long, field_past, after_field, after_past)

-- its end, looked for among the first k bytes
abbrev pub clear : List ℕ → ℕ → Type 0
clear bytes n = AllWithin (λ (c : ℕ). c ≡ 32 → ⊥) bytes 0 n

module _ (line : List ℕ) (at k : ℕ) where
  abbrev pub head : List ℕ
  head = take k (drop at line)

  none_in : (n : ℕ) → n ≤ k → clear head n → clear (drop at line) n
  none_in n s f i d a b e = f i d a b (get_or-take k (drop at line) i d (omega arith) ∙ e)

  pub end_in : (n : ℕ) → n < length head → HoldsAt (λ (c : ℕ). c ≡ 32) head n → clear head n → FieldAt line at (at + n)
  end_in n h b f =
      let s : (n < k) × (n < length (drop at line)) = omega (arith, h, length-take k (drop at line)) in
      to_blank line at n s.1 (λ d. sym (get_or-take k (drop at line) n d s.0) ∙ b d) (none_in n (omega (arith, s.0)) f)

  -- where it is not found
  module _ (f : clear head (length head)) where
    pub end_with : at ≤ length line → length (drop at line) ≤ k → FieldAt line at (length line)
    end_with h l =
        let z : length head ≡ length (drop at line) = omega (arith, l, length-take k (drop at line)) in
        to_line_end line at h (none_in (length (drop at line)) l (rw (sym z) f))

    pub end_behind : at + k ≤ length line → k ≤ length (field (fields_from line at) 0)
    end_behind h =
        let (r, e, b) = ends line (length line - at) at (omega arith) in
        let there : r - at ≤ length (drop at line) = omega (arith, e.most, length-drop at line) in
        let long : length (field (fields_from line at) 0) ≡ r - at =
        ap (λ (fs : List (List ℕ)). length (field fs 0)) e.first ∙ length-take-le (r - at) (drop at line) there in
        elim (dec_le k (r - at)) [
          | yes g ↦ omega (arith, long, g)
          | no g ↦
              let z : at + (r - at) ≡ r = omega (arith, e.least) in
              let s : r - at < length head = omega (arith, g, h, length-take k (drop at line), length-drop at line) in
              absurd (f (r - at) 0 (omega arith) s (get_or-take k (drop at line) (r - at) 0 (omega arith) ∙ get_or-drop at line (r - at) 0 ∙ rw z (b (omega (arith, e.least)))))
        ]

module _ (line : List ℕ) where
  -- what is known of it
  number_value : (most at : ℕ) → (number_at most line at).value
      ≡ then_some (numbers_ok (most ∷ []) (fields_from line at)) (number (fields_from line at) 0)
  unfolding number_at number_in
  number_value most at = go (fields_from line at)
    where
      go : (fs : List (List ℕ)) → number_in most (field fs 0) ≡ then_some (numbers_ok (most ∷ []) fs) (number fs 0)
      go [] = no_field most ∙ sym (ap (λ (b : Bool). then_some b (number [] 0)) (no_number most))
      go (f ∷ fs) = sym (ap (λ (b : Bool). then_some b (value_of f)) (one_number most f fs))

  number_rest : (most at : ℕ) → fields_from line (number_at most line at).next ≡ drop 1 (fields_from line at)
  unfolding number_at
  number_rest most at = after_rest line at

-- a number is within its limit
few_in : (most : ℕ) (f : List ℕ) (v : ℕ) → number_in most f ≡ Some v → v ≤ most
unfolding number_in
few_in most f v = go (number_ok most f) refl
  where
    go : (t : Bool) → number_ok most f ≡ t → then_some t (value_of f) ≡ Some v → v ≤ most
    go true e s = let z : value_of f ≡ v = (cc) in omega (arith, (of_number most f e).few)
    go false e s = absurd (cc)

pub few_at : (line : List ℕ) (most at v : ℕ) {r : Read ℕ} → r ≡ number_at most line at → r.value ≡ Some v → v ≤ most
unfolding number_at
few_at line most at v e s = few_in most (field (fields_from line at) 0) v (ap (λ (r : Read ℕ). r.value) (sym e) ∙ s)

-- ---- the same where k fields came before
plus : (k i : ℕ) → k + i ≡ k + 0 + i
plus k i = omega arith

-- k of the fields fs come before place p
pub record From (line : List ℕ) (fs : List (List ℕ)) (k p : ℕ) : Type 0 where
  pub is : fields_from line p ≡ drop k fs

pub all_from : {line : List ℕ} {p : ℕ} → From line (fields_from line p) 0 p
all_from = record { is = refl }

pub rest_then : {line : List ℕ} {fs : List (List ℕ)} {k p : ℕ} (q j : ℕ) → From line fs k p → fields_from line q ≡ drop j (fields_from line p)
    → From line fs (k + j) q
rest_then {fs = fs} {k = k} q j e r = record { is = r ∙ ap (drop j) e.is ∙ drop-drop j k fs }

-- what is read there: a value, where the next fields are numbers, and the place after them
pub record IsRead {A : Type 0} (line : List ℕ) (fs : List (List ℕ)) (k : ℕ) (ms : List ℕ) (a : A) (r : Read A) : Type 0 where
  pub value : r.value ≡ then_some (numbers_ok ms (drop k fs)) a
  pub rest : From line fs (k + length ms) r.next

module _ {line : List ℕ} {fs : List (List ℕ)} {k p : ℕ} (e : From line fs k p) where
  pub number_is_at : {most : ℕ} {r : Read ℕ} → r ≡ number_at most line p → IsRead line fs k (most ∷ []) (number fs (k + 0)) r
  number_is_at {most} a = rw a (record {
    value = number_value line most p
        ∙ rw e.is (ap (λ (f : List ℕ). then_some (numbers_ok (most ∷ []) (drop k fs)) (value_of f)) (get_or-drop k fs 0 []));
    rest = rest_then _ 1 e (number_rest line most p);
  })

  pub node_is : {r : Read ℕ} → r ≡ node_at line p → IsRead line fs k a_node (number fs (k + 0)) r
  unfolding node_at
  node_is a = number_is_at a

-- five nodes, one after another, are the stamp from their place on ..
all_five : (a b c d e : Bool) (m t h n s : ℕ)
    → stamp_of (then_some a m) (then_some b t) (then_some c h) (then_some d n) (then_some e s)
    ≡ then_some ((((a && b) && c) && d) && e) (record { month = m; day = t; hour = h; minute = n; second = s })
all_five true true true true true m t h n s = refl
all_five true true true true false m t h n s = refl
all_five true true true false e m t h n s = refl
all_five true true false d e m t h n s = refl
all_five true false c d e m t h n s = refl
all_five false b c d e m t h n s = refl

stamp_here : (line : List ℕ) (p : ℕ) → IsRead line (fields_from line p) 0 a_stamp (stamp_from (fields_from line p) 0) (stamp_at line p)
unfolding stamp_at
stamp_here line p =
    let fs : List (List ℕ) = fields_from line p in
    let m : Read ℕ = node_at line p in
    let d : Read ℕ = node_at line m.next in
    let h : Read ℕ = node_at line d.next in
    let n : Read ℕ = node_at line h.next in
    let s : Read ℕ = node_at line n.next in
    let im = node_is all_from {r = m} refl in
    let id = node_is im.rest {r = d} refl in
    let ih = node_is id.rest {r = h} refl in
    let in' = node_is ih.rest {r = n} refl in
    let is = node_is in'.rest {r = s} refl in record {
      value = rw (im.value, id.value, ih.value, in'.value, is.value, stamp_numbers fs) (all_five (numbers_ok a_node fs) (numbers_ok a_node (drop 1 fs))
          (numbers_ok a_node (drop 2 fs)) (numbers_ok a_node (drop 3 fs)) (numbers_ok a_node (drop 4 fs)) _ _ _ _ _);
      rest = is.rest;
    }

module _ (fs : List (List ℕ)) where
  -- five fields of what is left are five fields of the whole
  stamp_after : (k : ℕ) → stamp_from (drop k fs) 0 ≡ stamp_from fs (k + 0)
  stamp_after k =
      let shift : (i : ℕ) → get_or (drop k fs) i [] ≡ get_or fs (k + 0 + i) [] = λ i. get_or-drop k fs i [] ∙ ap (λ (j : ℕ). get_or fs j [])
      (plus k i) in
      let z : get_or (drop k fs) 0 [] ≡ get_or fs (k + 0) [] = get_or-drop k fs 0 [] in
      rw (z, shift 1, shift 2, shift 3, shift 4)

-- .. also where k fields came before
pub stamp_is_at : {line : List ℕ} {fs : List (List ℕ)} {k p : ℕ} → From line fs k p → {t : Read Stamp} → t ≡ stamp_at line p
    → IsRead line fs k a_stamp (stamp_from fs (k + 0)) t
stamp_is_at {line} {fs} {k} {p} e a =
    let h = stamp_here line p in
    rw a (record {
      value = h.value ∙ rw (e.is, stamp_after fs k);
      rest = rest_then _ 5 e h.rest.is;
    })

-- ---- the last field
pub no_more : {line : List ℕ} {fs : List (List ℕ)} {k p : ℕ} → From line fs k p → length line < p → length fs ≤ k
no_more {line} {fs} {k} {p} e h = omega (arith, ap length (sym e.is ∙ from_past line p h), length-drop k fs)

pub one_more : {line : List ℕ} {fs : List (List ℕ)} {k p : ℕ} → From line fs k p → p ≤ length line → k < length fs
one_more {line} {fs} {k} {p} e h = omega (arith, from_some line p h, ap length e.is, length-drop k fs)

pub last_is : {line : List ℕ} {fs : List (List ℕ)} {k most : ℕ} {A : Type 0} {a : A} {r : Read A} → IsRead line fs k (most ∷ []) a r
    → cond (leb r.next (length line)) None r.value ≡ then_some (numbers_ok (most ∷ []) (drop k fs) && eqb (length fs) (k + 1)) a
last_is {line} {fs} {k} {most} {A} {a} {r} i = rw i.value (go (numbers_ok (most ∷ []) (drop k fs)) refl)
  where
    go : (t : Bool) → numbers_ok (most ∷ []) (drop k fs) ≡ t → cond (leb r.next (length line)) None (then_some t a) ≡ then_some (t && eqb (length fs) (k + 1)) a
    go false e = elim (leb r.next (length line)) as (λ b. cond b None (then_some false a) ≡ then_some (false && eqb (length fs) (k + 1)) a) [ true ↦ refl | false ↦ refl ]
    go true e = elim (dec_le r.next (length line)) [
      | yes h ↦ rw (le-leb _ _ h, ne_eqb (length fs) (k + 1) (λ z. omega (arith, one_more i.rest h)))
      | no h ↦ rw (lt-leb r.next (length line) (omega arith), eq-eqb (length fs) (k + 1) (omega (arith, no_more i.rest (omega arith), numbers_enough (most ∷ []) (drop k fs) e, length-drop k fs)))
    ]
