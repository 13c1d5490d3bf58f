-- What each reader of the table finds, one step after another, is what the line says.
-- Assumes nothing.
use Rattle.units.proofs.Common.{sym, ◌∙◌, ◌≡◌, refl, ap, true, false, Bool, cond, ◌&&◌, List, [], ◌∷◌, ℕ, ◌≤◌, ◌-◌, ◌+◌, ◌<◌, suc}
use Rattle.units.proofs.Common.{arith, length, drop, get_or, leb, eqb, sets, get_or-drop, length-drop, le-leb, lt-leb, eq-eqb, ne_eqb, drop_of_length-le, add-zero, get_or-eq_default, eqb-true, yes_cond, map, length-map, every}
use Rattle.meaning.proofs.Terms.{same}
use Rattle.dialog.specs.Fields.{word_ok, word_of, bytes_ok, bytes_of_hex}
use Rattle.hexwords.specs.WordsAt.{words_at, words_from}
use Rattle.hexwords.proofs.Words.{words_ok}
use native.Mathlib.Decide.{dec_le}
use Rattle.std.proofs.Common.{Option, Some, None, option_and_then, slice_get}
use Rattle.std.specs.Bool.{then_some}
use Rattle.std.proofs.lemmas.Option.{slice_get-get_or, same_Some}
use Rattle.units.specs.declared.Form.{Form}
use Rattle.meaning.specs.Call.{Call, command, check, arrive, leave, collect, acknowledge}
use Rattle.dialog.specs.Spoken.{Spoken, passed, call, look, unreadable, saying, is_form, form_of, field, number, numbers_ok, stamp_from, a_node, a_stamp}
use Rattle.dialog.specs.Spoken.{command_ok, check_ok, arrive_ok, leave_ok, collect_ok, acknowledge_ok, store_ok, command_said, check_said}
use Rattle.dialog.specs.Spoken.{arrive_said, leave_said, collect_said, acknowledge_said, store_said}
use Rattle.dialog.proofs.SpokenLaws.{numbers_split, of_arrive}
use Rattle.lines.specs.declared.Heard.{Heard}
use Rattle.fields.specs.FieldsAt.{fields_from, place_after}
use Rattle.fields.specs.declared.Read.{Read}
use Rattle.fields.proofs.Places.{after_rest}
use Rattle.numbers.specs.NumbersAt.{node_at, stamp_at, number_at, ◌>>=◌}
use Rattle.lines.specs.Heard.{heard_of, readable, words_in, id_in, bytes_in}
use Rattle.numbers.proofs.Numbers.{From, all_from, rest_then, no_more, one_more, node_is, number_is_at, stamp_is_at, last_is}

abbrev pub last_at : {A : Type 0} → List ℕ → Read A → Option A
last_at line r = cond (leb r.next (length line)) None r.value

-- ---- what is said where all holds that has to
said : (ok : Bool) (c : Call) → readable (saying ok c) ≡ then_some ok (heard_of (call c))
unfolding readable
said true c = refl
said false c = refl

said_look : (ok : Bool) (f c : ℕ) → readable (cond ok (look f c) unreadable) ≡ then_some ok (Heard.Store f c)
unfolding readable
said_look true f c = refl
said_look false f c = refl

-- one part after another, and each may be missing
one : {X H : Type 0} (a : Bool) (x : X) (h : X → H) → then_some a (h x) ≡ (then_some a x >>= (λ v. Some (h v)))
one true x h = refl
one false x h = refl

two : {X Y H : Type 0} (a b d : Bool) (x : X) (y : Y) (h : X → Y → H)
    → then_some ((a && b) && d) (h x y) ≡ (then_some a x >>= (λ v. then_some (b && d) y >>= (λ w. Some (h v w))))
two true true true x y h = refl
two true true false x y h = refl
two true false d x y h = refl
two false b d x y h = refl

three : {X Y Z H : Type 0} (a b c d : Bool) (x : X) (y : Y) (z : Z) (h : X → Y → Z → H) → then_some (((a && b) && c) && d) (h x y z)
    ≡ (then_some a x >>= (λ v. then_some b y >>= (λ w. then_some (c && d) z >>= (λ u. Some (h v w u)))))
three true true true true x y z h = refl
three true true true false x y z h = refl
three true true false d x y z h = refl
three true false c d x y z h = refl
three false b c d x y z h = refl

-- with a last test of two parts, of three, or a form among them
tested : {X Y H : Type 0} (a b d : Bool) (x : X) (y : Y) (g : X → Y → Bool) (h : X → Y → H) → then_some (((a && b) && d) && g x y) (h x y)
    ≡ (then_some a x >>= (λ v. then_some (b && d) y >>= (λ w. cond (g v w) (Some (h v w)) None)))
tested true true true x y g h = elim (g x y) as (λ t. then_some t (h x y) ≡ cond t (Some (h x y)) None) [ true ↦ refl | false ↦ refl ]
tested true true false x y g h = refl
tested true false d x y g h = refl
tested false b d x y g h = refl

formed : {X F H : Type 0} (a e g : Bool) (x : X) (f : F) (h : X → F → H)
    → then_some ((a && e) && g) (h x f) ≡ (then_some a x >>= (λ v. cond e (cond g (Some f) None) None >>= (λ w. Some (h v w))))
formed true true true x f h = refl
formed true true false x f h = refl
formed true false g x f h = refl
formed false e g x f h = refl

counted : {X F H : Type 0} (s g w : Bool) (x : X) (f : F) (c : ℕ) (h : X → F → ℕ → H)
    → then_some (((s && g) && leb c 256) && w) (h x f c)
    ≡ (then_some s x >>= (λ v. cond g (Some f) None >>= (λ m. then_some w c >>= (λ n. cond (leb n 256) (Some (h v m n)) None))))
counted true true true x f c h = elim (leb c 256) as (λ t. then_some (t && true) (h x f c) ≡ cond t (Some (h x f c)) None)
    [ true ↦ refl | false ↦ refl ]
counted true true false x f c h = elim (leb c 256) as (λ t. then_some (t && false) (h x f c) ≡ None) [ true ↦ refl | false ↦ refl ]
counted true false w x f c h = refl
counted false g w x f c h = refl

arrived : {X D H : Type 0} (a e : Bool) (x : X) (s : Option D) (z y : D) (p q : D → Bool) (h : X → D → D → H) → (e ≡ true → s ≡ Some z)
    → then_some (((a && e) && p z) && q y) (h x z y)
    ≡ (then_some a x >>= (λ v. s >>= (λ d. cond e (Some y) None >>= (λ w. cond (p d && q w) (Some (h v d w)) None))))
arrived true true x s z y p q h k =
    rw (k refl) (elim (p z && q y) as (λ t. then_some t (h x z y) ≡ cond t (Some (h x z y)) None) [ true ↦ refl | false ↦ refl ])
arrived true false x None z y p q h k = refl
arrived true false x (Some d) z y p q h k = refl
arrived false e x s z y p q h k = refl

-- ---- a field as it stands
module _ {line : List ℕ} {fs : List (List ℕ)} {k p : ℕ} (e : From line fs k p) where
  after : From line fs (k + 1) (place_after line p)
  after = rest_then _ 1 e (after_rest line p)

  here : k < length fs → slice_get (fields_from line p) 0 ≡ Some (field fs k)
  here h =
      ap (λ (gs : List (List ℕ)). slice_get gs 0) e.is ∙ slice_get-get_or (drop k fs) 0 [] (omega (arith, length-drop k fs))
      ∙ ap (λ (f : List ℕ). Some f) (get_or-drop k fs 0 [] ∙ ap (λ (i : ℕ). get_or fs i []) (add-zero k))

  nothing : length fs ≤ k → slice_get (fields_from line p) 0 ≡ None
  nothing h = ap (λ (gs : List (List ℕ)). slice_get gs 0) (e.is ∙ drop_of_length-le fs {i = k} h)

  last_here : cond (leb (place_after line p) (length line)) None (slice_get (fields_from line p) 0)
      ≡ cond (eqb (length fs) (k + 1)) (Some (field fs k)) None
  last_here = elim (dec_le (place_after line p) (length line)) [
    | yes h ↦ rw (le-leb (place_after line p) (length line) h, ne_eqb (length fs) (k + 1) (λ z. omega (arith, one_more after h)))
    | no h ↦ elim (dec_le (length fs) k) [
      | yes l ↦ rw (lt-leb (place_after line p) (length line) (omega arith), ne_eqb (length fs) (k + 1) (λ z. omega arith), nothing l)
      | no l ↦
          let all : length fs ≡ k + 1 = omega (arith, no_more after (omega arith)) in
          rw (lt-leb (place_after line p) (length line) (omega arith), eq-eqb (length fs) (k + 1) all, here (omega arith))
    ]
  ]

  -- read as a form
  form_here : (slice_get (fields_from line p) 0 >>= (λ d. cond (is_form d) (Some (form_of d)) None))
      ≡ cond (is_form (field fs k)) (Some (form_of (field fs k))) None
  unfolding same
  form_here = elim (dec_le (length fs) k) [
    | yes l ↦ rw (nothing l, get_or-eq_default fs [] {n = k} l)
    | no l ↦ rw (here (omega arith))
  ]

-- ---- a node alone
abbrev leave_read : List ℕ → ℕ → Option Heard
leave_read line at = do
  node ← last_at line (node_at line at)
  Some (Heard.Leave node)

pub leave_reads : (line : List ℕ) (at : ℕ) → readable (leave_said (fields_from line at)) ≡ leave_read line at
unfolding leave_ok heard_of
leave_reads line at =
    let fs : List (List ℕ) = fields_from line at in
    let n = node_is (all_from {p = at}) {r = node_at line at} refl in
    said (leave_ok fs) (leave (number fs 0)) ∙ one (leave_ok fs) (number fs 0) (λ v. Heard.Leave v)
    ∙ sym (ap (λ (o : Option ℕ). o >>= (λ v. Some (Heard.Leave v))) (last_is n))

-- ---- a node and a number
abbrev acknowledge_read : List ℕ → ℕ → Option Heard
acknowledge_read line at =
    let n = node_at line at in do
      node ← n.value
      number ← last_at line (number_at 65535 line n.next)
      Some (Heard.Acknowledge node number)

pub acknowledge_reads : (line : List ℕ) (at : ℕ) → readable (acknowledge_said (fields_from line at)) ≡ acknowledge_read line at
unfolding acknowledge_ok heard_of
acknowledge_reads line at =
    let fs : List (List ℕ) = fields_from line at in
    let n = node_is (all_from {p = at}) {r = node_at line at} refl in
    let k = number_is_at n.rest {most = 65535} {r = number_at 65535 line (node_at line at).next} refl in
    said (acknowledge_ok fs) (acknowledge (number fs 0) (number fs 1))
    ∙ rw (numbers_split a_node (65535 ∷ []) fs, n.value, last_is k)
    (two (numbers_ok a_node fs) (numbers_ok (65535 ∷ []) (drop 1 fs)) (eqb (length fs) 2) (number fs 0) (number fs 1)
    (λ v w. Heard.Acknowledge v w))

-- ---- a node, a stamp and a clock
abbrev check_read : List ℕ → ℕ → Option Heard
check_read line at =
    let n = node_at line at in
    let t = stamp_at line n.next in do
      node ← n.value
      stamp ← t.value
      clock ← last_at line (number_at 4294967295 line t.next)
      Some (Heard.Check node stamp clock)

pub check_reads : (line : List ℕ) (at : ℕ) → readable (check_said (fields_from line at)) ≡ check_read line at
unfolding check_ok heard_of
check_reads line at =
    let fs : List (List ℕ) = fields_from line at in
    let n = node_is (all_from {p = at}) {r = node_at line at} refl in
    let t = stamp_is_at n.rest {t = stamp_at line (node_at line at).next} refl in
    let c = number_is_at t.rest {most = 4294967295} {r = number_at 4294967295 line (stamp_at line (node_at line at).next).next} refl in
    said (check_ok fs) (check (number fs 0) (stamp_from fs 1) (number fs 6))
    ∙ rw (numbers_split (255 ∷ a_stamp) (4294967295 ∷ []) fs, numbers_split a_node a_stamp fs, n.value, t.value, last_is c)
    (three (numbers_ok a_node fs) (numbers_ok a_stamp (drop 1 fs)) (numbers_ok (4294967295 ∷ []) (drop 6 fs)) (eqb (length fs) 7)
    (number fs 0) (stamp_from fs 1) (number fs 6) (λ v w u. Heard.Check v w u))

-- ---- a node and a form
abbrev collect_read : List ℕ → ℕ → Option Heard
collect_read line at =
    let n = node_at line at in do
      node ← n.value
      form ← (cond (leb (place_after line n.next) (length line)) None (slice_get (fields_from line n.next) 0)
          >>= (λ d. cond (is_form d) (Some (form_of d)) None))
      Some (Heard.Collect node form)

pub collect_reads : (line : List ℕ) (at : ℕ) → readable (collect_said (fields_from line at)) ≡ collect_read line at
unfolding collect_ok heard_of
collect_reads line at =
    let fs : List (List ℕ) = fields_from line at in
    let n = node_is (all_from {p = at}) {r = node_at line at} refl in
    let e : Bool = eqb (length fs) 2 in
    let pull : (t : Bool) → (cond t (Some (field fs 1)) None >>= (λ d. cond (is_form d) (Some (form_of d)) None))
    ≡ cond t (cond (is_form (field fs 1)) (Some (form_of (field fs 1))) None) None = λ t. elim t as
    (λ b. (cond b (Some (field fs 1)) None >>= (λ d. cond (is_form d) (Some (form_of d)) None))
    ≡ cond b (cond (is_form (field fs 1)) (Some (form_of (field fs 1))) None) None) [ true ↦ refl | false ↦ refl ] in
    said (collect_ok fs) (collect (form_of (field fs 1)) (number fs 0) 135)
    ∙ rw (n.value, last_here n.rest, pull e)
    (formed (numbers_ok a_node fs) e (is_form (field fs 1)) (number fs 0) (form_of (field fs 1)) (λ v w. Heard.Collect v w))

-- ---- a place of the store and a count
abbrev store_read : List ℕ → ℕ → Option Heard
store_read line at =
    let f = number_at 4095 line at in do
      first ← f.value
      count ← last_at line (number_at 128 line f.next)
      cond (leb 1 count && leb (first + count) 4096) (Some (Heard.Store first count)) None

pub store_reads : (line : List ℕ) (at : ℕ) → readable (store_said (fields_from line at)) ≡ store_read line at
unfolding store_ok
store_reads line at =
    let fs : List (List ℕ) = fields_from line at in
    let f = number_is_at (all_from {p = at}) {most = 4095} {r = number_at 4095 line at} refl in
    let k = number_is_at f.rest {most = 128} {r = number_at 128 line (number_at 4095 line at).next} refl in
    said_look (store_ok fs) (number fs 0) (number fs 1)
    ∙ rw (numbers_split (4095 ∷ []) (128 ∷ []) fs, f.value, last_is k)
    (tested (numbers_ok (4095 ∷ []) fs) (numbers_ok (128 ∷ []) (drop 1 fs)) (eqb (length fs) 2) (number fs 0) (number fs 1)
    (λ v w. leb 1 w && leb (v + w) 4096) (λ v w. Heard.Store v w))

-- ---- a stamp, a form and words
abbrev command_read : List ℕ → ℕ → Option Heard
command_read line at =
    let t = stamp_at line at in do
      stamp ← t.value
      form ← (slice_get (fields_from line t.next) 0 >>= (λ d. cond (is_form d) (Some (form_of d)) None))
      count ← words_at line (place_after line t.next)
      cond (leb count 256) (Some (Heard.Command stamp form (record { 0 = count }))) None

pub command_reads : (line : List ℕ) (at : ℕ) → readable (command_said (fields_from line at)) ≡ command_read line at
unfolding command_ok heard_of words_at
command_reads line at =
    let fs : List (List ℕ) = fields_from line at in
    let t = stamp_is_at (all_from {p = at}) {t = stamp_at line at} refl in
    let f = after t.rest in
    said (command_ok fs) (command (stamp_from fs 0) (form_of (field fs 5)) (map word_of (drop 6 fs)))
    ∙ rw (t.value, form_here t.rest, f.is, length-map (drop 6 fs) word_of)
    (counted (numbers_ok a_stamp fs) (is_form (field fs 5)) (every word_ok (drop 6 fs)) (stamp_from fs 0) (form_of (field fs 5)) (length (drop 6 fs))
    (λ v m n. Heard.Command v m (record { 0 = n })))

-- ---- a node and the bytes of two fields
abbrev held_at : List ℕ → ℕ → Option (List ℕ)
held_at line p = cond (leb (place_after line p) (length line)) None (slice_get (fields_from line p) 0)

abbrev arrive_read : List ℕ → ℕ → Option Heard
arrive_read line at =
    let n = node_at line at in do
      node ← n.value
      named ← slice_get (fields_from line n.next) 0
      held ← held_at line (place_after line n.next)
      cond (bytes_ok 16 named && bytes_ok 2047 held)
          (Some (Heard.Arrive node (record { 0 = length (bytes_of_hex named) }) (record { 0 = length (bytes_of_hex held) }))) None

pub arrive_reads : (line : List ℕ) (at : ℕ) → readable (arrive_said (fields_from line at)) ≡ arrive_read line at
unfolding arrive_ok heard_of
arrive_reads line at =
    let fs : List (List ℕ) = fields_from line at in
    let n = node_is (all_from {p = at}) {r = node_at line at} refl in
    let i = after n.rest in
    said (arrive_ok fs) (arrive (number fs 0) (bytes_of_hex (field fs 1)) (bytes_of_hex (field fs 2)))
    ∙ rw (n.value, last_here i)
    (arrived (numbers_ok a_node fs) (eqb (length fs) 3) (number fs 0) (slice_get (fields_from line (node_at line at).next) 0) (field fs 1) (field fs 2)
    (bytes_ok 16) (bytes_ok 2047)
    (λ v d w. Heard.Arrive v (record { 0 = length (bytes_of_hex d) }) (record { 0 = length (bytes_of_hex w) }))
    (λ e. here n.rest (omega (arith, eqb-true (length fs) 3 e))))

-- ---- the buffers: what is no call says nothing for them
none_said : (s : Spoken) → readable s ≡ None → s ≡ unreadable
unfolding readable
none_said passed e = absurd (cc)
none_said unreadable e = refl
none_said (call c) e = absurd (cc)
none_said (look f c) e = absurd (cc)

module _ (s : Spoken) (old : List ℕ) (e : readable s ≡ None) where
  pub words_still : old ≡ sets old 0 (words_in s)
  unfolding words_in
  words_still = rw (none_said s e)

  pub id_still : old ≡ sets old 0 (id_in s)
  unfolding id_in
  id_still = rw (none_said s e)

  pub bytes_still : old ≡ sets old 0 (bytes_in s)
  unfolding bytes_in
  bytes_still = rw (none_said s e)

-- and what is one the words, or the bytes of the two fields
if_said : (ok : Bool) (c : Call) (h : Heard) → readable (saying ok c) ≡ Some h → ok ≡ true
unfolding readable
if_said true c h e = refl
if_said false c h e = absurd (cc)

pub command_words : (line : List ℕ) (at : ℕ) (h : Heard) → readable (command_said (fields_from line at)) ≡ Some h
    → words_in (command_said (fields_from line at)) ≡ words_from line (place_after line (stamp_at line at).next)
unfolding words_in
command_words line at h e =
    let t = stamp_is_at (all_from {p = at}) {t = stamp_at line at} refl in
    rw (if_said (command_ok (fields_from line at)) _ h e, (after t.rest).is)

module _ (line : List ℕ) (at : ℕ) (h : Heard) (d w : List ℕ) (e : readable (arrive_said (fields_from line at)) ≡ Some h)
    (ed : slice_get (fields_from line (node_at line at).next) 0 ≡ Some d) (ew : held_at line (place_after line (node_at line at).next) ≡ Some w) where
  arrive_is : arrive_ok (fields_from line at) ≡ true → length (fields_from line at) ≡ 3
  arrive_is t = (of_arrive (fields_from line at) t).three

  arrive_fields : (field (fields_from line at) 1 ≡ d) × (field (fields_from line at) 2 ≡ w)
  arrive_fields =
      let fs : List (List ℕ) = fields_from line at in
      let n = node_is (all_from {p = at}) {r = node_at line at} refl in
      let a = arrive_is (if_said (arrive_ok fs) _ h e) in
      let named : Some d ≡ Some (field fs 1) = sym ed ∙ here n.rest (omega (arith, a)) in
      let held : Some w ≡ Some (field fs 2) = sym ew ∙ last_here (after n.rest) ∙ yes_cond _ (eq-eqb (length fs) 3 a) in
      (sym (same_Some d (field fs 1) named), sym (same_Some w (field fs 2) held))

  pub arrive_id : id_in (arrive_said (fields_from line at)) ≡ bytes_of_hex d
  unfolding id_in
  arrive_id = rw (if_said (arrive_ok (fields_from line at)) _ h e, arrive_fields.0)

  pub arrive_bytes : bytes_in (arrive_said (fields_from line at)) ≡ bytes_of_hex w
  unfolding bytes_in
  arrive_bytes = rw (if_said (arrive_ok (fields_from line at)) _ h e, arrive_fields.1)

-- what the two that fill buffers need
pub ruleset commands = (command_reads, words_ok, words_still, command_words)

pub ruleset arrivals = (arrive_reads, id_still, bytes_still, arrive_id, arrive_bytes)
