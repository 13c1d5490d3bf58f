-- A whole line: which call it is tried as, and what a reading returns and leaves in the three buffers.
-- Assumes nothing.
use Rattle.units.proofs.Common.{sym, ◌∙◌, ◌≡◌, refl, ap, true, false, Bool, cond, List, [], ◌∷◌, ℕ, ◌≤◌, ◌+◌, arith, length, get_or, drop, sets, no_cond, le-ltb, no_or, ne_eqb}
use Rattle.std.proofs.Common.{Option, Some, None, slice_get, unwrap_or}
use Rattle.std.proofs.lemmas.Option.{get_or_from_slice_get}
use Rattle.meaning.specs.Call.{Call}
use Rattle.dialog.specs.Fields.{fields}
use Rattle.dialog.specs.Spoken.{Spoken, passed, unreadable, look, call, call_by, spoken, saying, command_ok, check_ok, arrive_ok, leave_ok, collect_ok, acknowledge_ok}
use Rattle.dialog.specs.Spoken.{store_ok, command_said, check_said, arrive_said, leave_said, collect_said, acknowledge_said, store_said}
use Rattle.lines.specs.declared.Heard.{Heard}
use Rattle.fields.specs.declared.Verb.{Verb}
use Rattle.fields.specs.declared.Verb.TheVariants.{Command, Check, Arrive, Leave, Collect, Acknowledge, Store}
use Rattle.fields.specs.FieldsAt.{verb_of, fields_from, place_after}
use Rattle.lines.specs.Heard.{heard_of, readable, call_said, words_in, id_in, bytes_in, Leaves}
use Rattle.fields.proofs.Places.{from_in, from_some, after_rest}

-- ---- the call by its first field
abbrev say_by : Option Verb → List (List ℕ) → Spoken
say_by None fs = unreadable
say_by (Some Command) fs = command_said fs
say_by (Some Check) fs = check_said fs
say_by (Some Arrive) fs = arrive_said fs
say_by (Some Leave) fs = leave_said fs
say_by (Some Collect) fs = collect_said fs
say_by (Some Acknowledge) fs = acknowledge_said fs
say_by (Some Store) fs = store_said fs

by_cond : (fs : List (List ℕ)) (t : Bool) (u v : Option Verb) → say_by (cond t u v) fs ≡ cond t (say_by u fs) (say_by v fs)
by_cond fs true u v = refl
by_cond fs false u v = refl

by_verb : (w : List ℕ) (fs : List (List ℕ)) → call_by w fs ≡ say_by (verb_of w) fs
unfolding call_by verb_of
by_verb w fs = sym (simp (by_cond fs))

module _ (line : List ℕ) where
  by_field : (f : List ℕ) (v : Option Verb) → slice_get (fields_from line 0) 0 ≡ Some f → v ≡ verb_of f
      → call_said line ≡ say_by v (fields_from line (place_after line 0))
  by_field f v e s =
      let all : fields_from line 0 ≡ fields line = from_in line 0 (omega arith) in
      let first : get_or (fields line) 0 [] ≡ f = get_or_from_slice_get (fields line) 0 f [] (sym (ap (λ (fs : List (List ℕ)). slice_get fs 0) all) ∙ e) in
      let rest : fields_from line (place_after line 0) ≡ drop 1 (fields line) = after_rest line 0 ∙ ap (drop 1) all in
      rw (first, rest, s) (by_verb f (drop 1 (fields line)))

  -- every line has a first field
  pub first_there : slice_get (fields_from line 0) 0 ≡ None → ⊥
  first_there e = go (fields_from line 0) (from_some line 0 (omega arith)) e
    where
      go : (fs : List (List ℕ)) → 1 ≤ length fs → slice_get fs 0 ≡ None → ⊥
      go [] h n = omega arith
      go (f ∷ fs) h n = absurd (cc)

-- ---- a buffer that a call says nothing for
still : (g : Spoken → List ℕ) (ok : Bool) (t : Spoken) (l : List ℕ) → g t ≡ [] → g unreadable ≡ [] → l ≡ sets l 0 (g (cond ok t unreadable))
still g true t l e u = rw e
still g false t l e u = rw u

module _ (line : List ℕ) (r : Option Heard) (w i b : List ℕ) where
  quiet_leaves : {s : Spoken} (ok : Bool) (t : Spoken) → words_in t ≡ [] → id_in t ≡ [] → bytes_in t ≡ [] → s ≡ cond ok t unreadable
      → r ≡ readable (cond ok t unreadable) → Leaves s r w w i i b b
  unfolding words_in id_in bytes_in
  quiet_leaves ok t p q z e h = rw e (record {
    value = h;
    words_after = still words_in ok t w p refl;
    id_after = still id_in ok t i q refl;
    bytes_after = still bytes_in ok t b z refl;
  })

  module _ (f : List ℕ) (e : slice_get (fields_from line 0) 0 ≡ Some f) where
    pub none_leaves : None ≡ verb_of f → r ≡ None → Leaves (call_said line) r w w i i b b
    unfolding readable words_in id_in bytes_in
    none_leaves v h = quiet_leaves true unreadable refl refl refl (by_field line f None e v) h

    module _ (at : ℕ) (a : at ≡ place_after line 0) where
      pub check_leaves : Some Check ≡ verb_of f → r ≡ readable (check_said (fields_from line at)) → Leaves (call_said line) r w w i i b b
      unfolding words_in id_in bytes_in
      check_leaves v h = quiet_leaves (check_ok (fields_from line at)) _ refl refl refl (rw a (by_field line f (Some Check) e v)) h

      pub leave_leaves : Some Leave ≡ verb_of f → r ≡ readable (leave_said (fields_from line at)) → Leaves (call_said line) r w w i i b b
      unfolding words_in id_in bytes_in
      leave_leaves v h = quiet_leaves (leave_ok (fields_from line at)) _ refl refl refl (rw a (by_field line f (Some Leave) e v)) h

      pub collect_leaves : Some Collect ≡ verb_of f → r ≡ readable (collect_said (fields_from line at)) → Leaves (call_said line) r w w i i b b
      unfolding words_in id_in bytes_in
      collect_leaves v h = quiet_leaves (collect_ok (fields_from line at)) _ refl refl refl (rw a (by_field line f (Some Collect) e v)) h

      pub acknowledge_leaves : Some Acknowledge ≡ verb_of f → r ≡ readable (acknowledge_said (fields_from line at)) → Leaves (call_said line) r w w i i b b
      unfolding words_in id_in bytes_in
      acknowledge_leaves v h = quiet_leaves (acknowledge_ok (fields_from line at)) _ refl refl refl (rw a (by_field line f (Some Acknowledge) e v)) h

      pub store_leaves : Some Store ≡ verb_of f → r ≡ readable (store_said (fields_from line at)) → Leaves (call_said line) r w w i i b b
      unfolding words_in id_in bytes_in
      store_leaves v h = quiet_leaves (store_ok (fields_from line at)) _ refl refl refl (rw a (by_field line f (Some Store) e v)) h

      pub command_leaves : (w' : List ℕ) → Some Command ≡ verb_of f → r ≡ readable (command_said (fields_from line at))
          → w' ≡ sets w 0 (words_in (command_said (fields_from line at))) → Leaves (call_said line) r w w' i i b b
      unfolding id_in bytes_in
      command_leaves w' v h k = rw (by_field line f (Some Command) e v, ← a) (record {
        value = h;
        words_after = k;
        id_after = still id_in (command_ok (fields_from line at)) _ i refl refl;
        bytes_after = still bytes_in (command_ok (fields_from line at)) _ b refl refl;
      })

      pub arrive_leaves : (i' b' : List ℕ) → Some Arrive ≡ verb_of f → r ≡ readable (arrive_said (fields_from line at))
          → i' ≡ sets i 0 (id_in (arrive_said (fields_from line at))) → b' ≡ sets b 0 (bytes_in (arrive_said (fields_from line at)))
          → Leaves (call_said line) r w w i i' b b'
      unfolding words_in
      arrive_leaves i' b' v h k l = rw (by_field line f (Some Arrive) e v, ← a) (record {
        value = h;
        words_after = still words_in (arrive_ok (fields_from line at)) _ w refl refl;
        id_after = k;
        bytes_after = l;
      })

-- ---- any line
pub tried_as : (line : List ℕ) → length line ≤ 4400 → (length line ≡ 0 → ⊥) → (get_or line 0 0 ≡ 35 → ⊥) → spoken line ≡ call_said line
unfolding spoken
tried_as line h d e =
    no_cond _ (le-ltb 4400 (length line) h) ∙ no_cond _ (no_or (ne_eqb (length line) 0 d) ∙ ne_eqb (get_or line 0 0) 35 e)

pub heard_or : (s : Spoken) → unwrap_or (readable s) Heard.Unreadable ≡ heard_of s
unfolding readable heard_of
heard_or passed = refl
heard_or unreadable = refl
heard_or (call c) = refl
heard_or (look f c) = refl
