-- What nearly every proof uses of the libraries, passed on under one name: equations, numbers, lists, tests, the search for needs.
-- Assumes nothing.
pub use mathlib.Core.Path.{sym, ◌∙◌, ◌≡◌, refl, ap, subst, fun_ext}
pub use mathlib.Core.Logic.{⊎_elim, inl, inr, ◌⊎◌}
pub use mathlib.Core.Bool.{true, false, Bool, cond, not, ◌&&◌, false≢true, true≢false, ◌||◌, and-false}
pub use mathlib.Core.List.{List, [], ◌∷◌, ◌++◌, map, append_assoc, append-nil}
pub use Prim.Native.Nat.{ℕ, ◌≤◌, ◌-◌, ◌+◌, ◌<◌, suc, ◌*◌, zero, ◌%◌, ◌^◌, ◌/◌, min, max}
pub use native.Mathlib.Nat.{add-zero, zero-add, le_refl}
pub use native.Mathlib.Numerals.{add-one}
pub use native.Mathlib.Decide.{ℕ_discrete}
pub use native.Mathlib.Omega.{arith}
pub use lib.Dec.{eqb, leb, ltb, T, lit≤, lit<}
pub use lib.ListN.{length, drop, get_or, take, set, length-drop, replicate, length-set, drop_of_length-le, length-append, length-map}
pub use lib.ListN.{length-replicate, length-take, get_or-map, get_or-append, take-append-drop, get_or-eq_default}
pub use lib.Seq.{length-take-le, take_all, sets, get_or-drop, paste, drop-drop, slice, take_at, drop_at, take-suc, drop-cons, get_or-take}
pub use lib.Seq.{ext_get_or, set-get_or, take-add, take-nil, take-suc-set, paste-suc, get_or-set_same, get_or-append-add, set_split, sets-eq}
pub use lib.Seq.{take-take, length-sets}
pub use denote.Ref.{NamedLft, Bor, MutBor}
pub use borrow.Author.Tests.{eq-eqb, ne_eqb, le-leb, not-false, not-true, eqb-true, leb-true, lt-leb, le-ltb, ltb-false, lt-ltb, eqb-false}
pub use borrow.Author.Tests.{ltb-true}
pub use borrow.Author.Rules.{rules}
