-- What nearly every proof uses of the libraries and of this crate, passed on under one name.
-- Assumes nothing.
pub use Rattle.units.proofs.Base.{sym, ◌∙◌, ◌≡◌, refl, ap, subst, fun_ext, ⊎_elim, inl, inr, ◌⊎◌, true, false, Bool, cond, not, ◌&&◌}
pub use Rattle.units.proofs.Base.{false≢true, true≢false, ◌||◌, and-false, List, [], ◌∷◌, ◌++◌, map, append_assoc, append-nil, ℕ}
pub use Rattle.units.proofs.Base.{◌≤◌, ◌-◌, ◌+◌, ◌<◌, suc, ◌*◌, zero, ◌%◌, ◌^◌, ◌/◌, min, max, add-zero, zero-add, le_refl, add-one}
pub use Rattle.units.proofs.Base.{ℕ_discrete, arith, eqb, leb, ltb, T, lit≤, lit<, length, drop, get_or, take, set, length-drop}
pub use Rattle.units.proofs.Base.{replicate, length-set, drop_of_length-le, length-append, length-map, length-replicate, length-take}
pub use Rattle.units.proofs.Base.{get_or-map, get_or-append, take-append-drop, get_or-eq_default, length-take-le, take_all}
pub use Rattle.units.proofs.Base.{sets, get_or-drop, paste, drop-drop, slice, take_at, drop_at, take-suc, drop-cons, get_or-take}
pub use Rattle.units.proofs.Base.{ext_get_or, set-get_or, take-add, take-nil, take-suc-set, paste-suc, get_or-set_same, get_or-append-add}
pub use Rattle.units.proofs.Base.{set_split, sets-eq, length-sets, take-take, NamedLft, Bor, MutBor, eq-eqb, ne_eqb, le-leb, not-false}
pub use Rattle.units.proofs.Base.{not-true}
pub use Rattle.units.proofs.Base.{eqb-true, leb-true, lt-leb, le-ltb, ltb-false, lt-ltb, eqb-false, ltb-true, rules}
unfoldable pub use Rattle.units.specs.Count.{every}
pub use Rattle.units.specs.Count.{within}
pub use Rattle.units.specs.Packing.{bytes_of, packed}
unfoldable pub use Rattle.units.specs.Stamp.{is_stamp}
pub use Rattle.units.specs.Word.{word, lsb}
pub use Rattle.units.proofs.Arms.{keys}
pub use Rattle.units.proofs.Choice.{yes_cond, no_cond, yes_and, no_and, and_true, no_or, yes_or, or_false}
pub use Rattle.units.proofs.PackingLaws.{length_packed}
