-- What the library's methods leave: a part of a slice copied over or filled, and an array mapped.
-- Assumes nothing.
use Rattle.std.proofs.Common.{ℕ, zero, suc, ◌≡◌, refl, ◌+◌, ◌-◌, ◌≤◌, List, append_assoc, map, length, drop, take, replicate, arith, sym, subst}
use Rattle.std.specs.Fn.{Called, Mut}
use Rattle.std.specs.Array.{IsMapOf, MapsFrom}
use Rattle.std.proofs.lemmas.List.{drop_more, drop_all, drop-drop, length-drop, length-take-le, length-replicate}
use Rattle.std.proofs.lemmas.List.Edits.{sets, sets-eq}
use lib.Seq.{paste}
use Rattle.std.proofs.lemmas.Slice.{put_mid-paste}
use borrow.Rule.Slice.PartMut.{put_mid}

-- after `xs[a..e]` has become zs, where k is e - a: the same as std's `put_mid-paste`, by `sets`
pub put_mid-sets : {A : Type 0} (a k : ℕ) (xs ys zs : List A) → ys ≡ zs → k ≡ length zs → a + k ≤ length xs
    → put_mid a k xs ys ≡ sets xs a zs
put_mid-sets a k xs ys zs e n h = rw (sets-eq zs xs a (omega arith), e, n, append_assoc, drop-drop)

-- after `xs[a..a + zs.len()].copy_from_slice(zs)`
pub put_mid-copied : {A : Type 0} (a : ℕ) (xs ys zs : List A) → ys ≡ zs → put_mid a (a + length zs - a) xs ys ≡ paste xs a zs (length zs)
put_mid-copied a xs ys zs e = put_mid-paste a (a + length zs - a) xs ys zs (length zs) e (omega arith) refl

-- after `xs[a..a + n].fill(v)`
pub put_mid-filled : {A : Type 0} (a n : ℕ) (xs ys : List A) (v : A) → a + n ≤ length xs
    → ys ≡ replicate (length (take (a + n - a) (drop a xs))) v → put_mid a (a + n - a) xs ys ≡ paste xs a (replicate n v) n
put_mid-filled a n xs ys v h e =
    let k : a + n - a ≡ n = omega arith in
    let l = length-take-le n (drop a xs) (rw length-drop (omega arith)) in
    put_mid-paste a (a + n - a) xs ys (replicate n v) n (rw (e, k, l)) (omega arith) (sym (length-replicate n v))

-- where the closure stays as it is from call to call
module _ {F A B : Type 0} (g : Mut F (A × Unit {0}) B) (f : F) (h : A → B)
    (says : (x : A) (y : B) (f' : F) → Called g f (x, tt) y f' → (y ≡ h x) × (f' ≡ f)) (xs : List A) (ys : List B) where
  from_on : (i n : ℕ) → length xs ≡ i + n → length ys ≡ i + n → MapsFrom g f xs ys i n → drop i ys ≡ map h (drop i xs)
  from_on i zero p q m = rw (drop_all i xs (omega arith), drop_all i ys (omega arith))
  from_on i (suc n) p q m =
      let t = says m.1 m.2 m.0 m.5 in
      let rest = from_on (i + 1) n (omega arith) (omega arith) (subst (λ (u : F). MapsFrom g u xs ys (i + 1) n) t.1 m.6) in
      rw (drop_more ys i m.2 (omega arith), drop_more xs i m.1 (omega arith), m.4.0, m.3.0, t.0, rest)

  pub map_same : (n : ℕ) → length xs ≡ n → IsMapOf g f xs ys n → ys ≡ map h xs
  map_same n e m = from_on 0 n (omega (arith, e)) (omega (arith, m.long)) m.each
