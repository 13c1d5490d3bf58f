-- Laws of comparing a written packet with the words lent.
-- Assumes nothing.
use Rattle.units.proofs.Common.{sym, ◌∙◌, ◌≡◌, refl, ap, Bool, ◌&&◌, List, [], ◌∷◌, ℕ, ◌≤◌, ℕ_discrete, arith, eqb, leb, length, drop, take}
use Rattle.units.proofs.Common.{take_at, eq-eqb, ne_eqb, le-leb, yes_and, yes_cond, no_cond, length-append, length-drop}
use Rattle.std.specs.Str.{bytes_eq}
use Rattle.std.specs.Slice.{IsGetRangeResult}
use Rattle.std.specs.Option.{option_eq}
use Rattle.std.proofs.Common.{Option, Some, None, Bor, slice_range}
use Rattle.std.proofs.lemmas.Bool.Decides.{nat_tests}
use Rattle.units.proofs.PackingLaws.{sets_fits}
use Rattle.meaning.specs.declared.packet.Written.{Written}
use Rattle.meaning.specs.declared.packet.Written.TheVariants.{Refused, Done}
use Rattle.meaning.proofs.Terms.{written_count, written_output, same}
use Rattle.guide.specs.Again.{agrees}

-- the library's comparison is the definition's, from either side
pub same_is : (xs ys : List ℕ) → bytes_eq ys xs ≡ same xs ys
unfolding same
same_is [] [] = refl
same_is [] (y ∷ ys) = refl
same_is (x ∷ xs) [] = refl
same_is (x ∷ xs) (y ∷ ys) = ap (λ (b : Bool). b && bytes_eq ys xs) (eqb_sym y x) ∙ ap (λ (b : Bool). eqb x y && b) (same_is xs ys)
  where
    eqb_sym : (a b : ℕ) → eqb a b ≡ eqb b a
    eqb_sym a b = grind (arith, nat_tests)

-- the front of what was written, compared with the words
pub fronted : (ws out : List ℕ) (n : ℕ) (w : Bor (List ℕ)) (r : Option (Bor (List ℕ))) → w.now ≡ ws → IsGetRangeResult out 0 n r
    → option_eq (λ x y. bytes_eq x.now y.now) r (Some w) ≡ (leb n (length out) && same ws (take n out))
fronted ws out n w None e g = grind (arith, nat_tests)
fronted ws out n w (Some x) e g =
    let front : slice_range out 0 n ≡ take n out = grind arith in
    rw (g.0.2 ∙ front, e, same_is) (sym (yes_and (le-leb n _ g.0.1)))

-- what a writer gave, of a packet of the words vs: refused, or compared
pub compared : (n count : ℕ) (ws vs out : List ℕ) (r : Written) (new : List ℕ) → length vs ≡ count → (n ≡ 0 → count ≤ length out)
    → r ≡ written_count n count → new ≡ written_output n vs out → agrees ws r new ≡ (eqb n 0 && same ws vs)
unfolding written_count written_output
compared n count ws vs out r new l room e w =
    elim (ℕ_discrete n 0) [
      | yes z ↦
          let t = eq-eqb n 0 z in
          let long : count ≤ length out = room z in
          rw (e ∙ yes_cond (Refused n) t, w ∙ yes_cond out t, sets_fits vs out (omega arith), take_at vs (drop (length vs) out) count l, t)
          (yes_and (le-leb count _ (omega (arith, length-append {A = ℕ}, length-drop {A = ℕ}))))
      | no d ↦ rw (e ∙ no_cond (Done (record { 0 = count })) (ne_eqb n 0 d), ne_eqb n 0 d)
    ]
