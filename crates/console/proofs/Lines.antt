-- A line has a byte at least: its line feed, or where it is the last and lacks it, one before it.
-- Assumes nothing.
use Rattle.units.proofs.Common.{true, false, Bool, cond, List, [], ◌∷◌, ℕ, ◌≤◌, suc, arith, eqb, length}
use Rattle.dialog.specs.Fields.{before}
use Rattle.dialog.specs.Dialog.{lines_of}

joined_few : (c : ℕ) (ls : List (List ℕ)) → length (before c ls) ≤ suc (length ls)
unfolding before
joined_few c [] = omega arith
joined_few c (l ∷ ls) = omega arith

either_few : (c : ℕ) (cs : List ℕ) (t : Bool) → length (lines_of cs) ≤ length cs
    → length (cond t ([] ∷ lines_of cs) (before c (lines_of cs))) ≤ suc (length cs)
either_few c cs true h = omega (arith, h)
either_few c cs false h = omega (arith, h, joined_few c (lines_of cs))

pub lines_few : (input : List ℕ) → length (lines_of input) ≤ length input
unfolding lines_of
lines_few [] = omega arith
lines_few (c ∷ cs) = either_few c cs (eqb c 10) (lines_few cs)
