-- How long the lines of a listing are.
-- Assumes nothing.
use Rattle.units.proofs.Common.{◌≡◌, refl, List, ℕ, ◌≤◌, ◌+◌, ◌<◌, ◌^◌, arith, length, length-append}
use Rattle.text.specs.Text.{Put}
use Rattle.text.proofs.Writing.{decimal_five}
use Rattle.listing.specs.Lines.{number_line, commands_line, refused_line, broken_line}

number_short : (text : List ℕ) (n : ℕ) → n < 10 ^ 5 → length (number_line text n) ≤ length text + 6
unfolding number_line
number_short text n h = simp length-append (omega (arith, decimal_five n h))

pub commands_room : {old new : List ℕ} {at r : ℕ} (n : ℕ) → Put old at (commands_line n) new r → n < 10 ^ 5 → r ≤ at + 15
commands_room n p h = let s : length (commands_line n) ≤ 15 = number_short _ n h in omega (arith, p.next, s)

pub refused_short : (n : ℕ) → n < 10 ^ 5 → length (refused_line n) ≤ 14
refused_short n h = number_short _ n h

pub length_broken : length broken_line ≡ 7
unfolding broken_line
length_broken = refl
