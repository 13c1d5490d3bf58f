-- Each of the sixteen numbers is given for some input, and 1 and 2 come before all others; the checker computes them.
-- Assumes nothing.
use Rattle.units.proofs.Common.{◌≡◌, refl, [], ◌∷◌, map, ℕ, replicate}
use Rattle.meaning.proofs.Terms.{refused}
use Rattle.meaning.specs.CasesOfCalls.{id_a}
use Rattle.meaning.proofs.Opened.{calls, response_read}
use Rattle.machine.proofs.Terms.{laid, all_laid, store_of, cuts, past, nodes_in, field_of, report_of, mode_of, region_of, reader_of, seen, nodes_of}
use Rattle.machine.proofs.Terms.{readers_of, meaning, formed, charges_of, bounded, lists_ok, node_ok, plaque_ok, reading_ok, report_ok, reader_ok}
use Rattle.machine.proofs.Terms.{name_ok, arrays, consistent, lengths, lent, unfit}
use Rattle.machine.specs.Consistent.{in_layout, listed}
use Rattle.promise.specs.Obeyed.{expected}
use Rattle.promise.specs.Sixteen.{answer, short, unnumbered, idle, sixteen, hasty, said_on}

-- what a machine means
unfoldable meant : ℕ
unfolding cuts past nodes_in field_of report_of mode_of region_of reader_of seen nodes_of readers_of meaning
meant = 0

-- when it is consistent: its lists, then the rest
unfoldable laid_out : ℕ
unfolding laid all_laid store_of in_layout formed charges_of bounded listed lists_ok
laid_out = 0

unfoldable judged : ℕ
unfolding laid_out node_ok plaque_ok reading_ok report_ok reader_ok name_ok arrays consistent lengths lent unfit
judged = 0

pub sixteen_reached : map answer sixteen ≡ map refused (1 ∷ 2 ∷ 3 ∷ 4 ∷ 5 ∷ 6 ∷ 7 ∷ 8 ∷ 9 ∷ 10 ∷ 11 ∷ 12 ∷ 13 ∷ 14 ∷ 15 ∷ 16 ∷ [])
unfolding calls response_read meant judged id_a expected answer sixteen
sixteen_reached = refl

-- H-1
pub lent_first : (said_on short ≡ replicate 6 (refused 1)) × (said_on unnumbered ≡ replicate 6 (refused 2))
unfolding calls response_read meant judged expected answer said_on hasty
lent_first = (refl, refl)

-- and none of the six is refused by 1 or 2 on a machine that is fit
pub lent_fit : said_on idle ≡ map refused (3 ∷ 3 ∷ 7 ∷ 7 ∷ 7 ∷ 7 ∷ [])
unfolding calls response_read meant judged expected answer said_on hasty
lent_fit = refl
