-- Every row of the closed cases of the night run holds; the checker computes them.
-- Assumes nothing.
use Rattle.units.proofs.Common.{◌≡◌, refl, [], ℕ}
use Rattle.meaning.proofs.Terms.{unheld}
use Rattle.meaning.proofs.Opened.{calls}
use Rattle.text.specs.Text.{hex_of, decimal_within, decimal_of, words_line}
use Rattle.listing.specs.Records.{count_whole, plaque_whole, command_whole}
use Rattle.listing.specs.Lines.{number_line, broken_line, flat}
use Rattle.listing.specs.Listing.{words_handed, handover_in, handed_over, heard, turn, turned, arrived, command_lines, counted_lines}
use Rattle.listing.specs.Listing.{plaque_lines, file_lines, blank, listing}
use Rattle.listing.specs.Cases.{played_cases, handed_cases, refused_cases, broken_cases, alone_cases, night_cases}

-- what the rows compute with: to name it on a line of `unfolding` opens all that its own line names
unfoldable pub lines : ℕ
unfolding hex_of decimal_within decimal_of words_line count_whole plaque_whole command_whole number_line broken_line flat
lines = 0

unfoldable pub night : ℕ
unfolding calls lines words_handed handover_in handed_over heard turn turned arrived
    command_lines counted_lines plaque_lines file_lines blank listing
night = 0

pub night_cases_hold : unheld night_cases ≡ []
unfolding unheld night_cases played_cases handed_cases refused_cases broken_cases alone_cases night
night_cases_hold = refl
