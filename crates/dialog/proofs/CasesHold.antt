-- Every row of the closed cases of the console holds; the checker computes them.
-- Assumes nothing.
use Rattle.units.proofs.Common.{◌≡◌, refl, [], ℕ}
use Rattle.meaning.proofs.Terms.{unheld}
use Rattle.meaning.proofs.Opened.{calls}
use Rattle.machine.proofs.Terms.{laid, all_laid, store_of}
use Rattle.text.specs.Text.{hex_of, decimal_within, decimal_of, words_line}
use Rattle.listing.specs.Lines.{number_line}
use Rattle.listing.specs.Listing.{blank}
use Rattle.dialog.specs.Fields.{before, fields, decimal_from, number_ok, hex_from, word_ok, bytes_ok, pairs, bytes_of_hex}
use Rattle.dialog.specs.Spoken.{numbers_ok, command_ok, check_ok, arrive_ok, leave_ok, collect_ok, acknowledge_ok, store_ok, call_by, spoken}
use Rattle.dialog.specs.Dialog.{collected_line, said_line, unreadable_line, store_line, first_nodes, in_order, reply_to, lines_of, replies}
use Rattle.dialog.specs.Dialog.{conversation}
use Rattle.dialog.specs.Cases.{line_cases, call_cases, number_cases, word_cases, byte_cases, out_cases, look_cases, store_cases, talk_cases}

-- what the rows compute with: to name it on a line of `unfolding` opens all that its own line names
unfoldable pub read : ℕ
unfolding before fields decimal_from number_ok hex_from word_ok bytes_ok pairs bytes_of_hex numbers_ok command_ok check_ok arrive_ok leave_ok collect_ok
read = 0

unfoldable pub written : ℕ
unfolding hex_of decimal_within decimal_of words_line number_line blank collected_line said_line unreadable_line store_line
written = 0

unfoldable pub stored : ℕ
unfolding laid all_laid store_of first_nodes in_order
stored = 0

unfoldable pub talk : ℕ
unfolding calls read written stored acknowledge_ok store_ok call_by spoken reply_to lines_of replies conversation
talk = 0

pub talk_cases_hold : unheld talk_cases ≡ []
unfolding unheld talk_cases line_cases call_cases number_cases word_cases byte_cases out_cases look_cases store_cases talk
talk_cases_hold = refl
