-- Whether a packet written again is the words lent: it is not refused in so much room, and its words are those.
-- Assumes nothing.
use Rattle.std.specs.Prelude.{ℕ, Bool, false, ◌&&◌, List, eqb, leb, length, take}
use Rattle.units.specs.declared.Form.{Form}
use Rattle.meaning.specs.declared.packet.Command.{Command}
use Rattle.meaning.specs.declared.packet.Response.{Response}
use Rattle.meaning.specs.declared.packet.Written.{Written}
use Rattle.meaning.specs.declared.packet.Written.TheVariants.{Refused, Done}
use Rattle.meaning.specs.Bench.{full}
use Rattle.meaning.specs.Command.{write_refusal, command_words}
use Rattle.meaning.specs.Response.{respond_refusal, response_words}
use Rattle.meaning.specs.Call.{same}

-- by what a writer answered, and the words that it left
abbrev pub agrees : List ℕ → Written → List ℕ → Bool
agrees ws (Refused n) out = false
agrees ws (Done n) out = leb n.0 (length out) && same ws (take n.0 out)

unfoldable pub command_again : List ℕ → Form → Command → List ℕ → ℕ → Bool
command_again ws f m bs room = eqb (write_refusal full f m (length bs) room) 0 && same ws (command_words f m bs)

unfoldable pub response_again : List ℕ → Form → Response → List ℕ → ℕ → Bool
response_again ws f r bs room = eqb (respond_refusal full f r (length bs) room) 0 && same ws (response_words f r bs)
