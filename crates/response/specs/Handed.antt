-- Document 01, "Packets, word by word": "Reading a response hands back its data as a part of the caller's own words, and the Data Length."
-- Assumes nothing.
use Rattle.std.specs.Prelude.{ℕ, cond, List, [], eqb}
use Rattle.units.specs.declared.Form.{Form}
use Rattle.meaning.specs.Refusal.{refusal}
use Rattle.meaning.specs.Bench.{Bench}
use Rattle.meaning.specs.Response.{response_doubts, response_data}

-- the words from 07 on of a packet that is accepted; "A refusal returns only the number", so no word of any other
unfoldable pub handed : Bench → Form → List ℕ → List ℕ
handed b f ws = cond (eqb (refusal (response_doubts b f ws)) 0) (response_data f ws) []
