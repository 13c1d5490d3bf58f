-- What a packet that was opened says, and how it is handed on.
-- Assumes nothing.
use Rattle.units.proofs.Common.{◌∙◌, ◌≡◌, ap, List, ℕ}
use Rattle.units.specs.declared.Form.{Form}
use Rattle.units.specs.declared.stamp.Stamp.{Stamp}
use Rattle.meaning.proofs.Terms.{refusal, ◌or_else◌, full, row_of, command_of, frame_doubts, row_doubts, command_doubts, command, judged}
use Rattle.meaning.proofs.Terms.{command_in, kind_in}
use Rattle.meaning.specs.Command.{body_of}
use Rattle.meaning.specs.declared.table.Row.{Row}
use Rattle.command.specs.Judged.{judged_command}
use Rattle.meaning.specs.declared.packet.Command.{Command}
use Rattle.meaning.specs.declared.table.Kind.{Kind}

-- ---- a packet that was opened: its body, what that says, its row
module _ (f : Form) (ws : List ℕ) {body : List ℕ} {m : Command} (b : body ≡ body_of f ws) (e : m ≡ command_of body) where
  pub said_is : m ≡ command_of (body_of f ws)
  said_is = e ∙ ap command_of b

  module _ {row : Row} (r : row ≡ row_of full m.command) where
    pub kind_is : row.kind ≡ (row_of full (command_of (body_of f ws)).command).kind
    kind_is = ap (λ (r : Row). r.kind) r ∙ ap (λ (m : Command). (row_of full m.command).kind) said_is

    pub refusal_is : {n : ℕ} → n ≡ refusal (frame_doubts f ws body or_else row_doubts full row m body) → n ≡ refusal (command_doubts full f ws)
    unfolding command_doubts
    refusal_is {n} q = q ∙ rw (r, e, b)

-- as it is handed on
pub judged_is : (t : Stamp) (f : Form) (ws : List ℕ) {n : ℕ} {k : Kind} {m : Command} → n ≡ judged full (command t f ws) → k ≡ kind_in full f
    ws
    → m ≡ command_in f ws → record { refusal = n; kind = k; what = m } ≡ judged_command full t f ws
unfolding judged_command
judged_is t f ws p q r = rw (p, q, r)
