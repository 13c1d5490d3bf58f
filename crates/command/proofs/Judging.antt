-- A packet judged with its stamp, part by part.
-- Assumes nothing.
use Rattle.units.proofs.Common.{◌≡◌, ap, List, ℕ}
use Rattle.units.specs.declared.Form.{Form}
use Rattle.units.specs.declared.stamp.Stamp.{Stamp}
use Rattle.meaning.proofs.Terms.{Bench, command, judged, command_in, kind_in}
use Rattle.command.specs.Judged.{judged_command}
use Rattle.command.specs.declared.Judged.{Judged}

module _ (b : Bench) (t : Stamp) (f : Form) (ws : List ℕ) {j : Judged} (e : j ≡ judged_command b t f ws) where
  pub its_refusal : j.refusal ≡ judged b (command t f ws)
  unfolding judged_command
  its_refusal = ap (λ (j : Judged). j.refusal) e

  pub its_kind : j.kind ≡ kind_in b f ws
  unfolding judged_command
  its_kind = ap (λ (j : Judged). j.kind) e

  pub its_command : j.what ≡ command_in f ws
  unfolding judged_command
  its_command = ap (λ (j : Judged). j.what) e
