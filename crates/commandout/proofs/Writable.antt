-- What is known of a command that is written: its words' count, and that they fit.
-- Assumes nothing.
use Rattle.units.proofs.Common.{sym, ◌≡◌, subst, ℕ, ◌≤◌, arith}
use Rattle.units.specs.declared.Form.{Form}
use Rattle.meaning.proofs.Terms.{Bench, row_of, carries, carried, headed_count}
use Rattle.meaning.specs.Command.{write_refusal}
use Rattle.meaning.specs.declared.table.Load.{Load}
use Rattle.meaning.specs.declared.table.Load.TheVariants.{Nothing, One, Size}
use Rattle.meaning.specs.declared.packet.Command.{Command}
use Rattle.meaning.proofs.CommandLaws as L

-- a word says how much a command carries, so it is never more than a word can say
carries_le : (l : Load) (n : ℕ) → n ≤ 65535 → carries l n ≤ 65535
unfolding carries
carries_le Nothing n h = omega arith
carries_le One n h = omega arith
carries_le Size n h = h

pub writable : (b : Bench) (f : Form) (m : Command) (n room : ℕ) → m.size ≤ 65535 → write_refusal b f m n room ≡ 0 →
    (headed_count f n ≤ room) × (n ≤ 65535)
unfolding carried
writable b f m n room h e =
    let w = L.writable b f m n room e in
    (w.fits, subst (λ (x : ℕ). x ≤ 65535) (sym w.load) (carries_le (row_of b m.command).load m.size h))
