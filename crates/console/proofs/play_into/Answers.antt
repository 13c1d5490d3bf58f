-- A fresh machine is consistent.
-- Assumes nothing.
use Rattle.units.proofs.Common.{refl, ℕ, arith, replicate, length-replicate}
use Rattle.meaning.proofs.Terms.{full}
use Rattle.blank.proofs.Blank.{blank_fit}
use Rattle.console.proofs.play_into.Goals as goal

pub loop-init : goal.loop-init
loop-init c =
    (refl, refl, omega arith, blank_fit _ (replicate full.store 0) _ (length-replicate {A = ℕ} full.store 0) c.fresh-s.ensures)
