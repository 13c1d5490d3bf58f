-- How long the lines out of the console are.
-- Assumes nothing.
use Rattle.units.proofs.Common.{◌≡◌, refl, List, ℕ, ◌≤◌, ◌<◌, ◌^◌, arith, length, length-append}
use mir.Val.{Val}
use denote.Shadow.{shadow}
use Rattle.promise.specs.contracts.Reply as the-reply
use Rattle.promise.specs.Obeyed.{said_of}
use Rattle.promise.specs.declared.Reply.{Reply}
use Rattle.text.proofs.Writing.{length_words, decimal_short}
use Rattle.listingout.proofs.Rooms.{refused_short}
use Rattle.dialog.specs.Dialog.{unreadable_line, collected_line, said_line, store_line}

pub length_unreadable : length unreadable_line ≡ 11
unfolding unreadable_line
length_unreadable = refl

-- a handover number, and an answer of at most 135 words
pub collected_short : (h : ℕ) (ws : List ℕ) → h < 10 ^ 5 → length ws ≤ 135 → length (collected_line h ws) ≤ 691
unfolding collected_line
collected_short h ws a b = simp length-append (omega (arith, decimal_short 4 h a, length_words ws))

pub store_short : (ws : List ℕ) → length ws ≤ 128 → length (store_line ws) ≤ 691
unfolding store_line
store_short ws h = simp length-append (omega (arith, length_words ws))

-- a reply, of which its owner knows that the number of a refusal is a byte
pub said_short : (r : Reply) (vs : List Val) → shadow ((the-reply.the_field).row.own_val ((the-reply.the_type).to r) vs) → length
    (said_line (said_of r)) ≤ 14
unfolding said_line said_of
said_short (Reply.Refused k) vs g = refused_short k (omega (arith, g.1.1.1.1.0.1))
said_short Reply.Done vs g = omega arith
said_short Reply.Quiet vs g = omega arith
said_short Reply.Queued vs g = omega arith
