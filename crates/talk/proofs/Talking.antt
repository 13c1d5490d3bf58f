-- A line played on a machine that is consistent: the machine after is consistent and means the gateway after the line, and what was
-- written is the line's reply.
-- Assumes nothing.
use Rattle.units.proofs.Common.{sym, ◌∙◌, ◌≡◌, refl, ap, subst, List, ℕ, ◌≤◌, ◌-◌, ◌+◌, arith, length, drop, take, length-take}
use Rattle.units.proofs.Common.{length-take-le, slice, drop_at, take-add}
use Rattle.meaning.proofs.Terms.{Bench, Call, Said, step}
use Rattle.demands.specs.Sound.{Sound}
use Rattle.machine.proofs.Terms.{Machine, meaning, unfit}
use Rattle.promise.specs.Obeyed.{Does}
use Rattle.promise.proofs.Promises.{by_step}
use Rattle.promise.proofs.Chains.{stepped}
use Rattle.text.specs.Text.{Put}
use Rattle.text.proofs.Writing.{put_as}
use Rattle.dialog.specs.Spoken.{Spoken, passed, unreadable, call, look, spoken}
use Rattle.dialog.specs.Dialog.{said_line, store_line, reply_to, longest_answer}
use Rattle.dialogout.proofs.Rooms.{store_short}
use Rattle.talk.specs.Talk.{Follows, Plays}
use Rattle.talk.proofs.Lying.{store_lies}

-- a part of a slice, as the code lends it and as a definition has it
pub part_is : (f c : ℕ) (l : List ℕ) → f + c ≤ length l → take (f + c - f) (drop f l) ≡ slice f (f + c) l
part_is f c l h =
    let n : f + c - f ≡ c = omega arith in
    rw n (sym (ap (drop f) (take-add f c l) ∙ drop_at (take f l) (take c (drop f l)) f (length-take-le f l (omega (arith, h)))))

-- the machine after a line
follows : (b : Bench) (m : Machine) → unfit b m ≡ 0 → (s : Spoken) (m' : Machine) → Follows b m s m'
    → (unfit b m' ≡ 0) × (meaning b m' ≡ (reply_to b (meaning b m) s).after)
unfolding Follows reply_to
follows b m fits passed m' f = rw f (fits, refl)
follows b m fits unreadable m' f = rw f (fits, refl)
follows b m fits (look a c) m' f = rw f (fits, refl)
follows b m fits (call c) m' f = let s = stepped b c m _ _ fits (by_step b m c fits refl f) in (s.fit, s.means)

module _ {b : Bench} {m : Machine} {line old new : List ℕ} {to at : ℕ} where
  pub plays_after : {m' : Machine} → unfit b m ≡ 0 → Plays b m line old to new at m'
      → (unfit b m' ≡ 0) × (meaning b m' ≡ (reply_to b (meaning b m) (spoken line)).after)
  plays_after fits p = follows b m fits (spoken line) _ p.follows

  -- a line played, by what it says
  pub played : {s : Spoken} {m' : Machine} → spoken line ≡ s → Put old to (reply_to b (meaning b m) s).line new at → Follows b m s m'
      → at ≤ to + longest_answer → Plays b m line old to new at m'
  played e p f h = record { wrote = rw e p; follows = rw e f; room = h }

  -- a look, and the words that were looked at written
  pub plays_look : Sound b → unfit b m ≡ 0 → (f c : ℕ) → spoken line ≡ look f c → c ≤ 128 → f + c ≤ length m.store
      → Put old to (store_line (slice f (f + c) m.store)) new at → Plays b m line old to new at m
  unfolding reply_to Follows
  plays_look ok fits f c e few inside p =
      let w : List ℕ = slice f (f + c) m.store in
      let l : length w ≤ 128 =
      omega (arith, few, ap length (sym (part_is f c m.store inside)), length-take (f + c - f) (drop f m.store)) in
      played e (put_as (ap (λ (w : List ℕ). store_line (slice f (f + c) w)) (store_lies b ok m fits)) p) refl
      (omega (arith, p.next, store_short w l))

  -- a call, made as the meaning's step asks, and what was said of it written
  pub plays_call : (c : Call) {said : Said} {m' : Machine} → spoken line ≡ call c → Does b (step b (meaning b m) c) m said m'
      → Put old to (said_line said) new at → at ≤ to + longest_answer → Plays b m line old to new at m'
  unfolding reply_to Follows
  plays_call c {m' = m'} e d p h =
      played e (put_as (ap said_line d.says) p) (subst (λ (s : Said). Does b (step b (meaning b m) c) m s m') d.says d) h
