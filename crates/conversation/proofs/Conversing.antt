-- A conversation, line after line: what is written so far, and the replies to come.
-- Assumes nothing.
use Rattle.units.proofs.Common.{sym, ◌∙◌, ◌≡◌, refl, ap, true≢false, List, [], ◌++◌, ℕ, ◌≤◌, ◌-◌, ◌+◌, ◌<◌, suc, ◌*◌, zero-add, arith}
use Rattle.units.proofs.Common.{length, drop, take, length-append, sets, le-leb, lt-leb, yes_cond, no_cond}
use Rattle.meaning.proofs.Terms.{full, Gateway}
use Rattle.machine.proofs.Terms.{Machine, meaning, unfit}
use Rattle.promise.proofs.Parts.{Parts, parts}
use Rattle.text.proofs.Writing.{put_turn, put_done, put_length}
use Rattle.listing.specs.Listing.{blank}
use Rattle.dialog.specs.Spoken.{spoken}
use Rattle.dialog.specs.Dialog.{longest_answer, lines_of, reply_to, replies, conversation}
use Rattle.gather.specs.Pieces.{line_in}
use Rattle.gather.proofs.Pieces.{lines_on, lines_end, line_part}
use Rattle.talk.specs.Talk.{Plays}
use Rattle.talk.proofs.Talking.{plays_after}
use Rattle.conversation.specs.Conversation.{after_lines, Speaks, Converses}
use Rattle.conversation.specs.declared.Text.{Text}

-- the replies to the lines from a place on, and the gateway after them
unfoldable pub to_come : List ℕ → ℕ → Gateway → List ℕ
to_come input at g = replies full g (lines_of (drop at input))

unfoldable pub at_end : List ℕ → ℕ → Gateway → Gateway
at_end input at g = after_lines full g (lines_of (drop at input))

module _ (input : List ℕ) where
  come_none : (at : ℕ) (g : Gateway) → length input ≤ at → (to_come input at g ≡ []) × (at_end input at g ≡ g)
  unfolding to_come at_end replies after_lines
  come_none at g h = (ap (replies full g) (lines_end input at h), ap (after_lines full g) (lines_end input at h))

  -- the reply to the line that begins there, and those to the lines past its end
  module _ (at end : ℕ) (g : Gateway) (h : at < length input) (e : end ≡ at + length (line_in (drop at input))) where
    abbrev line : List ℕ
    line = take (end - at) (drop at input)

    come_on : to_come input at g ≡ (reply_to full g (spoken line)).line ++ to_come input (end + 1) (reply_to full g (spoken line)).after
    unfolding to_come replies
    come_on = ap (replies full g) (lines_on input at h) ∙ rw (line_part input at end e, e)

    end_on : at_end input at g ≡ at_end input (end + 1) (reply_to full g (spoken line)).after
    unfolding at_end after_lines
    end_on = ap (after_lines full g) (lines_on input at h) ∙ rw (line_part input at end e, e)

-- ---- the loop: what is written and what is to come are the whole; there was room for the longest answer to each line, and there is for
-- that to each line to come
pub record Along (input out₀ out : List ℕ) (m₀ : Machine) (at to : ℕ) (m : Machine) : Type 0 where
  pub same : length out ≡ length out₀
  pub sound : unfit full m ≡ 0
  pub rest : sets out to (to_come input at (meaning full m)) ≡ sets out₀ 0 (to_come input 0 (meaning full m₀))
  pub place : to + length (to_come input at (meaning full m)) ≡ length (to_come input 0 (meaning full m₀))
  pub last : at_end input at (meaning full m) ≡ at_end input 0 (meaning full m₀)
  pub room : to + length (lines_of (drop at input)) * longest_answer ≤ length out

pub along_start : {input out : List ℕ} {m : Machine} → unfit full m ≡ 0 → length (lines_of input) * longest_answer ≤ length out
    → Along input out out m 0 0 m
along_start {input} {out} {m} f h = record { same = refl; sound = f; rest = refl; place = zero-add _; last = refl; room = omega (arith, h) }

module _ {input out₀ out : List ℕ} {m₀ : Machine} {at to : ℕ} {m : Machine} (a : Along input out₀ out m₀ at to m) where
  -- the lengths of what is lent
  pub along_parts : Parts full m
  along_parts = parts full m a.sound

  -- a line is left: the room for its answer
  pub along_room : at < length input → to + longest_answer ≤ length out
  along_room h = omega (arith, a.room, ap length (lines_on input at h))

  pub along_turn : {end : ℕ} {new : List ℕ} {to' : ℕ} {m' : Machine} → at < length input → end ≡ at + length (line_in (drop at input))
      → Plays full m (take (end - at) (drop at input)) out to new to' m' → Along input out₀ new m₀ (end + 1) to' m'
  along_turn {end} {new} {to'} {m'} h e p =
      let g : Gateway = meaning full m in
      let w = p.wrote in
      let (sound, means) = plays_after a.sound p in
      let t : List ℕ = (reply_to full g (spoken (take (end - at) (drop at input)))).line in
      let more : List ℕ = to_come input (end + 1) (meaning full m') in
      let n : length (lines_of (drop at input)) ≡ suc (length (lines_of (drop (end + 1) input))) =
      ap length (lines_on input at h) ∙ ap (λ (i : ℕ). suc (length (lines_of (drop (i + 1) input)))) (sym e) in
      let k : to_come input at g ≡ t ++ more = come_on input at end g h e ∙ rw means in
      let l : at_end input at g ≡ at_end input (end + 1) (meaning full m') = end_on input at end g h e ∙ rw means in
      record {
        same = put_length w ∙ a.same;
        sound = sound;
        rest = put_turn (to_come input at g) more w k a.rest;
        place = omega (arith, ap length k ∙ length-append t more, w.next, a.place);
        last = sym l ∙ a.last;
        room = omega (arith, a.room, p.room, put_length w, n);
      }

  -- no line is left: all replies are written
  pub along_done : length input ≤ at → Speaks full m₀ input out₀ out to m
  unfolding to_come at_end
  along_done h =
      let z = come_none input at (meaning full m) h in
      record {
        wrote = put_done _ (omega (arith, ap length z.0, a.place)) z.0 a.rest;
        fits = omega (arith, a.room, a.same);
        means = sym z.1 ∙ a.last;
        sound = a.sound;
      }

-- ---- a whole conversation
pub conversed : {input old new : List ℕ} {at : ℕ} {m m' : Machine} → meaning full m ≡ blank full → length (lines_of input) * longest_answer ≤
    length old
    → Speaks full m input old new at m' → Converses input old new (Text.Written at)
unfolding conversation
conversed {input} {old} {new} {at} {m} from h s =
    let e : replies full (meaning full m) (lines_of input) ≡ conversation input = ap (λ (g : Gateway). replies full g (lines_of input))
    from in
    let l = le-leb (length (lines_of input) * longest_answer) (length old) h in
    record {
      says = ap Text.Written (s.wrote.next ∙ zero-add _ ∙ ap length e) ∙ sym (yes_cond Text.TooShort l);
      writes = s.wrote.wrote ∙ ap (sets old 0) e ∙ sym (yes_cond old l);
      fits = λ q. omega (arith, s.wrote.next, s.fits, ap length e);
    }

pub unconversed : {input old : List ℕ} → length old < length (lines_of input) * longest_answer → Converses input old old Text.TooShort
unconversed {input} {old} h =
    let l = lt-leb (length (lines_of input) * longest_answer) (length old) h in
    record {
      says = sym (no_cond (Text.Written (length (conversation input))) l);
      writes = sym (no_cond (sets old 0 (conversation input)) l);
      fits = λ q. absurd (true≢false (sym q ∙ l));
    }
