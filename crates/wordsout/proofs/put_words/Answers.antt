-- A turn writes a word and a blank behind what was written; the last blank gives way to a line feed.
-- Assumes nothing.
use Rattle.units.proofs.Common.{sym, ◌∙◌, ◌≡◌, refl, ap, List, ℕ, ◌≤◌, ◌<◌, ◌+◌, ◌*◌, arith, length, take, get_or, take_all, length-take}
use Rattle.units.proofs.Common.{eqb-true, eqb-false}
use Rattle.text.specs.Text.{Put}
use Rattle.text.proofs.Writing.{put_then, put_as, spaced, length_hex, length_spaced, words_more, words_done, no_words}
use Rattle.wordsout.proofs.put_words.Goals as goal
use Rattle.wordsout.proofs.put_words.Goals.{Else-is_empty}

pub loop-w-init : goal.loop-w-init
unfolding spaced
loop-w-init c = record { next = omega arith; wrote = refl }

pub put_hex-to-requires : goal.put_hex-to-requires
put_hex-to-requires c =
    let ws = c.args.words.now in
    let i = c.loop-w.w-index in
    omega (arith, c.loop-w.invariant.next, length_spaced (take i ws), length-take i ws)

pub put-to-requires : goal.put-to-requires
put-to-requires c =
    let ws = c.args.words.now in
    let i = c.loop-w.w-index in
    let h = c.put_hex-to.ensures.next in
    omega (arith, h, length_hex (get_or ws i 0), c.loop-w.invariant.next, length_spaced (take i ws), length-take i ws)

pub loop-w-preserved : goal.loop-w-preserved
loop-w-preserved c =
    put_as (sym (words_more c.args.words.now c.loop-w.w-index (omega arith)))
    (put_then c.loop-w.invariant (put_then c.put_hex-to.ensures c.put-to.ensures))

-- what the turns wrote
written : {o₀ o : List ℕ} {at to : ℕ} (ws : List ℕ) (i : ℕ) → length ws ≤ i
    → Put o₀ at (spaced (take i ws)) o to → Put o₀ at (spaced ws) o to
written ws i h p = put_as (ap spaced (take_all i ws h)) p

pub returns-then-is_empty : goal.returns-then-is_empty
returns-then-is_empty c =
    let ws = c.args.words.now in
    let l = c.loop-w in
    let none = eqb-true (length ws) 0 (sym c.is_empty.ensures ∙ c.if-is_empty.true) in
    put_as (no_words ws none) (written ws l.w-index (omega arith) l.invariant)

-- where there is a word, its last byte can be written
some : (c : Else-is_empty) → (0 < length c.args.words.now) × (c.loop-w.to ≡ c.args.at + 5 * length c.args.words.now)
some c =
    let ws = c.args.words.now in
    let l = c.loop-w in
    let w = written ws l.w-index (omega arith) l.invariant in
    (omega (arith, eqb-false (length ws) 0 (sym c.is_empty.ensures ∙ c.if-is_empty.false)), omega (arith, w.next, length_spaced ws))

pub overflow_sub-out : goal.overflow_sub-out
overflow_sub-out c = let s = some (goal.at.overflow_sub-out c).Else-is_empty in omega arith

pub bounds-out-to : goal.bounds-out-to
bounds-out-to c = let s = some (goal.at.bounds-out-to c).Else-is_empty in omega arith

pub returns : goal.returns
returns c =
    let ws = c.args.words.now in
    let l = c.loop-w in
    words_done ws (some (goal.at.returns c).Else-is_empty).0 (written ws l.w-index (omega arith) l.invariant)
