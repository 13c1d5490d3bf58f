-- Charges may be added up, since no node holds more than the limit.
-- Assumes nothing.
use Rattle.units.proofs.Common.{sym, ◌∙◌, ◌≡◌, List, ℕ, ◌≤◌, ◌+◌, ◌<◌, arith, length, get_or, set, rules}
use Rattle.meaning.specs.Bench.{node_count}
use Rattle.meaning.proofs.Terms.{full}
use Rattle.machine.proofs.Terms.{counts, charges_of}
use Rattle.std.proofs.lemmas.List.{map-set}
use Rattle.lists.proofs.Charges.{count_at, length_words, bounded_at, set_within, no_room, room_by_charges}
use Rattle.lists.proofs.room.has_room.Goals as goal

pub overflow_sub-h : goal.overflow_sub-h
overflow_sub-h c =
    let long : length ((counts c.args.held)) ≡ node_count full = let n : length c.args.held ≡ node_count full = search rules in length_words c.args.held ∙ n in
    -- no node holds more than the limit
    let held_few : (i : ℕ) → i < node_count full → get_or ((counts c.args.held)) i 0 ≤ full.limit = λ i h. bounded_at full ((counts c.args.held)) c.requires.0 i (omega (arith, long)) in
    omega (arith, count_at c.args.held c.args.i, held_few c.args.i c.requires.1)

pub returns-then-h-new : goal.returns-then-h-new
returns-then-h-new c =
    let a = c.args in
    sym (no_room full ((counts c.args.held)) a.i a.new.0 (omega (arith, count_at a.held a.i)))

pub charges-requires : goal.charges-requires
charges-requires c =
    let long : length ((counts c.args.held)) ≡ node_count full = let n : length c.args.held ≡ node_count full = search rules in length_words c.args.held ∙ n in
    -- no node holds more than the limit
    let held_few : (i : ℕ) → i < node_count full → get_or ((counts c.args.held)) i 0 ≤ full.limit = λ i h. bounded_at full ((counts c.args.held)) c.requires.0 i (omega (arith, long)) in
    let a = c.args in
    let e = count_at a.held a.i in
    let f = held_few a.i c.requires.1 in
    let v = (get_or a.held a.i (record { 0 = 0 })).0 + a.new.0 in
    let l = long in
    let t : (j : ℕ) → j < node_count full → get_or (counts (set a.held a.i (record { 0 = v }))) j 0 ≤ full.limit = λ j g.
    rw map-set (set_within ((counts c.args.held)) a.i v full.limit (omega arith) (λ k h. held_few k (omega arith)) j (omega arith)) in
    t

pub returns : goal.returns
returns c =
    let long : length ((counts c.args.held)) ≡ node_count full = let n : length c.args.held ≡ node_count full = search rules in length_words c.args.held ∙ n in
    -- no node holds more than the limit
    let held_few : (i : ℕ) → i < node_count full → get_or ((counts c.args.held)) i 0 ≤ full.limit = λ i h. bounded_at full ((counts c.args.held)) c.requires.0 i (omega (arith, long)) in
    let a = c.args in
    let hs : List ℕ = (counts c.args.held) in
    let e = count_at a.held a.i in
    let f = held_few a.i c.requires.1 in
    let r : c.charges.result.0 ≡ charges_of full.share (set hs a.i (get_or hs a.i 0 + a.new.0)) =
    c.charges.ensures ∙ rw (map-set, e) in
    rw r (sym (room_by_charges full hs a.i a.new.0 (omega arith)))
