-- No count passes the limit exactly if none does from i on; so charges may be added up.
-- Assumes nothing.
use Rattle.units.proofs.Common.{sym, ◌∙◌, ◌≡◌, true, List, ◌≤◌, ◌<◌, arith, leb, length, get_or, length-map, le-leb, lt-leb, rules}
use Rattle.units.proofs.Common.{yes_and, no_and}
use Rattle.meaning.specs.Bench.{node_count}
use Rattle.units.specs.declared.Words.{Words}
use Rattle.meaning.proofs.Terms.{full}
use Rattle.machine.proofs.Terms.{counts, bounded}
use Rattle.state.proofs.Lists.{every_at, every_end}
use Rattle.lists.proofs.Charges.{count_at, limited, limit_at}
use Rattle.lists.proofs.line.bounds_met.Goals as goal

pub returns-then-h : goal.returns-then-h
unfolding bounded
returns-then-h c =
    let long : length (counts c.args.hs) ≡ node_count full = let n : length c.args.hs ≡ node_count full = search rules in rw length-map n in
    let hs : List Words = c.args.hs in
    let n = long in
    let l = c.loop-i in
    let h : full.limit < get_or (counts hs) l.i 0 = omega (arith, count_at hs l.i) in
    sym (no_and _ (l.invariant.1 ∙ every_at (λ h. leb h full.limit) (counts hs) l.i 0 (omega arith) ∙ no_and _ (lt-leb _ _ h)))

pub loop-i-preserved : goal.loop-i-preserved
loop-i-preserved c =
    let long : length (counts c.args.hs) ≡ node_count full = let n : length c.args.hs ≡ node_count full = search rules in rw length-map n in
    let hs : List Words = c.args.hs in
    let n = long in
    let l = c.loop-i in
    let h : get_or (counts hs) l.i 0 ≤ full.limit = omega (arith, count_at hs l.i) in
    (omega arith, l.invariant.1 ∙ every_at (λ h. leb h full.limit) (counts hs) l.i 0 (omega arith) ∙ yes_and (le-leb _ _ h))

pub charges-requires : goal.charges-requires
charges-requires c =
    let long : length (counts c.args.hs) ≡ node_count full = let n : length c.args.hs ≡ node_count full = search rules in rw length-map n in
    -- past the loop: none does
    let all_in : limited full.limit (counts c.args.hs) ≡ true = let n = long in
    c.loop-i.invariant.1 ∙ every_end (λ h. leb h full.limit) _ c.loop-i.i (omega arith) in
    let hs = counts c.args.hs in
    let n = long in
    λ j g. limit_at full.limit hs (all_in) j (omega arith)

pub returns : goal.returns
unfolding bounded
returns c =
    let long : length (counts c.args.hs) ≡ node_count full = let n : length c.args.hs ≡ node_count full = search rules in rw length-map n in
    -- past the loop: none does
    let all_in : limited full.limit (counts c.args.hs) ≡ true = let n = long in
    c.loop-i.invariant.1 ∙ every_end (λ h. leb h full.limit) _ c.loop-i.i (omega arith) in
    rw c.charges.ensures (sym (yes_and (all_in)))
