-- The held words lie at the front: removing them all leaves zeros in their place.
use Rattle.units.proofs.Common.{◌≡◌, ⊎_elim, ◌++◌, length, drop, replicate, rules, length-take-le}
use Rattle.meaning.specs.Bench.{node_count, full}
use Rattle.machine.proofs.Terms.{counts}
use Rattle.state.proofs.Lists.{length_mapped}
use Rattle.lists.specs.Room.{place_of}
use Rattle.moves.proofs.Moves.{removed_all}
use Rattle.store.specs.Swept.{swept_store}
use Rattle.store.proofs.sweep_store.Goals as goal

pub returns-in-Clear : goal.returns-in-Clear
unfolding swept_store
returns-in-Clear c =
    let n : length c.args.held ≡ node_count full = search (rules, length_mapped) in
    let k = place_of (counts c.args.held) (node_count full) in
    let w = c.args.store.now in
    let e : c.fill.new.self ++ drop c.place_of.result w ≡ replicate k 0 ++ drop k w =
    rw (c.fill.ensures.after (λ y h. h), c.place_of.ensures, length-take-le k w c.requires) in
    rw (e, ← removed_all) (⊎_elim (λ b. rw b (rw n)) (λ b. rw b (rw n)) c.in-Clear.is)
