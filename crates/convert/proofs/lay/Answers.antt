-- After so many steps the words of the first lists stand one behind the other; at the end that is the store without gaps.
use Rattle.units.proofs.Common.{◌≡◌, ◌+◌, ◌-◌, ◌∙◌, length, get_or, take_all, arith, rules}
use Rattle.placed.proofs.InOrder.{blank}
use Rattle.state.proofs.Lists.{length_mapped}
use Rattle.convert.specs.Convert.{runs_of}
use Rattle.convert.proofs.Loops.{Turn, turn, laid_more}
use Rattle.convert.proofs.lay.Goals as goal
use Rattle.convert.proofs.lay.Goals.{In-loop-n}

here : (c : In-loop-n) → Turn c.args.store.now c.args.nodes (length c.args.out.now) c.loop-n.n-index c.loop-n.to
here c =
    let nodes_each : length c.args.nodes ≡ 17 = search (rules, length_mapped) in
    turn _ _ _ _ _ (omega arith) c.requires.0 c.requires.1 c.loop-n.invariant.place

pub loop-n-init : goal.loop-n-init
unfolding runs_of
loop-n-init c = search rules

pub overflow_add-to : goal.overflow_add-to
overflow_add-to c = let h = here (goal.at.overflow_add-to c).In-loop-n in record { fits = omega arith }

pub offset_bounds-store-place : goal.offset_bounds-store-place
offset_bounds-store-place c = let h = here (goal.at.offset_bounds-store-place c).In-loop-n in record { fits = omega arith }

pub slice_bounds-copy_in-end : goal.slice_bounds-copy_in-end
slice_bounds-copy_in-end c = let h = here (goal.at.slice_bounds-copy_in-end c).In-loop-n in omega arith

pub copy_in-requires : goal.copy_in-requires
copy_in-requires c =
    let h = here (goal.at.copy_in-requires c).In-loop-n in
    let list = (get_or c.args.nodes c.loop-n.n-index blank).list in
    let e : list.place + list.words.0 - list.place ≡ list.words.0 = omega arith in
    rw (e, h.wide) (omega arith)

pub loop-n-preserved : goal.loop-n-preserved
loop-n-preserved c =
    let h = here (goal.at.loop-n-preserved c).In-loop-n in
    let list = (get_or c.args.nodes c.loop-n.n-index blank).list in
    let e : list.place + list.words.0 - list.place ≡ list.words.0 = omega arith in
    let w = laid_more c.args.out.now _ _ _ _ _ c.loop-n.invariant.place c.loop-n.invariant.words h.wide h.fits in
    record { place = h.next; words = rw h.more (rw e at c.copy_in.ensures ∙ w) }

pub returns : goal.returns
returns c =
    let nodes_each : length c.args.nodes ≡ 17 = search (rules, length_mapped) in
    c.loop-n.invariant.words ∙ rw (c.loop-n.invariant.place, take_all c.loop-n.n-index c.args.nodes (omega arith))
