-- A listing is the line `broken`, or the line of the command count and what `play` writes; an output that could be too short stays
-- as it is.
use Rattle.units.proofs.Common.{ℕ, arith, replicate, length-replicate, not-false, not-true}
use Rattle.meaning.proofs.Terms.{full}
use Rattle.text.proofs.Writing.{put_as}
use Rattle.listingout.proofs.Rooms.{length_broken}
use Rattle.blank.proofs.Blank.{blank_fit, blank_means}
use Rattle.nightrun.proofs.Whole.{listed, listing_broken, ready_fine, listed_fine}
use Rattle.nightrun.proofs.list.Goals as goal

pub open-o-requires : goal.open-o-requires
open-o-requires c = blank_fit _ (replicate full.store 0) _ (length-replicate {A = ℕ} full.store 0) c.fresh-fresh.ensures

pub returns-then-not-o : goal.returns-then-not-o
returns-then-not-o c =
    let a = c.args in
    let put = c.put_broken.ensures in
    let from = blank_means _ (replicate full.store 0) _ (length-replicate {A = ℕ} full.store 0) c.fresh-fresh.ensures in
    listed a.file.now a.out.now _ _ c.if-out-lt-LONGEST_LISTING.false
    (put_as (listing_broken from c.open-o.ensures (not-true _ c.if-not-o.true)) put) (omega (
      arith,
      put.next,
      length_broken,
      c.if-out-lt-LONGEST_LISTING.false,
    ))

pub play-requires : goal.play-requires
play-requires c =
    let from = blank_means _ (replicate full.store 0) _ (length-replicate {A = ℕ} full.store 0) c.fresh-fresh.ensures in record {
      ready = ready_fine from c.open-o.ensures (not-false _ c.if-not-o.false) c.put_commands-to.ensures c.if-out-lt-LONGEST_LISTING.false (omega arith);
      plaques_value = c.open-o.ensures.sound;
    }

pub returns : goal.returns
returns c =
    let from = blank_means _ (replicate full.store 0) _ (length-replicate {A = ℕ} full.store 0) c.fresh-fresh.ensures in
    listed_fine from c.open-o.ensures (not-false _ c.if-not-o.false) c.put_commands-to.ensures c.if-out-lt-LONGEST_LISTING.false c.play.ensures
