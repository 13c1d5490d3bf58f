-- By the change's kind: the region is kept, filled, or written over with the bytes that the words say.
use Rattle.units.proofs.Slices.{put_mid-filled}
use Rattle.answers.proofs.Cuts.{unpacked}
use Rattle.decided.specs.Decided.{altered, Suits}
use Rattle.decided.proofs.alter.Goals as goal

pub returns-in-Filled : goal.returns-in-Filled
unfolding Suits altered
returns-in-Filled c =
    let f = c.in-Filled in
    let h = rw f.is at c.requires in
    rw f.is (put_mid-filled f.start f.size c.args.region.now _ f.byte h (c.fill.ensures.after (λ y e. e)))

pub returns-in-Written : goal.returns-in-Written
unfolding Suits altered
returns-in-Written c =
    let a = c.args in
    let k = c.in-Written.is in
    let h = rw k at c.requires in
    rw k (unpacked a.words.now a.region.now _ _ _ h.0 h.1 c.unpack.ensures)
