-- What a call read comes behind what was read before, and that stays.
use Rattle.std.proofs.Common.{◌≡◌, ℕ, ◌-◌, ◌+◌, ◌≤◌, List, ◌++◌, rules, length, take, subst, le_refl, drop_at, length-take-le}
use Rattle.std.proofs.lemmas.Slice.{take-put_mid_below}
use Rattle.std.proofs.Math.Seq.{take-add, take-append-le}
use Rattle.std.specs.Io.KnownBytes.{Consumes}
use Rattle.std.proofs.KnownBytes.{Consumes-trans}
use borrow.Rule.Slice.PartMut.{put_mid, post_of}
use Rattle.streams.proofs.fill.Goals as goal

-- all up to there
joined : (a k n : ℕ) (xs ys : List ℕ) → a ≤ length xs → n ≤ length ys → take a xs ++ take n ys ≡ take (a + n) (put_mid a k xs ys)
joined a k n xs ys within fits =
    let all = take-add a n (put_mid a k xs ys) in
    let before = take-put_mid_below a k xs ys a (le_refl a) within in
    let behind = drop_at (take a xs) (ys ++ post_of a k xs) a (length-take-le a xs within) in
    let front = take-append-le n ys (post_of a k xs) fits in
    cc

pub loop-at-preserved : goal.loop-at-preserved
loop-at-preserved g c =
    let (within, consumed) = c.loop-at.invariant in
    let room = length c.loop-at.bytes - c.loop-at.at in
    let all = joined c.loop-at.at room c.in-Ok.more c.loop-at.bytes c.read.new.buf within c.in-Ok.ensures.bound.0 in
    (search rules, subst (Consumes _ _) all (Consumes-trans _ _ _ _ _ consumed c.in-Ok.ensures.bytes.0))
