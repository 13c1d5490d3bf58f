-- The part of `dst` that is copied over is as long as `src`.
use Rattle.units.proofs.Slices.{put_mid-copied}
use Rattle.plaques.proofs.copy_bytes.Goals as goal

pub returns : goal.returns
returns c = put_mid-copied c.args.to c.args.dst.now _ c.args.src.now c.copy_from_slice.ensures.after
