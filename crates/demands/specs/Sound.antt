-- What the theorems ask of a bench: the gateway is no reader, every node's share is within its limit, all shares together are within the
-- store, and an answer without data is within a share.
-- Assumes nothing.
use Rattle.std.specs.Prelude.{◌+◌, ◌*◌, ◌≤◌, ◌<◌}
use Rattle.std.proofs.Common.{lit≤, lit<}
use Rattle.meaning.specs.Bench.{Bench, full, hub}

pub record Sound (b : Bench) : Type 0 where
  pub apart : b.readers < hub
  pub modest : b.share ≤ b.limit
  pub stored : b.readers * b.share + b.share ≤ b.store
  pub bare : 6 ≤ b.share

pub full_sound : Sound full
full_sound = record { apart = lit< tt; modest = lit≤ tt; stored = lit≤ tt; bare = lit≤ tt }
