-- The array has as many bytes as it was made with, by the law of `replicate` and not by counting them.
use Rattle.units.proofs.Common.{sym, ℕ, length-replicate}
use Rattle.listing.specs.Listing.{longest_listing}
use Rattle.night.proofs.write_listing.Goals as goal

pub slice_bounds-write_into-end : goal.slice_bounds-write_into-end
slice_bounds-write_into-end c = sym (length-replicate {A = ℕ} longest_listing 0)
