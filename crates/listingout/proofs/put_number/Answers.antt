-- A text, a number in decimal and a line feed, each behind the last.
-- Assumes nothing.
use Rattle.text.proofs.Writing.{put_then}
use Rattle.listing.specs.Lines.{number_line}
use Rattle.listingout.proofs.put_number.Goals as goal

pub returns : goal.returns
unfolding number_line
returns c = put_then c.put_text-to.ensures (put_then c.put_decimal-end.ensures c.put.ensures)
