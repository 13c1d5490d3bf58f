-- The lines' answers have room, since a line has a byte at least.
-- Assumes nothing.
use Rattle.units.proofs.Common.{arith}
use Rattle.console.proofs.Lines.{lines_few}
use Rattle.console.proofs.answer.Goals as goal

pub speak-r-requires-clause-longest_answer_in_bounds : goal.speak-r-requires-clause-longest_answer_in_bounds
speak-r-requires-clause-longest_answer_in_bounds c = omega (arith, lines_few c.args.lines.now, c.requires.longest_answer_in_bounds)
