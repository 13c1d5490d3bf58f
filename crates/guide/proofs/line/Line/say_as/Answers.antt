-- A label and a piece, one after the other.
-- Assumes nothing.
use Rattle.guide.proofs.Saying.{labelled}
use Rattle.guide.proofs.line.Line.say_as.Goals as goal

pub returns : goal.returns
returns g c = labelled _ _ _ c.say.ensures c.say-2.ensures
