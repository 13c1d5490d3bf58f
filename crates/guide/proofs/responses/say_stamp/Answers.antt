-- What is said in turn goes on from place to place.
-- Assumes nothing.
use Rattle.units.proofs.Common.{rules}
use Rattle.guide.proofs.Saying.{onward_then}
use Rattle.guide.proofs.responses.say_stamp.Goals as goal

pub returns : goal.returns
returns c = search (rules, onward_then)
