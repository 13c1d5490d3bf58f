-- What is said in turn goes on from place to place.
-- Assumes nothing.
use Rattle.units.proofs.Common.{rules}
use Rattle.guide.proofs.Saying.{onward_then}
use Rattle.guide.proofs.responses.say_answer.Goals as goal

pub returns-then-not-is_empty : goal.returns-then-not-is_empty
returns-then-not-is_empty c = search (rules, onward_then)

pub returns-else-not-is_empty : goal.returns-else-not-is_empty
returns-else-not-is_empty c = search (rules, onward_then)
