-- The writer's answer, and what it left, are those of its one call.
-- Assumes nothing.
use Rattle.std.proofs.Common.{rules, refl, ◌∙◌}
use Rattle.guide.proofs.Alike.{fronted}
use Rattle.guide.proofs.again.same.Goals as goal

pub returns-in-Refused : goal.returns-in-Refused
returns-in-Refused g c = (c.write.result, c.write.new.arg2, search rules, rw c.in-Refused.is)

pub returns-in-Done : goal.returns-in-Done
returns-in-Done g c = (
  c.write.result,
  c.write.new.arg2,
  search rules,
  rw c.in-Done.is (c.eq.ensures ∙ fronted _ _ _ c.args.words _ refl c.get.ensures.lookup),
)
