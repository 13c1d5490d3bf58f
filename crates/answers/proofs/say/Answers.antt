-- What may be said is not refused, so the answer has the whole packet in front, and its length is handed back.
use Rattle.units.proofs.Common.{refl, arith, length, rules}
use Rattle.answers.proofs.Saying.{short, says}
use Rattle.answers.proofs.say.Goals as goal

pub overflow_cast-bytes : goal.overflow_cast-bytes
overflow_cast-bytes c = record { fits = omega (arith, short c.args.r c.args.bytes.now (length c.args.answer.now) c.requires) }

pub returns : goal.returns
returns c =
    says c.args.r c.args.bytes.now (length c.args.answer.now) c.requires (search rules) (search rules) _ _ refl (search rules)
    c.write_response.ensures.out_after _ c.overall.ensures
