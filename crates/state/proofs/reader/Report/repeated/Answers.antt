-- `repeats_is` of Reports has the code's tests; whether a report is kept comes first.
-- Assumes nothing.
use Rattle.units.proofs.Common.{sym, ◌∙◌, ◌≡◌, ◌&&◌, ◌<◌, ◌^◌, eqb, arith, rules, yes_and, no_and}
use Rattle.std.specs.Cmp.Lexicographic.{pointwise}
use Rattle.state.proofs.Reports.{repeats_is}
use Rattle.state.proofs.reader.Report.repeated.Goals as goal
use Rattle.state.proofs.reader.Report.repeated.Goals.{Joined-self, then-self, else-self}

tested : (c : Joined-self) → c.if-self.value ≡ c.args.self.kept && pointwise eqb c.args.id c.args.self.id
tested c = elim c.if-self.branch [
  | then-self w ↦ w.value-is ∙ w.eq.ensures ∙ sym (yes_and w.if-self.true)
  | else-self w ↦ w.value-is ∙ w.if-self.false ∙ sym (no_and _ w.if-self.false)
]

pub returns-then-eq : goal.returns-then-eq
returns-then-eq c =
    let small : c.args.self.clock < 2 ^ 32 = search rules in
    let e = tested (goal.at.returns-then-eq c).Joined-self in
    sym (repeats_is _ _ _ c.args.self (omega arith) ∙ yes_and (sym e ∙ c.if-eq.true))

pub returns-else-eq : goal.returns-else-eq
returns-else-eq c =
    let small : c.args.self.clock < 2 ^ 32 = search rules in
    let e = tested (goal.at.returns-else-eq c).Joined-self in
    c.if-eq.false ∙ sym (repeats_is _ _ _ c.args.self (omega arith) ∙ no_and _ (sym e ∙ c.if-eq.false))
