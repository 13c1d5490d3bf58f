-- A command of the gateway is ruled by its own kind; any other is refused by 8 (`Ruling`).
use Rattle.units.proofs.Common.{sym, subst, length}
use Rattle.meaning.proofs.Terms.{full}
use Rattle.meaning.specs.declared.table.Kind.{Kind}
use Rattle.desk.specs.Ruled.{Governable, Governs}
use Rattle.desk.proofs.Ruling.{governs_refused, others}
use Rattle.desk.proofs.govern.Goals as goal

pub rule-requires : goal.rule-requires
rule-requires c =
    subst (λ (k : Kind). Governable full c.args.t k c.args.m c.args.words.now c.args.name (length c.args.answer.now)) c.in-Gateway.is
    c.requires

pub returns-in-Gateway : goal.returns-in-Gateway
returns-in-Gateway c =
    subst (λ (k : Kind). Governs full c.args.count c.args.name c.args.t k c.args.m c.args.words.now c.rule.result c.rule.new.answer)
    (sym c.in-Gateway.is) c.rule.ensures

pub returns-in_default : goal.returns-in_default
returns-in_default c = governs_refused _ _ _ _ _ _ c.requires (others c.args.kind c.in_default.not-Gateway)
