-- The walk and the bounds are the layout, by law.
-- Assumes nothing.
use Rattle.units.proofs.Common.{sym, ◌∙◌, yes_and, no_and}
use Rattle.meaning.proofs.Terms.{full}
use Rattle.lists.proofs.LineLaws.{line_is}
use Rattle.lists.proofs.line.lists_ok.Goals as goal

pub returns-then-not-in_line : goal.returns-then-not-in_line
returns-then-not-in_line c = sym (line_is full _ _ _ ∙ no_and _ (sym c.in_line.ensures ∙ c.if-not-in_line.true))

pub returns : goal.returns
returns c =
    c.bounds_met.ensures
    ∙ sym (line_is full _ _ _ ∙ yes_and (sym c.in_line.ensures ∙ c.if-not-in_line.false))
