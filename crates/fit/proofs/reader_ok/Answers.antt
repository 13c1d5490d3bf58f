-- The test fails at the first part that is out of order, and else is the last part's.
use Rattle.units.proofs.Common.{sym, ◌∙◌, yes_and, no_and}
use Rattle.machine.proofs.Terms.{reader_ok}
use Rattle.fit.proofs.reader_ok.Goals as goal

pub returns-then-not-plaque_ok : goal.returns-then-not-plaque_ok
unfolding reader_ok
returns-then-not-plaque_ok c = sym (no_and _ (sym c.plaque_ok.ensures ∙ c.if-not-plaque_ok.true))

pub returns-then-not-reading_ok : goal.returns-then-not-reading_ok
unfolding reader_ok
returns-then-not-reading_ok c =
    sym (yes_and (sym c.plaque_ok.ensures ∙ c.if-not-plaque_ok.false) ∙ no_and _
    (sym c.reading_ok.ensures ∙ c.if-not-reading_ok.true))

pub returns : goal.returns
unfolding reader_ok
returns c =
    c.report_ok.ensures ∙ sym (yes_and (sym c.plaque_ok.ensures ∙ c.if-not-plaque_ok.false) ∙ yes_and
    (sym c.reading_ok.ensures ∙ c.if-not-reading_ok.false))
