-- Each return has the tests on its way. Assumes nothing.
use mathlib.Core.Path.{sym, ◌∙◌}
use Rattle.composer.specs.Lead.Role.{role_of}
use Rattle.composer.proofs.lead.role.role_of.Goals as goal

pub returns-then-quotes : goal.returns-then-quotes
unfolding role_of
returns-then-quotes c = rw (sym c.quotes.ensures ∙ c.if-quotes.true) c.chosen.ensures

pub returns-then-p : goal.returns-then-p
unfolding role_of
returns-then-p c = rw (sym c.quotes.ensures ∙ c.if-quotes.false, c.if-p.true) c.chosen-then-p.ensures

pub returns-then-peaks : goal.returns-then-peaks
unfolding role_of
returns-then-peaks c = rw (sym c.quotes.ensures ∙ c.if-quotes.false, c.if-p.false, sym c.peaks.ensures ∙ c.if-peaks.true) c.chosen-then-peaks.ensures

pub returns-then-leapt : goal.returns-then-leapt
unfolding role_of
returns-then-leapt c =
    rw (sym c.quotes.ensures ∙ c.if-quotes.false, c.if-p.false, sym c.peaks.ensures ∙ c.if-peaks.false, sym c.leapt.ensures ∙ c.if-leapt.true)
    c.chosen-then-leapt.ensures

pub returns-then-p-2 : goal.returns-then-p-2
unfolding role_of
returns-then-p-2 c =
    rw (sym c.quotes.ensures ∙ c.if-quotes.false, c.if-p.false, sym c.peaks.ensures ∙ c.if-peaks.false, sym c.leapt.ensures ∙ c.if-leapt.false, c.if-p-2.true)
    c.chosen-then-p-2.ensures

pub returns : goal.returns
unfolding role_of
returns c =
    rw (sym c.quotes.ensures ∙ c.if-quotes.false, c.if-p.false, sym c.peaks.ensures ∙ c.if-peaks.false, sym c.leapt.ensures ∙ c.if-leapt.false, c.if-p-2.false)
    c.chance_role.ensures
