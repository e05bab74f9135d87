-- `directory::unfit_entry` meets its contract: width, spare bytes and offset are tried in the definition's order. Assumes nothing.
use mathlib.Core.Path.{sym, ◌∙◌}
use borrow.Author.Tests.{eq-eqb, ne_eqb}
use Rattle.basis.specs.Numbers.{number_at}
use Rattle.directory.specs.File.{unfit_entry}
use Rattle.directory.proofs.unfit_entry.Goals as goal

pub returns-then-unfit_width : goal.returns-then-unfit_width
unfolding unfit_entry
returns-then-unfit_width c = simp (sym c.unfit_width.ensures ∙ c.if-unfit_width.true)

pub returns-then-number_of-ne0 : goal.returns-then-number_of-ne0
unfolding unfit_entry number_at
returns-then-number_of-ne0 c =
    simp (
      sym c.unfit_width.ensures ∙ c.if-unfit_width.false,
      ne_eqb _ _ (λ e. c.if-number_of-ne0.true (c.number_of.ensures.made ∙ e)),
    )

pub returns : goal.returns
unfolding unfit_entry number_at
returns c =
    simp (
      c.number_of-2.ensures.made,
      sym c.unfit_width.ensures ∙ c.if-unfit_width.false,
      eq-eqb _ _ (sym c.number_of.ensures.made ∙ c.if-number_of-ne0.false),
    )
