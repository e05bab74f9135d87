-- `codes::unfit_width` meets its contract: its two tests are those of unfit_width, in the same order. Assumes nothing.
use borrow.Author.Tests.{eq-eqb, ne_eqb}
use Rattle.codes.specs.Width.{unfit_width}
use Rattle.codes.proofs.unfit_width.Goals as goal

pub returns-then-width-eq0 : goal.returns-then-width-eq0
unfolding unfit_width
returns-then-width-eq0 c = rw (eq-eqb _ 0 c.if-width-eq0.true)

pub returns : goal.returns
unfolding unfit_width
returns c = rw (ne_eqb _ 0 c.if-width-eq0.false)
