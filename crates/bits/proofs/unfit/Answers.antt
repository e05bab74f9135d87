-- `bits::unfit` meets its contract: the number of bytes first, then the last byte. Assumes nothing.
use mathlib.Core.Path.{◌∙◌, sym}
use borrow.Author.Tests.{eq-eqb, ne_eqb}
use Rattle.bits.specs.Marked.{unfit_bits}
use Rattle.bits.proofs.unfit.Goals as goal

pub returns-then-bits-bytes_for : goal.returns-then-bits-bytes_for
unfolding unfit_bits
returns-then-bits-bytes_for c = sym (simp (rw c.bytes_for.ensures at (ne_eqb _ _ c.if-bits-bytes_for.true)))

pub marked_past-requires : goal.marked_past-requires
marked_past-requires c = c.if-bits-bytes_for.false ∙ c.bytes_for.ensures

pub returns : goal.returns
unfolding unfit_bits
returns c =
    c.marked_past.ensures ∙ sym (simp (eq-eqb _ _ (c.if-bits-bytes_for.false ∙ c.bytes_for.ensures)))
