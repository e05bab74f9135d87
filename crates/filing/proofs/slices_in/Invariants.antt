-- What the loop of `slices_in` keeps: the slices of the columns passed are counted. Assumes nothing.
use Rattle.table.proofs.Columns.{Counted}
use Rattle.filing.proofs.slices_in.Given as goal

abbrev pub invariant-loop-width : goal.invariant-loop-width
invariant-loop-width l = Counted l.widths l.slices l.width-index
