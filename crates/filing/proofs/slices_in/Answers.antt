-- `filing::slices_in` meets its contract: each of at most 32 columns adds its slices, which are four at most. Assumes nothing.
use Prim.Native.Nat.{◌+◌}
use native.Mathlib.Omega.{arith}
use Rattle.table.proofs.Columns.{Counted, none_counted, one_more_counted}
use Rattle.filing.proofs.slices_in.Goals as goal
use Rattle.filing.proofs.slices_in.Goals.{After-slices_of-slices}

-- the turn's column is counted
passed : (c : After-slices_of-slices) →
    Counted c.args.widths.now (c.loop-width.slices + c.slices_of-slices.result) (c.loop-width.width-index + 1)
passed c =
    one_more_counted _ c.requires _ _ _ c.loop-width.invariant (omega arith) c.slices_of-slices.ensures

pub loop-width-init : goal.loop-width-init
loop-width-init c = none_counted _

pub overflow_add-slices : goal.overflow_add-slices
overflow_add-slices c = omega (arith, (passed c).few, c.requires.few)

pub loop-width-preserved : goal.loop-width-preserved
loop-width-preserved c = passed c
