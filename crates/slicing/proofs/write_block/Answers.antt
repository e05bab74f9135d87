-- `slicing::write_block` meets its contract: every column passed has the block's bytes, and its slices are counted. Assumes nothing.
use Prim.Native.Nat.{◌+◌}
use native.Mathlib.Omega.{arith}
use Rattle.slicing.specs.Putting.{body}
use Rattle.table.proofs.Columns.{Counted, none_counted, one_more_counted}
use Rattle.slicing.proofs.Putting.{put_nothing, put_slices}
use Rattle.slicing.proofs.write_block.Goals as goal
use Rattle.slicing.proofs.write_block.Goals.{After-slices_of-slices}

-- its column is counted
passed : (c : After-slices_of-slices) →
    Counted c.args.table.now.widths.now (c.loop-column.slices + c.slices_of-slices.result) (c.loop-column.column + 1)
passed c =
    one_more_counted _ c.args.table.now.fit_widths _ _ _ c.loop-column.invariant.0 (omega arith) c.slices_of-slices.ensures

pub loop-column-init : goal.loop-column-init
loop-column-init c = (none_counted _, put_nothing _ _ c.args.out.now _ _ 0)

pub overflow_add-slices : goal.overflow_add-slices
overflow_add-slices c = omega (arith, (passed c).few, c.args.table.now.fit_widths.few)

pub loop-column-preserved : goal.loop-column-preserved
loop-column-preserved c =
    let table = c.args.table.now in
    let column = rw (← c.slices_of-slices.ensures) at c.write_block_column.ensures in
    (passed c, put_slices table.rows (body table) c.loop-column.invariant.1 column)
