-- `slicing::write_block_column` meets its contract: the bytes of every slice passed are those of the body. Assumes nothing.
use Prim.Native.Nat.{◌+◌, ◌*◌, ◌≤◌, ◌<◌}
use native.Mathlib.Omega.{arith}
use lib.ListN.{length}
use Rattle.limits.specs.Limits.{most_slices}
use Rattle.codes.specs.Width.{slices_of}
use Rattle.table.specs.Table.{width_of}
use Rattle.slicing.specs.Putting.{body}
use Rattle.codes.proofs.Width.{few_slices_of}
use Rattle.table.proofs.Columns.{narrow}
use Rattle.slicing.proofs.Putting.{put_slices}
use Rattle.slicing.proofs.Blocks.{run_within, run_put}
use Rattle.slicing.proofs.write_block_column.Goals as goal
use Rattle.slicing.proofs.write_block_column.Goals.{In-loop-slice}

-- the turn's slice is one of the column
among : (c : In-loop-slice) →
    c.loop-slice.slice < slices_of (width_of c.args.table.now.widths.now c.args.column)
among c = omega (arith, c.slices_of-own.ensures)

-- of which there are four at most
few : (c : In-loop-slice) → c.slices_of-own.result ≤ most_slices
few c =
    let args = c.args in
    let table = args.table.now in
    let pre = c.requires in
    let most = few_slices_of (width_of table.widths.now args.column) (narrow _ table.fit_widths _ pre.there) in
    omega (arith, c.slices_of-own.ensures)

-- its run has room in the buffer
room : (c : In-loop-slice) →
    let args = c.args in
    args.table.now.rows * (args.slices + c.loop-slice.slice) + args.first + args.n ≤ length args.out.now
room c =
    let args = c.args in
    let table = args.table.now in
    let pre = c.requires in
    let inside = run_within table.rows table.widths.now table.codes.now args.column c.loop-slice.slice args.first
    args.n pre.there (among c) pre.block.within args.slices pre.counted in
    omega (arith, pre.block.room)

pub overflow_add-at : goal.overflow_add-at
overflow_add-at c = omega (arith, few (goal.at.overflow_add-at c).In-loop-slice, c.requires.few)

pub overflow_mul-at : goal.overflow_mul-at
overflow_mul-at c = omega (arith, room (goal.at.overflow_mul-at c).In-loop-slice)

pub overflow_add-at-in-loop-slice : goal.overflow_add-at-in-loop-slice
overflow_add-at-in-loop-slice c = omega (arith, room (goal.at.overflow_add-at-in-loop-slice c).In-loop-slice)

pub overflow_mul-own : goal.overflow_mul-own
overflow_mul-own c = omega (arith, few (goal.at.overflow_mul-own c).In-loop-slice)

pub write_run-requires : goal.write_run-requires
write_run-requires c =
    let turn = (goal.at.write_run-requires c).In-loop-slice in
    let long = c.loop-slice.invariant.same_length in
    record { few = c.requires.block.few; inside = omega (arith, few turn); room = omega (arith, room turn) }

pub loop-slice-preserved : goal.loop-slice-preserved
loop-slice-preserved c =
    let args = c.args in
    let table = args.table.now in
    let pre = c.requires in
    let block = pre.block in
    let long = c.loop-slice.invariant.same_length in
    let so_far = c.loop-slice.invariant in
    let slice =
    run_put table.rows table.widths.now table.codes.now args.column c.loop-slice.slice args.first args.n
    pre.there (among (goal.at.loop-slice-preserved c).In-loop-slice) block.within args.slices _ _ _ pre.counted
    c.slices_of-own.ensures
    c.copy_stored.ensures (omega (arith, block.room)) c.write_run.ensures in
    put_slices table.rows (body table) so_far slice
