-- `filing::write_directory` meets its contract: every column passed has its entry, and its slices are counted. Assumes nothing.
use Prim.Native.Nat.{◌+◌, ◌*◌}
use native.Mathlib.Omega.{arith}
use mathlib.Core.Path.{◌≡◌}
use mathlib.Core.List.{flatten}
use lib.ListN.{length}
use Rattle.limits.specs.Limits.{entry_bytes}
use Rattle.basis.proofs.Buffers.{filled_nothing, filled_list}
use Rattle.directory.specs.Layout.{slices_before}
use Rattle.table.specs.Table.{width_of}
use Rattle.filing.specs.Layout.{directory_of}
use Rattle.table.proofs.Columns.{Counted, none_counted, one_more_counted}
use Rattle.filing.proofs.Lengths.{entry_of, length_entry_with, length_entries}
use Rattle.filing.proofs.write_directory.Goals as goal
use Rattle.filing.proofs.write_directory.Goals.{After-slices_of-slices}

-- its column is counted
passed : (c : After-slices_of-slices) →
    Counted c.args.table.now.widths.now (c.loop-column.slices + c.slices_of-slices.result) (c.loop-column.column + 1)
passed c =
    one_more_counted _ c.args.table.now.fit_widths _ _ _ c.loop-column.invariant.0 (omega arith) c.slices_of-slices.ensures

pub loop-column-init : goal.loop-column-init
unfolding flatten
loop-column-init c = let args = c.args in (none_counted _, filled_nothing args.out.now args.at)

pub overflow_add-slices : goal.overflow_add-slices
overflow_add-slices c = omega (arith, (passed c).few, c.args.table.now.fit_widths.few)

pub loop-column-preserved : goal.loop-column-preserved
loop-column-preserved c =
    let at = c.args.at in
    let rows = c.args.table.now.rows in
    let widths = c.args.table.now.widths.now in
    let column = c.loop-column.column in
    let so_far = length_entries rows widths column in
    let own = length_entry_with (width_of widths column) (rows * slices_before (width_of widths) column) in (
      passed c,
      filled_list _ _ (entry_of rows widths) column (at + entry_bytes * column) c.loop-column.invariant.1
          (omega arith) (omega arith) (rw c.loop-column.invariant.0.counted at c.write_entry.ensures),
    )

pub returns : goal.returns
unfolding directory_of
returns c =
    let turn = c.loop-column in
    let end : turn.column ≡ length c.args.table.now.widths.now = omega arith in
    rw end at turn.invariant.1.filled
