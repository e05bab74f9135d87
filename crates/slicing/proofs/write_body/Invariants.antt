-- What the loop of `write_body` keeps, and what each turn makes less. Assumes nothing.
use Prim.Native.Nat.{◌-◌, ◌≤◌}
use lib.ListN.{length}
use Rattle.directory.specs.Layout.{slices_before}
use Rattle.table.specs.Table.{width_of}
use Rattle.slicing.specs.Putting.{body, BodyPut}
use Rattle.slicing.proofs.write_body.Given as goal

abbrev pub invariant-loop-first : goal.invariant-loop-first
invariant-loop-first l =
    let widths = l.table.widths.now in
    (l.first ≤ l.table.rows)
    × BodyPut l.table.rows (body l.table) l.initial.out l.out 0 l.first 0 (slices_before (width_of widths) (length widths))

abbrev pub decreases-loop-first : goal.decreases-loop-first
decreases-loop-first l = l.table.rows - l.first
