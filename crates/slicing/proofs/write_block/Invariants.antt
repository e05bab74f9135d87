-- What the loop of `write_block` keeps: every column passed has the block's bytes, and its slices are counted. Assumes nothing.
use Prim.Native.Nat.{◌+◌}
use Rattle.slicing.specs.Putting.{body, BodyPut}
use Rattle.table.proofs.Columns.{Counted}
use Rattle.slicing.proofs.write_block.Given as goal

abbrev pub invariant-loop-column : goal.invariant-loop-column
invariant-loop-column l =
    Counted l.table.widths.now l.slices l.column
    × BodyPut l.table.rows (body l.table) l.initial.out l.out l.first (l.first + l.n) 0 l.slices
