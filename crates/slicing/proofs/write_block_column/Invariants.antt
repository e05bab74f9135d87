-- What the loop of `write_block_column` keeps: the bytes of every slice passed are those of the body. Assumes nothing.
use Prim.Native.Nat.{◌+◌}
use Rattle.slicing.specs.Putting.{body, BodyPut}
use Rattle.slicing.proofs.write_block_column.Given as goal

abbrev pub invariant-loop-slice : goal.invariant-loop-slice
invariant-loop-slice l =
    BodyPut l.table.rows (body l.table) l.initial.out l.out l.first (l.first + l.n) l.slices (l.slices + l.slice)
