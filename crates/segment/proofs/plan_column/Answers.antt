-- `segment::plan_column` meets its contract: the low and the high bytes of the slices passed stand. Assumes nothing.
use native.Mathlib.Omega.{arith}
use lib.ListN.{length-set}
use Rattle.codes.proofs.Width.{few_slices_of}
use Rattle.segment.proofs.Planning.{bytes_one_more}
use Rattle.segment.proofs.plan_column.Goals as goal

pub offset_bounds-bounds-j : goal.offset_bounds-bounds-j
offset_bounds-bounds-j c = omega (arith, few_slices_of c.args.width c.requires.narrow, c.loop-j.invariant.0)

pub bounds-bounds-j : goal.bounds-bounds-j
bounds-bounds-j c = omega (arith, few_slices_of c.args.width c.requires.narrow, c.loop-j.invariant.0)

pub loop-j-preserved : goal.loop-j-preserved
loop-j-preserved c =
    let (counted, long, bytes) = c.loop-j.invariant in
    let few = few_slices_of c.args.width c.requires.narrow in
    (counted, rw length-set long, bytes_one_more _ _ (omega arith) bytes c.byte_of.ensures c.high_of.ensures)
