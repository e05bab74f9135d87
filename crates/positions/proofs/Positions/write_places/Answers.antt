-- `positions::Positions::write_places` meets its contract: a turn stores the row of one entry more. Assumes nothing.
use Rattle.std.proofs.Common.{arith}
use Rattle.basis.proofs.Buffers.{filled_element}
use Rattle.positions.specs.Steps.{row_at}
use Rattle.positions.proofs.Positions.write_places.Goals as goal

pub loop-k-preserved : goal.loop-k-preserved
loop-k-preserved c =
    let a = c.args in
    rw (c.from.ensures, c.place.ensures)
    (filled_element a.out.now a.at (row_at a.byte a.first) c.loop-k.k c.loop-k.invariant (omega arith))
