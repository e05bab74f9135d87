-- `bits::count_rows` meets its contract: so many are marked in the bytes passed, and with the last few in all. Assumes nothing.
use Rattle.std.proofs.Common.{refl, arith}
use Rattle.bits.specs.Marked.{marked_below}
use Rattle.bits.proofs.count_rows.Goals as goal

pub loop-i-init : goal.loop-i-init
unfolding marked_below
loop-i-init c = (omega arith, refl, omega arith)
