-- `positions::write_rows` meets its contract: the table keeps its rule, which is tested here once, at every entry. Assumes nothing.
use Rattle.std.proofs.Common.{refl}
use Rattle.bits.specs.SetBits.{places_in}
use Rattle.positions.specs.declared.table.TheConstants.{POSITIONS}
use Rattle.positions.proofs.TableRule.{right_place, holds_places}
use Rattle.positions.proofs.write_rows.Goals as goal

pub invariant_of-positions : goal.invariant_of-positions
unfolding right_place places_in
invariant_of-positions c = record { right = holds_places POSITIONS refl tt }
