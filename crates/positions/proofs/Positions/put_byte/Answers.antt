-- `positions::Positions::put_byte` meets its contract: as many entries as the byte has set bits, or all eight, are enough.
-- Assumes nothing.
use Rattle.std.proofs.Common.{arith}
use Rattle.positions.proofs.TableRule.{few_places}
use Rattle.positions.proofs.Ahead.{put_ahead}
use Rattle.positions.proofs.Positions.put_byte.Goals as goal
use Rattle.positions.proofs.Positions.put_byte.Goals.{then-at-all, else-at-all}

pub returns-clause-put : goal.returns-clause-put
returns-clause-put c =
    elim c.if-at-all.branch [
      | then-at-all w ↦ rw w.out-is (put_ahead _ _ _ _ 8 _ (few_places c.args.byte) (omega arith) (omega arith) w.write_places.ensures)
      | else-at-all w ↦ rw w.out-is
          (put_ahead _ _ _ _ c.ones_of-many.result _ (omega arith) (omega arith) (omega arith) w.write_places-else-at-all.ensures)
    ]
