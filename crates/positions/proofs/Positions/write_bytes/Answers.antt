-- `positions::Positions::write_bytes` meets its contract: each turn writes the rows of one byte more. Assumes nothing.
use Rattle.std.proofs.Common.{arith}
use Rattle.bits.proofs.ByteByByte.{next_fits}
use Rattle.positions.proofs.Written.{none_written, byte_written}
use Rattle.positions.proofs.Positions.write_bytes.Goals as goal

pub loop-i-init : goal.loop-i-init
loop-i-init c = none_written _ _ _

pub put_byte-at-requires : goal.put_byte-at-requires
put_byte-at-requires c =
    let turn = c.loop-i in
    let fits = next_fits c.args.bits.now c.args.all turn.i (omega arith) (omega arith) in
    record {
      low = omega arith;
      room = omega (arith, fits, turn.invariant.counted);
      inside = omega (arith, c.requires.room, turn.invariant.same_length);
    }

pub loop-i-preserved : goal.loop-i-preserved
loop-i-preserved c =
    let put = c.put_byte-at.ensures in
    rw put.next (byte_written c.loop-i.invariant put.put)
