-- `positions::Positions::put_word` meets its contract: each turn passes the zeros in front and puts the byte behind them.
-- Assumes nothing.
use Rattle.std.proofs.Common.{◌*◌, ◌/◌, refl, arith}
use lib.Count.{count_trailing_zeros}
use Rattle.positions.proofs.ByteOfWord.{NextByte, next_byte, room_for_byte, byte_passed, all_passed}
use Rattle.positions.proofs.Positions.put_word.Goals as goal
use Rattle.positions.proofs.Positions.put_word.Goals.{In-loop-rest}

-- the byte of a turn
byte_of_turn : (c : In-loop-rest) → NextByte c.loop-rest.rest c.loop-rest.passed (count_trailing_zeros 64 c.loop-rest.rest / 8 * 8)
byte_of_turn c =
    let so_far = c.loop-rest.invariant in
    next_byte _ _ _ (omega arith) so_far.small so_far.by_bytes so_far.within refl

pub put_byte-next-requires : goal.put_byte-next-requires
put_byte-next-requires c =
    let turn = c.loop-rest in
    let byte = byte_of_turn (goal.at.put_byte-next-requires c).In-loop-rest in
    record {
      low = omega (arith, byte.fits);
      room = omega (arith, room_for_byte turn.invariant byte, c.requires.room);
      inside = omega (arith, c.requires.inside, turn.invariant.same_length);
    }

pub loop-rest-preserved : goal.loop-rest-preserved
loop-rest-preserved c =
    let put = c.put_byte-next.ensures in
    rw put.next (byte_passed c.loop-rest.invariant (byte_of_turn (goal.at.loop-rest-preserved c).In-loop-rest) put.put)

pub returns : goal.returns
returns c = all_passed c.loop-rest.invariant (omega arith)
