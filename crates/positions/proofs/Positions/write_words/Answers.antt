-- `positions::Positions::write_words` meets its contract: each turn writes the rows of eight bytes more, and the last step those of
-- the bytes left. Assumes nothing.
use Rattle.std.proofs.Common.{arith}
use Rattle.bits.proofs.Words.{room_for_word}
use Rattle.positions.proofs.Written.{none_written}
use Rattle.positions.proofs.Positions.write_words.Goals as goal

pub loop-w-init : goal.loop-w-init
loop-w-init c = none_written _ _ _

pub put_word-at-requires : goal.put_word-at-requires
put_word-at-requires c =
    let turn = c.loop-w in
    let room = room_for_word c.word_at-word.ensures c.args.all (omega arith) (omega arith) in
    record {
      low = omega arith;
      room = omega (arith, room, turn.invariant.counted);
      inside = omega (arith, c.requires.room, turn.invariant.same_length);
    }
