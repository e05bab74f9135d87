-- `bits::ones_in` meets its contract: the machine's count of a number's bits. Assumes nothing.
use Rattle.std.proofs.Common.{arith}
use lib.Count.{ones-le}
use Rattle.bits.proofs.SetBits.{bits_counted}
use Rattle.bits.proofs.ones_in.Goals as goal

pub returns : goal.returns
returns c = record { counted = bits_counted 64 c.args.word (omega arith); few = ones-le 64 c.args.word (omega arith) }
