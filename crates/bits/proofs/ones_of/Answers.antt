-- `bits::ones_of` meets its contract: the machine's count of a number's bits. Assumes nothing.
use Rattle.std.proofs.Common.{arith}
use Rattle.bits.proofs.SetBits.{bits_counted}
use Rattle.bits.proofs.ones_of.Goals as goal

pub returns : goal.returns
returns c = bits_counted 8 c.args.byte (omega arith)
