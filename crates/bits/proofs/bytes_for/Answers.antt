-- `bits::bytes_for` meets its contract: rows/8 rounded up. Assumes nothing.
use mathlib.Core.Path.{refl}
use Rattle.bits.specs.Bits.{bytes_for}
use Rattle.bits.proofs.bytes_for.Goals as goal

pub returns : goal.returns
unfolding bytes_for
returns c = refl
