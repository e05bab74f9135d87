-- `codes::too_large` meets its contract: 2 to the power of the width is not shifted out. Assumes nothing.
use mathlib.Core.Path.{◌∙◌}
use native.Mathlib.Omega.{arith}
use native.Mathlib.Nat.{one-mul}
use lib.Dec.{lit<}
use lib.Pow.{shl_exact}
use Rattle.codes.specs.Width.{too_large}
use Rattle.codes.proofs.too_large.Goals as goal

pub returns : goal.returns
unfolding too_large
returns c = rw (shl_exact 1 c.args.width 64 (lit< tt) (omega arith) ∙ one-mul _)
