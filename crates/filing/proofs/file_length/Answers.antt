-- `filing::file_length` meets its contract: the body, and then the directory and the trailer. Assumes nothing.
use native.Mathlib.Omega.{arith}
use Rattle.filing.specs.Layout.{file_length}
use Rattle.filing.proofs.file_length.Goals as goal

pub returns : goal.returns
unfolding file_length
returns c = omega (arith, c.body_length.ensures.counted)
