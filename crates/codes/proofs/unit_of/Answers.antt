-- `codes::unit_of` meets its contract: it shifts by the pad, which is below 8, so that nothing is lost. Assumes nothing.
use mathlib.Core.Path.{◌∙◌}
use native.Mathlib.Omega.{arith}
use native.Mathlib.Nat.{one-mul}
use lib.Dec.{lit<}
use lib.Pow.{shl_exact}
use Rattle.codes.specs.Width.{slices_of, pad_of}
use Rattle.codes.proofs.Width.{pad_below_eight, width_and_pad}
use Rattle.codes.proofs.unit_of.Goals as goal

pub overflow_mul-pad : goal.overflow_mul-pad
unfolding slices_of
overflow_mul-pad c = omega arith

pub overflow_sub-pad : goal.overflow_sub-pad
overflow_sub-pad c = omega (arith, width_and_pad c.args.width)

pub overflow_shl-result : goal.overflow_shl-result
unfolding slices_of
overflow_shl-result c = omega arith

pub returns : goal.returns
unfolding pad_of
returns c =
    let width = c.args.width in
    rw (c.slices_of.ensures, c.from.ensures) (shl_exact 1 (pad_of width) 64 (lit< tt) (omega (arith, pad_below_eight width)) ∙ one-mul _)
