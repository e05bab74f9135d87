-- `sections::test_lines` meets its contract: the lines of the tests passed are written. Assumes nothing.
use Prim.Native.Nat.{ℕ, ◌*◌, ◌≤◌}
use native.Mathlib.Omega.{arith}
use mathlib.Core.Path.{ap, ap₂, ◌∙◌}
use mathlib.Core.List.{flatten}
use Rattle.codes.specs.Width.{slices_of}
use Rattle.limits.specs.Limits.{most_rows, most_slices}
use Rattle.sections.specs.Sections.{test_lines}
use Rattle.pieces.proofs.Writing.{wrote_nothing, written_then}
use Rattle.sections.proofs.OneMore.{test_more}
use Rattle.register.proofs.Fit.{rows_as_opened, few_bytes_as_opened}
use Rattle.sections.proofs.test_lines.Goals as goal

pub loop-t-init : goal.loop-t-init
unfolding test_lines flatten
loop-t-init c = (omega arith, wrote_nothing _)

pub overflow_mul-most : goal.overflow_mul-most
overflow_mul-most c =
    let register = c.args.register.now in
    let there = c.requires.columns_there _ c.loop-t-test.true in
    let bytes = few_bytes_as_opened _ _ register.opened _ there in
    let slices = c.slices_of.ensures ∙ ap slices_of c.width-width.ensures in
    let product : register.shape.rows * c.slices_of.result ≤ most_rows * most_slices = rw slices bytes in
    omega (arith, product)

pub loop-t-preserved : goal.loop-t-preserved
loop-t-preserved c =
    let turn = c.loop-t in
    let slices = c.slices_of.ensures ∙ ap slices_of c.width-width.ensures in
    let most = ap₂ (λ (a b : ℕ). a * b) (rows_as_opened _ _ c.args.register.now.opened) slices in (
      omega arith,
      rw (test_more _ _ _ turn.t) (written_then turn.invariant.1 (rw most at c.test_line.ensures.wrote)),
    )
