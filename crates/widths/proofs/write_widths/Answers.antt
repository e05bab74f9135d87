-- `widths::write_widths` meets its contract: the widths of the columns passed stand at the front. Assumes nothing.
use Prim.Native.Nat.{ℕ}
use native.Mathlib.Omega.{arith}
use native.Mathlib.Nat.{zero-add}
use mathlib.Core.Path.{◌≡◌, ap, ◌∙◌}
use mathlib.Core.List.{map}
use Rattle.basis.specs.Lists.{below}
use Rattle.basis.specs.Buffers.{laid}
use Rattle.basis.proofs.Buffers.{filled_element}
use Rattle.directory.specs.File.{columns_in, width_in}
use Rattle.widths.specs.Widths.{widths_of}
use Rattle.register.proofs.Fit.{columns_as_opened}
use Rattle.widths.proofs.write_widths.Goals as goal

pub loop-column-preserved : goal.loop-column-preserved
loop-column-preserved c =
    let turn = c.loop-column in
    let stored = filled_element c.args.out.now 0 (width_in c.args.register.now.file.now) turn.column turn.invariant (omega arith) in
    rw c.width.ensures (rw zero-add at stored)

pub returns : goal.returns
unfolding widths_of
returns c =
    let turn = c.loop-column in
    let register = c.args.register.now in
    let file = register.file.now in
    let all : turn.column ≡ columns_in file = omega (arith, columns_as_opened _ _ register.opened) in
    turn.invariant.filled ∙ ap (λ (n : ℕ). laid c.args.out.now 0 (map (width_in file) (below n))) all
