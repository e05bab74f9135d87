-- `lines::put_cells` meets its contract: the cells of the columns passed are written. Assumes nothing.
use Prim.Native.Nat.{ℕ, ◌+◌}
use native.Mathlib.Omega.{arith}
use native.Mathlib.Numerals.{add-one}
use mathlib.Core.Path.{◌≡◌}
use mathlib.Core.List.{List, ◌∷◌, ◌++◌, flatten}
use Rattle.basis.proofs.Lists.{joined_one_more}
use Rattle.register.specs.Cells.{code_at}
use Rattle.decimals.specs.Decimals.{decimal, space}
use Rattle.lines.specs.Lines.{cells}
use Rattle.pieces.proofs.Writing.{wrote_nothing, written_then}
use Rattle.lines.proofs.put_cells.Goals as goal

-- one more cell of a row
cell_more : (file : List ℕ) (row column : ℕ) →
    cells file row (column + 1) ≡ cells file row column ++ (space ∷ decimal (code_at file column row))
unfolding cells
cell_more file row column = rw (add-one column) (joined_one_more (λ c. space ∷ decimal (code_at file c row)) column)

pub loop-column-init : goal.loop-column-init
unfolding cells flatten
loop-column-init c = (omega arith, wrote_nothing _)

pub loop-column-preserved : goal.loop-column-preserved
loop-column-preserved c =
    let turn = c.loop-column in
    let a = c.args in
    let written = rw c.code_at.ensures at c.put_cell.ensures.wrote in (
      omega (arith, c.put_cell.ensures.within),
      rw (cell_more a.register.now.file.now a.row turn.column) (written_then turn.invariant.1 written),
    )
