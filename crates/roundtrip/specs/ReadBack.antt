-- A register read back from a file: the widths of its columns, and its codes row after row. Assumes nothing.
use Rattle.std.specs.Prelude.{ℕ, ◌*◌, ◌/◌, ◌%◌, List, map}
use Rattle.basis.specs.Lists.{below}
use Rattle.directory.specs.File.{rows_in, columns_in, width_in}
use Rattle.register.specs.Cells.{code_at}

-- the width of each column
abbrev pub widths_in : List ℕ → List ℕ
widths_in file = map (width_in file) (below (columns_in file))

-- the code of each row in each column: the one at place i is of row i / columns and column i mod columns
abbrev pub codes_in : List ℕ → List ℕ
codes_in file = map (λ i. code_at file (i % columns_in file) (i / columns_in file)) (below (rows_in file * columns_in file))
