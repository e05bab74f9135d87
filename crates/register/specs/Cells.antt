-- A row's bytes and its code in a column of a file, and a cell that is there in a register. Assumes nothing.
use Rattle.std.specs.Prelude.{ℕ, ◌+◌, ◌*◌, ◌<◌, List, map, get_or}
use Rattle.basis.specs.Lists.{below}
use Rattle.codes.specs.Width.{slices_of}
use Rattle.codes.specs.Bytes.{joined}
use Rattle.directory.specs.File.{rows_in, width_in, offset_in}
use Rattle.register.specs.declared.Register.{Register}

-- the byte of a row in a slice of a column, slices counted from 0
unfoldable pub byte_at : List ℕ → ℕ → ℕ → ℕ → ℕ
byte_at file column slice row = get_or file (offset_in file column + slice * rows_in file + row) 0

-- the bytes of a row in a column, slice 1 first
unfoldable pub bytes_at : List ℕ → ℕ → ℕ → List ℕ
bytes_at file column row = map (λ slice. byte_at file column slice row) (below (slices_of (width_in file column)))

-- the code of a row in a column, pad ignored
unfoldable pub code_at : List ℕ → ℕ → ℕ → ℕ
code_at file column row = joined (width_in file column) (bytes_at file column row)

-- the register has the column and the row
pub record CellThere (register : Register) (column row : ℕ) : Type 0 where
  pub column_there : column < register.shape.columns
  pub row_there : row < register.shape.rows
