-- The body of a register's file: the bytes of its codes, slice after slice. Assumes nothing.
use Rattle.std.specs.Prelude.{ℕ, length}
use mathlib.Core.List.{List, map, flatten}
use Rattle.basis.specs.Lists.{below}
use Rattle.codes.specs.Width.{slices_of}
use Rattle.codes.specs.Bytes.{byte_of}
use Rattle.table.specs.Table.{width_of, code_of}

module _ (rows : ℕ) (widths codes : List ℕ) where
  -- a slice of a column: its byte of every row, in row order
  unfoldable pub slice_of : ℕ → ℕ → List ℕ
  slice_of column slice = map (λ row. byte_of (width_of widths column) (code_of widths codes row column) slice) (below rows)

  -- a column: its slices in their order
  unfoldable pub column_of : ℕ → List ℕ
  column_of column = flatten (map (slice_of column) (below (slices_of (width_of widths column))))

  -- the body: the slices of column 0, then of column 1, and so on
  unfoldable pub body_of : List ℕ
  body_of = flatten (map column_of (below (length widths)))
