-- The lines of a listing that come in runs: those of tests and those of rows. Assumes nothing.
use Rattle.std.specs.Prelude.{ℕ, ◌*◌, get_or}
use mathlib.Core.List.{List, map, flatten}
use Rattle.basis.specs.Lists.{below}
use Rattle.codes.specs.Width.{slices_of}
use Rattle.directory.specs.File.{rows_in, width_in}
use Rattle.query.specs.declared.Test.{Test}
use Rattle.query.specs.Tests.{test_at}
use Rattle.lines.specs.Lines.{test_line, row_line}

-- the line of test t: its count of so many counts, and the rows times the slices of its column
abbrev pub test_line_at : List ℕ → List Test → List ℕ → ℕ → List ℕ
test_line_at file tests counts t = test_line t (get_or counts t 0) (rows_in file * slices_of (width_in file (test_at tests t).column))

-- a line for each of the first so many tests
unfoldable pub test_lines : List ℕ → List Test → List ℕ → ℕ → List ℕ
test_lines file tests counts count = flatten (map (test_line_at file tests counts) (below count))

-- a line for each row of a list
unfoldable pub row_lines : List ℕ → List ℕ → List ℕ
row_lines file rows = flatten (map (row_line file) rows)
