-- The schedule at a file and a query: its tests with the widths of their columns, and the file's bytes. Assumes nothing.
use Rattle.std.specs.Prelude.{ℕ, List, map}
use Rattle.directory.specs.File.{rows_in, width_in}
use Rattle.register.specs.Cells.{byte_at}
use Rattle.query.specs.declared.Test.{Test}
use Rattle.query.specs.declared.Query.{Query}
use Rattle.query.specs.Tests.{tests_of}
use Rattle.schedule.specs.Segments.{segments}
use Rattle.schedule.specs.Schedule.{Bytes}
use Rattle.schedule.specs.Comparisons.{ColumnTest}

-- a test with the width that the file's directory gives its column
abbrev pub widened : List ℕ → Test → ColumnTest
widened file test = record { column = test.column; width = width_in file test.column; comparison = test.comparison }

-- the tests of a query
abbrev pub tests_in : List ℕ → Query → List ColumnTest
tests_in file query = map (widened file) (tests_of query)

-- the file as tests see it: raw bytes, pads and all
abbrev pub bytes_in : List ℕ → Bytes ColumnTest
bytes_in file test slice row = byte_at file test.column slice row

-- the rows of the file, cut into segments
abbrev pub segments_in : List ℕ → ℕ → List (List ℕ)
segments_in file size = segments size (rows_in file)
