-- What scanning a segment may rely on, and what it answers. Assumes nothing.
use Rattle.std.specs.Prelude.{ℕ, ◌+◌, ◌^◌, ◌≤◌, ◌<◌, ◌≡◌, List, [], cond, length, get_or}
use Rattle.basis.specs.Lists.{run}
use Rattle.limits.specs.Limits.{widest, most_tests, longest_segment}
use Rattle.codes.specs.Width.{slices_of}
use Rattle.codes.specs.Bytes.{byte_of}
use Rattle.codes.specs.Pad.{high_of}
use Rattle.directory.specs.File.{width_in, offset_in}
use Rattle.register.specs.declared.Shape.{Shape}
use Rattle.query.specs.declared.Test.{Test}
use Rattle.query.specs.declared.Query.{Query}
use Rattle.asking.specs.Judged.{Judged}
use Rattle.query.specs.Tests.{literal_of, test_at}
use Rattle.schedule.specs.Schedule.{count_in, found}
use Rattle.schedule.specs.Comparisons.{comparing}
use Rattle.segment.specs.declared.Bounds.{Bounds}
use Rattle.segment.specs.declared.Column.{Column}
use Rattle.segment.specs.declared.Plan.{Plan}
use Rattle.segment.specs.declared.Segment.{Segment}
use Rattle.asking.specs.AtFile.{widened, tests_in, bytes_in}

-- a literal that fits its column
pub record FitLiteral (width literal : ℕ) : Type 0 where
  pub narrow : width ≤ widest
  pub small : literal < 2 ^ width

-- and a slice of that column
pub record LiteralSlice (width literal slice : ℕ) : Type 0 where
  pub fit : FitLiteral width literal
  pub there : slice < slices_of width

-- the bounds in a slice, and the column of a test; past the last all is 0
abbrev pub no_bounds : Bounds
no_bounds = record { low = 0; high = 0 }

abbrev pub bounds_at : List Bounds → ℕ → Bounds
bounds_at bounds j = get_or bounds j no_bounds

abbrev pub no_column : Column
no_column = record { offset = 0; slices = 0; bounds = [] }

abbrev pub column_at : Plan → ℕ → Column
column_at plan t = get_or plan.columns t no_column

-- the low and the high byte of a literal stand there, in each of so many slices
pub record BytesPlanned (width literal slices : ℕ) (bounds : List Bounds) : Type 0 where
  pub from_low : (j : ℕ) → j < slices → (bounds_at bounds j).low ≡ byte_of width literal j
  pub to_high : (j : ℕ) → j < slices → (bounds_at bounds j).high ≡ high_of width j (byte_of width literal j)

-- where a column starts, its slices, and the bytes of the literal in each
pub record ColumnPlanned (width literal offset : ℕ) (column : Column) : Type 0 where
  pub at_offset : column.offset ≡ offset
  pub so_many : column.slices ≡ slices_of width
  pub bytes : BytesPlanned width literal (slices_of width) column.bounds

-- the plan of a query: where each test's column starts, its slices, and the literal's low and high bytes
pub record Planned (file : List ℕ) (tests : List Test) (count : ℕ) (plan : Plan) : Type 0 where
  pub columns : (t : ℕ) → t < count →
      ColumnPlanned (width_in file (test_at tests t).column) (literal_of (test_at tests t).comparison)
      (offset_in file (test_at tests t).column) (column_at plan t)

-- a segment of a judged file: n rows from the first on, at most 64
pub record SegmentFit (file : List ℕ) (shape : Shape) (first n : ℕ) (query : Query) : Type 0 where
  pub judged : Judged file shape query
  pub short : n ≤ longest_segment
  pub within : first + n ≤ shape.rows

-- such a segment, and a plan to scan it by. That the tests counted have a slot each is so of every query that was judged, as there are
-- as many slots as tests at most; of a query that is lent it has to be said
pub record SegmentPlanned (file : List ℕ) (shape : Shape) (first n : ℕ) (query : Query) (plan : Plan) : Type 0 where
  pub fit : SegmentFit file shape first n query
  pub slots : query.count ≤ length query.tests
  pub planned : Planned file query.tests query.count plan

-- a segment scanned: 1 for each row found and 0 for every other place; each test's count, and 0 after the last
pub record SegmentScanned (file : List ℕ) (query : Query) (first n : ℕ) (segment : Segment) : Type 0 where
  pub rows_found : (k : ℕ) → k < n →
      get_or segment.found k 0 ≡ cond (found comparing (bytes_in file) (tests_in file query) (first + k)) 1 0
  pub rest : (k : ℕ) → n ≤ k → get_or segment.found k 0 ≡ 0
  pub counted : (t : ℕ) → t < query.count →
      get_or segment.counts t 0 ≡
      count_in comparing (bytes_in file) (tests_in file query) (widened file (test_at query.tests t)) (run first n)
  pub after : (t : ℕ) → query.count ≤ t → get_or segment.counts t 0 ≡ 0
  pub whole : (length segment.found ≡ longest_segment) × (length segment.counts ≡ most_tests)
