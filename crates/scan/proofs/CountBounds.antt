-- With tests, each test of an accepted scan counts at least the number of rows, and at most the rows times the slices of its
-- column. Assumes nothing.
--   count_at_least_rows                the lower bound
--   count_at_most_rows_times_slices    the upper bound
use Prim.Native.Nat.{ℕ, ◌*◌, ◌≤◌, ◌<◌}
use mathlib.Core.List.Memᴰ
use mathlib.Core.List.{List}
use lib.ListN.{length, get_or}
use Rattle.basis.proofs.Lists.{at_is_member}
use Rattle.basis.proofs.Members.{◌∈◌}
use Rattle.codes.specs.Width.{slices_of}
use Rattle.directory.specs.File.{rows_in, width_in}
use Rattle.query.specs.declared.Query.{Query}
use Rattle.query.specs.Tests.{empty_slot, tests_of, test_at}
use Rattle.schedule.specs.Comparisons.{ColumnTest, comparing}
use Rattle.schedule.proofs.Bounds as schedule
use Rattle.schedule.proofs.Six.{comparing_lawful}
use Rattle.asking.specs.AtFile.{widened, tests_in, bytes_in}
use Rattle.scan.specs.Answers.{scanned_of, numbers_in}
use Rattle.scan.proofs.Accepting.{Accepted, right_size, sliced, counted}

module _ (file : List ℕ) (size : ℕ) (query : Query) (room : ℕ) (yes : Accepted file size query room) (t : ℕ)
    (h : t < length (tests_of query)) where
  -- every test's column has a slice
  has_slices : (test : ColumnTest) → test ∈ tests_in file query → 0 < slices_of test.width
  has_slices test m =
      let from = Memᴰ.of_map (widened file) (tests_of query) m in
      rw (← from.2) (sliced file size query room yes from.0 from.1)

  pub count_at_least_rows : rows_in file ≤ get_or (numbers_in (scanned_of file size query room)).counts t 0
  count_at_least_rows =
      rw (counted file size query room yes t h)
      (schedule.count_at_least_rows comparing (bytes_in file) (tests_in file query) size (rows_in file) (right_size file size query room yes)
      comparing_lawful has_slices _
      (Memᴰ.map (widened file) (at_is_member (tests_of query) t empty_slot h)))

  pub count_at_most_rows_times_slices :
      get_or (numbers_in (scanned_of file size query room)).counts t 0 ≤ rows_in file * slices_of (width_in file (test_at (tests_of query) t).column)
  count_at_most_rows_times_slices =
      rw (counted file size query room yes t h)
      (schedule.count_at_most_rows_times_slices comparing (bytes_in file) (tests_in file query) size (rows_in file)
      (right_size file size query room yes)
      (widened file (test_at (tests_of query) t)))
