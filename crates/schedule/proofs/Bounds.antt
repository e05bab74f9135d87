-- With rows and tests, each test counts at least the number of rows and at most the rows times its slices. The lower bound is of
-- any lawful kind of test, the upper of any kind. Assumes nothing.
--   count_at_least_rows                the lower bound
--   count_at_most_rows_times_slices    the upper bound
use Prim.Native.Nat.{ℕ, ◌*◌, ◌≤◌, ◌<◌}
use mathlib.Core.List.{List}
use lib.ListN.{length}
use Rattle.basis.proofs.Members.{◌∈◌, sum_each_at_most, sum_times}
use Rattle.schedule.specs.Machine.{Machine, Lawful}
use Rattle.schedule.specs.Segments.{segments}
use Rattle.schedule.specs.Schedule.{Bytes, count_in, count}
use Rattle.schedule.proofs.InOneSegment.{counts_at_least, counts_at_most}
use Rattle.schedule.proofs.Segments.{rows_in_segments}

module _ {Test : Type 0} (M : Machine Test) (R : Bytes Test) (q : List Test) (size rows : ℕ) (some : 0 < size) where
  -- Where every test of a query has a slice, each of them counts at least the number of rows.
  pub count_at_least_rows : Lawful M → ((t : Test) → t ∈ q → 0 < M.slices t) → (t : Test) → t ∈ q →
      rows ≤ count M R q t (segments size rows)
  unfolding count
  count_at_least_rows L sliced t m =
      rw (rows_in_segments size rows some) at
      (sum_each_at_most length (count_in M R q t) (segments size rows) (λ seg i. counts_at_least M R L q sliced t (sliced t m) seg))

  -- No test counts more than the number of rows times its slices.
  pub count_at_most_rows_times_slices : (t : Test) → count M R q t (segments size rows) ≤ rows * M.slices t
  unfolding count
  count_at_most_rows_times_slices t =
      rw (sum_times length (M.slices t) (segments size rows), rows_in_segments size rows some) at
      (sum_each_at_most (count_in M R q t) (λ seg. length seg * M.slices t) (segments size rows)
      (λ seg i. counts_at_most M R q t seg))
