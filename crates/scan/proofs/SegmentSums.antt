-- What the segments add up to, as a loop over them counts: a test's count, no sum of which is large. Assumes nothing.
--   found_in, counted_in      whether a row is found, and what a test counts in a segment
--   counted_in_all          over enough segments the sum is the test's count
--   few_counted             over any number of segments it is at most 4 for each row
use Prim.Native.Nat.{ℕ, ◌*◌, ◌≤◌, ◌<◌}
use native.Mathlib.Omega.{arith}
use native.Mathlib.Nat.{mul-le-mul}
use mathlib.Core.Path.{◌≡◌, sym, ◌∙◌}
use mathlib.Core.Logic.{◌⊎◌, inl, inr}
use mathlib.Core.List.{List}
use mathlib.Core.Bool.{Bool}
use lib.ListN.{length}
use Rattle.basis.specs.Lists.{sum, below}
use Rattle.basis.proofs.Lists.{sum_grows}
use Rattle.basis.proofs.Runs.{within_or_past, sum_ends}
use Rattle.codes.proofs.Width.{few_slices_of}
use Rattle.directory.specs.File.{width_in}
use Rattle.limits.specs.Limits.{most_rows, widest, most_slices}
use Rattle.query.specs.declared.Query.{Query}
use Rattle.schedule.specs.Segments.{segment_count, segment, segments}
use Rattle.schedule.specs.Schedule.{count_in, count, found}
use Rattle.schedule.specs.Comparisons.{comparing}
use Rattle.schedule.proofs.Numbered.{length_segment, segment_starts}
use Rattle.schedule.proofs.InOneSegment.{counts_at_most}
use Rattle.schedule.proofs.Bounds.{count_at_most_rows_times_slices}
use Rattle.schedule.proofs.BySegment.{count_by_segment}
use Rattle.asking.specs.AtFile.{widened, tests_in, bytes_in}
use Rattle.query.specs.Tests.{test_at}

-- a row is found by the tests in the first slots
abbrev pub found_in : List ℕ → Query → ℕ → Bool
found_in file query = found comparing (bytes_in file) (tests_in file query)

-- what the test in a slot counts in a segment
abbrev pub counted_in : List ℕ → Query → ℕ → ℕ → ℕ → ℕ → ℕ
counted_in file query size rows t i =
    count_in comparing (bytes_in file) (tests_in file query) (widened file (test_at query.tests t)) (segment size rows i)

module _ (file : List ℕ) (query : Query) (size rows : ℕ) (some : 0 < size) (t : ℕ) where
  -- a segment past the last has no rows, and so counts nothing
  none_past : (i : ℕ) → segment_count size rows ≤ i → counted_in file query size rows t i ≡ 0
  none_past i past = go (within_or_past (i * size) rows)
    where
      seg : List ℕ
      seg = segment size rows i

      go : (i * size < rows) ⊎ (rows ≤ i * size) → counted_in file query size rows t i ≡ 0
      go (inl there) = absurd (omega (arith, (segment_starts size rows some i).1 there))
      go (inr beyond) =
          let none : length seg ≡ 0 = length_segment size rows i ∙ omega arith in
          let at_most = counts_at_most comparing (bytes_in file) (tests_in file query) (widened file (test_at query.tests t)) seg in
          omega (arith, rw none at at_most)

  -- by the segments there are
  all_of_them : sum (counted_in file query size rows t) (below (segment_count size rows)) ≡
      count comparing (bytes_in file) (tests_in file query) (widened file (test_at query.tests t)) (segments size rows)
  all_of_them =
      sym (count_by_segment comparing (bytes_in file) (tests_in file query) size rows (widened file (test_at query.tests t)))

  pub counted_in_all : (done : ℕ) → rows ≤ done * size →
      sum (counted_in file query size rows t) (below done) ≡
      count comparing (bytes_in file) (tests_in file query) (widened file (test_at query.tests t)) (segments size rows)
  counted_in_all done enough = go (within_or_past done (segment_count size rows))
    where
      go : (done < segment_count size rows) ⊎ (segment_count size rows ≤ done) →
          sum (counted_in file query size rows t) (below done) ≡
          count comparing (bytes_in file) (tests_in file query) (widened file (test_at query.tests t)) (segments size rows)
      go (inl short) = absurd (omega (arith, (segment_starts size rows some done).0 short))
      go (inr over) = sum_ends (counted_in file query size rows t) over none_past ∙ all_of_them

  pub few_counted : rows ≤ most_rows → width_in file (test_at query.tests t).column ≤ widest → (done : ℕ) →
      sum (counted_in file query size rows t) (below done) ≤ most_rows * most_slices
  few_counted few narrow done = go (within_or_past done (segment_count size rows))
    where
      all : sum (counted_in file query size rows t) (below (segment_count size rows)) ≤ most_rows * most_slices
      all =
          let slices = few_slices_of (width_in file (test_at query.tests t).column) narrow in
          let most = mul-le-mul {n₂ = most_rows} {m₂ = most_slices} few slices in
          omega (
            arith,
            all_of_them,
            count_at_most_rows_times_slices comparing (bytes_in file) (tests_in file query) size rows some
                (widened file (test_at query.tests t)),
          )

      go : (done < segment_count size rows) ⊎ (segment_count size rows ≤ done) →
          sum (counted_in file query size rows t) (below done) ≤ most_rows * most_slices
      go (inl short) =
          omega (arith, all, sum_grows (counted_in file query size rows t) {few = done} {many = segment_count size rows} (omega arith))
      go (inr over) = omega (arith, all, sum_ends (counted_in file query size rows t) over none_past)
