-- Counts and matches as a loop over the segments adds them up. Of any kind of test. Assumes nothing.
--   count_by_segment      a test's count is the sum of what it counts in segment 0, 1, ..
--   matches_by_segment    the number of matches is the sum of the rows found in segment 0, 1, ..
use Prim.Native.Nat.{ℕ, ◌<◌}
use mathlib.Core.Path.{◌≡◌, ◌∙◌}
use mathlib.Core.List.{List}
use mathlib.Core.Bool.{cond}
use Rattle.basis.specs.Lists.{sum, below}
use Rattle.schedule.specs.Machine.{Machine}
use Rattle.schedule.specs.Segments.{segment_count, segment, segments}
use Rattle.schedule.specs.Schedule.{Bytes, count_in, count, found, matches}
use Rattle.schedule.proofs.Numbered.{over_segments}
use Rattle.schedule.proofs.Segments.{sum_by_segments}

module _ {Test : Type 0} (M : Machine Test) (R : Bytes Test) (q : List Test) (size rows : ℕ) where
  pub count_by_segment : (t : Test) →
      count M R q t (segments size rows) ≡ sum (λ i. count_in M R q t (segment size rows i)) (below (segment_count size rows))
  unfolding count
  count_by_segment t = over_segments (count_in M R q t) size rows

  pub matches_by_segment : 0 < size →
      matches M R q rows
      ≡ sum (λ i. sum (λ row. cond (found M R q row) 1 0) (segment size rows i)) (below (segment_count size rows))
  unfolding matches
  matches_by_segment some =
      sum_by_segments size rows some (λ row. cond (found M R q row) 1 0)
      ∙ over_segments (sum (λ row. cond (found M R q row) 1 0)) size rows
