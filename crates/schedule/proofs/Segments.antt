-- The segments of one size hold the rows below a number, in order, each once. Assumes nothing.
--   segments_join       joined, the segments are the rows in order
--   row_in_segment      row r lies in segment r / size
--   row_in_segments     so every row lies in a segment
--   sum_by_segments     a sum over the rows is a sum over the segments
--   rows_in_segments    as many rows as there are
use Prim.Native.Nat.{ℕ, ◌+◌, ◌-◌, ◌*◌, ◌/◌, ◌≤◌, ◌<◌, min}
use native.Mathlib.Omega.{arith}
use native.Mathlib.Nat.{lt-div-mul-add, div-mul-le_self}
use mathlib.Core.Path.{◌≡◌, ap₂, sym, ◌∙◌}
use mathlib.Core.Logic.{◌⊎◌, inl, inr}
use mathlib.Core.List.{List, flatten}
use lib.ListN.{length}
use Rattle.basis.specs.Lists.{sum, run, below}
use Rattle.basis.proofs.Lists.{length_run}
use Rattle.basis.proofs.Members.{◌∈◌, sum_joined, sum_each_same, sum_of_ones}
use Rattle.basis.proofs.Runs.{within_or_past, run_holds}
use Rattle.schedule.specs.Segments.{segment_count, segment, segments}
use Rattle.schedule.proofs.Numbered.{segments_hold, segment_starts, joined_from}

module _ (size rows : ℕ) (some : 0 < size) where
  -- Rows are cut into segments from row 0, and none is left out or taken twice: joined, the segments are the rows in order.
  pub segments_join : flatten (segments size rows) ≡ below rows
  unfolding segments
  segments_join = joined_from size rows some 0 many ∙ ap₂ run (omega arith) (go (within_or_past (many * size) rows))
    where
      many : ℕ
      many = segment_count size rows

      go : (many * size < rows) ⊎ (rows ≤ many * size) → min (many * size) (rows - 0 * size) ≡ rows
      go (inl short) = absurd (omega (arith, (segment_starts size rows some many).1 short))
      go (inr enough) = omega arith

  -- Row r lies in segment r / size, which is one of them.
  pub row_in_segment : (row : ℕ) → row < rows → (row / size < segment_count size rows) × (row ∈ segment size rows (row / size))
  unfolding segment
  row_in_segment row h =
      let first = row / size * size in
      let from : first ≤ row = div-mul-le_self row size in
      let to : row < first + size = lt-div-mul-add {a = row} some in
      ((segment_starts size rows some (row / size)).1 (omega arith), run_holds first (min size (rows - first)) row from (omega arith))

  pub row_in_segments : (row : ℕ) → row < rows → (seg : List ℕ) × (seg ∈ segments size rows) × (row ∈ seg)
  row_in_segments row h =
      let there = row_in_segment row h in
      (segment size rows (row / size), segments_hold size rows (row / size) there.0, there.1)

  pub sum_by_segments : (f : ℕ → ℕ) → sum f (below rows) ≡ sum (sum f) (segments size rows)
  sum_by_segments f = rw (← segments_join) (sum_joined f (segments size rows))

  pub rows_in_segments : sum length (segments size rows) ≡ rows
  rows_in_segments =
      sym (sum_each_same (sum (λ row. 1)) length (segments size rows) (λ seg m. sum_of_ones seg))
      ∙ sym (sum_by_segments (λ row. 1))
      ∙ sum_of_ones (below rows)
      ∙ length_run 0 rows
