-- The segments by their numbers: how many there are, which rows each holds. Assumes nothing.
--   length_segments, segment_at    the list of segments: how many, and which stands where
--   segments_hold, in_segments     its members are the segments
--   over_segments                  a sum over it, by the segments' numbers
--   segment_is_run                 a segment's rows are consecutive
--   length_segment, full_segment   a segment has `size` rows, but the last may have fewer
--   in_segment                     what lies in a segment is a row, and from where to where
--   segment_starts                 there is an i-th segment exactly when i × size is a row
--   joined_from                    the segments from the i-th on, joined, are a run of rows
use Prim.Native.Nat.{ℕ, zero, suc, ◌+◌, ◌-◌, ◌*◌, ◌≤◌, ◌<◌, min}
use native.Mathlib.Omega.{arith}
use native.Mathlib.Nat.{suc-mul, le-div_iff_mul-le}
use mathlib.Core.Path.{◌≡◌, refl, ap, ◌∙◌}
use mathlib.Core.Logic.{◌↔◌}
use mathlib.Core.List.Memᴰ
use mathlib.Core.List.{List, [], ◌++◌, map, flatten}
use lib.ListN.{length, get_or, length-map}
use Rattle.basis.specs.Lists.{sum, run, below}
use Rattle.basis.proofs.Lists.{length_run}
use Rattle.basis.proofs.Members.{◌∈◌, sum_mapped}
use Rattle.basis.proofs.Runs.{in_run, in_below, below_holds, run_cut, mapped_at}
use Rattle.schedule.specs.Segments.{segment_count, segment, segments}

pub length_segments : (size rows : ℕ) → length (segments size rows) ≡ segment_count size rows
unfolding segments
length_segments size rows =
    length-map (below (segment_count size rows)) (segment size rows) ∙ length_run 0 (segment_count size rows)

pub segment_at : (size rows i : ℕ) → i < segment_count size rows → get_or (segments size rows) i [] ≡ segment size rows i
unfolding segments
segment_at size rows i h = mapped_at (segment size rows) (segment_count size rows) i [] h

pub segments_hold : (size rows i : ℕ) → i < segment_count size rows → segment size rows i ∈ segments size rows
unfolding segments
segments_hold size rows i h = Memᴰ.map (segment size rows) (below_holds (segment_count size rows) i h)

pub in_segments : (size rows : ℕ) (seg : List ℕ) → seg ∈ segments size rows →
    (i : ℕ) × (i < segment_count size rows) × (segment size rows i ≡ seg)
unfolding segments
in_segments size rows seg m =
    let from = Memᴰ.of_map (segment size rows) (below (segment_count size rows)) m in
    (from.0, in_below (segment_count size rows) from.0 from.1, from.2)

pub segment_is_run : (size rows i : ℕ) → segment size rows i ≡ run (i * size) (min size (rows - i * size))
unfolding segment
segment_is_run size rows i = refl

pub length_segment : (size rows i : ℕ) → length (segment size rows i) ≡ min size (rows - i * size)
unfolding segment
length_segment size rows i = length_run (i * size) (min size (rows - i * size))

pub in_segment : (size rows i row : ℕ) → row ∈ segment size rows i → (i * size ≤ row) × (row < i * size + size) × (row < rows)
unfolding segment
in_segment size rows i row m = let bounds = in_run (i * size) (min size (rows - i * size)) row m in omega arith

pub over_segments : (f : List ℕ → ℕ) (size rows : ℕ) →
    sum f (segments size rows) ≡ sum (λ i. f (segment size rows i)) (below (segment_count size rows))
unfolding segments
over_segments f size rows = sum_mapped f (segment size rows) (below (segment_count size rows))

module _ (size rows : ℕ) (some : 0 < size) where
  pub segment_starts : (i : ℕ) → (i < segment_count size rows) ↔ (i * size < rows)
  unfolding segment_count
  segment_starts i =
      let counted = le-div_iff_mul-le {k = size} {x = suc i} {y = rows + (size - 1)} some in
      (λ h. omega (arith, rw suc-mul at (counted.0 h)), λ h. counted.1 (rw suc-mul (omega arith)))

  pub full_segment : (i : ℕ) → suc i < segment_count size rows → length (segment size rows i) ≡ size
  full_segment i h =
      rw (length_segment size rows i) (omega (arith, rw suc-mul at ((segment_starts (suc i)).0 h)))

  -- the rows of the segments from the i-th on, n of them
  pub joined_from : (i n : ℕ) → flatten (map (segment size rows) (run i n)) ≡ run (i * size) (min (n * size) (rows - i * size))
  unfolding flatten segment
  joined_from i zero =
      let none : min (0 * size) (rows - i * size) ≡ 0 = omega arith in
      rw none
  joined_from i (suc n) =
      let left : rows - (i * size + size) ≡ rows - i * size - size = omega arith in
      let long : size + n * size ≡ n * size + size = omega arith in
      ap (λ rest. segment size rows i ++ rest) (joined_from (suc i) n)
      ∙ rw (suc-mul i size, suc-mul n size, left, ← long) (run_cut (i * size) size (rows - i * size) (n * size))
