-- The bytes of a segment in one slice of a test's column: where they stand in the file. Assumes nothing.
--   segment_fits       a segment of a judged file is fit work
--   rows_are           the rows of a judged file
--   part_within        the bytes lie in the file
--   part_long, part_byte    so many of them, and which each is
use Prim.Native.Nat.{ℕ, ◌+◌, ◌-◌, ◌*◌, ◌≤◌, ◌<◌}
use native.Mathlib.Omega.{arith}
use mathlib.Core.Path.{◌≡◌}
use mathlib.Core.List.{List}
use lib.ListN.{length, get_or, take, drop, length-take, length-drop}
use lib.Seq.{get_or-take, get_or-drop}
use Rattle.codes.specs.Width.{slices_of}
use Rattle.codes.proofs.Width.{below_the_limit}
use Rattle.limits.specs.Limits.{widest}
use Rattle.register.specs.declared.Shape.{Shape}
use Rattle.directory.specs.File.{rows_in, width_in, offset_in}
use Rattle.register.specs.Cells.{byte_at}
use Rattle.register.proofs.Fit.{rows_as_opened, width_as_opened}
use Rattle.register.proofs.Body.{byte_as_opened}
use Rattle.query.specs.declared.Query.{Query}
use Rattle.query.specs.Tests.{test_at}
use Rattle.segment.specs.Steps.{SegmentFit}
use Rattle.segment.proofs.Work.{FitWork}

module _ {file : List ℕ} {shape : Shape} {first n : ℕ} {query : Query} (fit : SegmentFit file shape first n query) where
  -- the rows of the file
  rows_are : shape.rows ≡ rows_in file
  rows_are = rows_as_opened file shape fit.judged.opened

  -- each test's column has a width that fits
  width_fits : (t : ℕ) → t < query.count →
      (0 < width_in file (test_at query.tests t).column) × (width_in file (test_at query.tests t).column ≤ widest)
  width_fits t h = width_as_opened file shape fit.judged.opened (test_at query.tests t).column (fit.judged.columns t h)

  -- so the work on it is fit
  pub segment_fits : query.count ≤ length query.tests → FitWork (record { file = file; query = query; first = first; n = n })
  segment_fits there =
      record {
        few = fit.judged.few;
        there = there;
        short = fit.short;
        some = λ t h. (width_fits t h).0;
        narrow = λ t h. (width_fits t h).1;
        literals = λ t h. below_the_limit _ _ (fit.judged.literals t h);
      }

  -- the segment's bytes of a slice lie in the file
  pub part_within : (t j : ℕ) → t < query.count → j < slices_of (width_in file (test_at query.tests t).column) → 0 < n →
      offset_in file (test_at query.tests t).column + j * shape.rows + first + n ≤ length file
  part_within t j h within some =
      let last : first + (n - 1) < shape.rows = omega (arith, fit.within) in
      omega (
        arith,
        byte_as_opened file shape fit.judged.opened (test_at query.tests t).column j (first + (n - 1)) (fit.judged.columns t h) within last,
      )

  -- each of them is a row's byte
  pub part_byte : (t j from k : ℕ) → from ≡ offset_in file (test_at query.tests t).column + j * shape.rows + first → k < n →
      get_or (take (from + n - from) (drop from file)) k 0 ≡ byte_at file (test_at query.tests t).column j (first + k)
  unfolding byte_at
  part_byte t j from k here h =
      let within : k < from + n - from = omega arith in
      let place : from + k ≡ offset_in file (test_at query.tests t).column + j * shape.rows + (first + k) = omega arith in
      rw (get_or-take, get_or-drop, place, rows_are)

-- so many of them
pub part_long : (file : List ℕ) (from n : ℕ) → from + n ≤ length file → length (take (from + n - from) (drop from file)) ≡ n
part_long file from n h = simp (length-take, length-drop) (omega arith)
