-- One test takes one slice of a segment: where its bytes are by the plan, and what they make of the standings. Assumes nothing.
--   has_slice        by the plan a test has a slice exactly as its column has
--   bytes_within     the segment's bytes of that slice lie in the file
--   steps_right      a row's byte takes its kept standing on
use Prim.Native.Nat.{ℕ, ◌+◌, ◌-◌, ◌*◌, ◌≤◌, ◌<◌}
use native.Mathlib.Omega.{arith}
use mathlib.Core.Path.{◌≡◌, sym, ap, ◌∙◌}
use mathlib.Core.List.{List}
use lib.ListN.{length, get_or, take, drop}
use Rattle.codes.specs.Width.{slices_of}
use Rattle.codes.specs.Bytes.{byte_of}
use Rattle.codes.specs.Pad.{high_of}
use Rattle.directory.specs.File.{width_in}
use Rattle.register.specs.Cells.{byte_at}
use Rattle.register.specs.declared.Shape.{Shape}
use Rattle.query.specs.declared.Query.{Query}
use Rattle.query.specs.Tests.{literal_of, test_at}
use Rattle.standings.specs.Standings.{kept, stepped_row}
use Rattle.segment.specs.Steps.{bounds_at, column_at, SegmentFit, Planned}
use Rattle.segment.specs.declared.Plan.{Plan}
use Rattle.segment.proofs.Kept.{kept_stepped}
use Rattle.segment.proofs.Work.{Work, standing_to, stands_next}
use Rattle.segment.proofs.Parts.{segment_fits, part_within, part_byte}

module _ {file : List ℕ} {shape : Shape} {first n : ℕ} {query : Query} {plan : Plan}
    (fit : SegmentFit file shape first n query) (planned : Planned file query.tests query.count plan)
    (t j : ℕ) (next : t < query.count) where
  -- slices by the plan
  pub has_slice : j < (column_at plan t).slices → j < slices_of (width_in file (test_at query.tests t).column)
  has_slice h = omega (arith, (planned.columns t next).so_many)

  -- in the file
  pub bytes_within : j < (column_at plan t).slices → 0 < n → (column_at plan t).offset + j * shape.rows + first + n ≤ length file
  bytes_within has some = rw (planned.columns t next).at_offset (part_within fit t j next (has_slice has) some)

  module _ (within : j < slices_of (width_in file (test_at query.tests t).column)) where
    -- a row's byte by the plan's low and high
    pub steps_right : query.count ≤ length query.tests → (s k : ℕ) → k < n →
        let g : Work = record { file = file; query = query; first = first; n = n } in
        let from = (column_at plan t).offset + j * shape.rows + first in
        s ≡ kept (standing_to g t j k) →
        stepped_row s (bounds_at (column_at plan t).bounds j).low (bounds_at (column_at plan t).bounds j).high
        (get_or (take (from + n - from) (drop from file)) k 0) ≡
        kept (standing_to g t (j + 1) k)
    steps_right there s k h stands =
        let g : Work = record { file = file; query = query; first = first; n = n } in
        let from = (column_at plan t).offset + j * shape.rows + first in
        let width = width_in file (test_at query.tests t).column in
        let low = byte_of width (literal_of (test_at query.tests t).comparison) j in
        let byte = byte_at file (test_at query.tests t).column j (first + k) in
        let here : from ≡ _ = ap (λ (offset : ℕ). offset + j * shape.rows + first) (planned.columns t next).at_offset in
        let bytes = (planned.columns t next).bytes in
        rw (stands, bytes.from_low j within, bytes.to_high j within, part_byte fit t j from k here h)
        (kept_stepped (standing_to g t j k) low (high_of width j low) byte
        ∙ ap kept (sym (stands_next g j k t ((segment_fits fit there).literals t next) within)))
