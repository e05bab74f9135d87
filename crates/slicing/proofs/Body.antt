-- Where a slice stands in a body, and which byte a row has there. Assumes nothing.
--   slice_in_body    the slices of the columns before it, and its column's slices before it, stand in front of it
--   byte_of_slice    where a slice stands in a list, each row has the byte of its code
--   byte_in_body     so the byte of a row in a slice of the body
use Prim.Native.Nat.{ℕ, ◌+◌, ◌*◌, ◌<◌}
use native.Mathlib.Nat.{mul-add}
use mathlib.Core.Path.{◌≡◌, ◌∙◌}
use mathlib.Core.List.{List}
use lib.ListN.{length, get_or}
use Rattle.basis.proofs.Runs.{mapped_at}
use Rattle.codes.specs.Width.{slices_of}
use Rattle.codes.specs.Bytes.{byte_of}
use Rattle.directory.specs.Layout.{slices_before, bytes_before}
use Rattle.table.specs.Table.{width_of, code_of}
use Rattle.slicing.specs.Body.{slice_of, column_of, body_of}
use Rattle.slicing.proofs.Lengths.{length_slice_of, length_slices, length_columns}
use Rattle.slicing.proofs.Parts.{PartAt, part_of_part, element_of_part}
use Rattle.slicing.proofs.Joined.{joined_part}

module _ (rows : ℕ) (widths codes : List ℕ) (column slice : ℕ) where
  pub slice_in_body : column < length widths → slice < slices_of (width_of widths column) →
      PartAt (body_of rows widths codes) (bytes_before rows (width_of widths) column + rows * slice)
      (slice_of rows widths codes column slice)
  unfolding body_of column_of
  slice_in_body column_there slice-there =
      let before-column = length_columns rows widths codes column in
      let before-slice = length_slices rows widths codes column slice in
      let its-column = joined_part (column_of rows widths codes) column (length widths) _ column_there before-column in
      let in-column = joined_part (slice_of rows widths codes column) slice _ _ slice-there before-slice in
      part_of_part its-column in-column

  pub byte_of_slice : {whole : List ℕ} {at : ℕ} (row : ℕ) → row < rows → PartAt whole at (slice_of rows widths codes column slice) →
      get_or whole (at + row) 0 ≡ byte_of (width_of widths column) (code_of widths codes row column) slice
  unfolding slice_of
  byte_of_slice row there part =
      let inside : row < length (slice_of rows widths codes column slice) = rw length_slice_of there in
      element_of_part row 0 inside part
      ∙ mapped_at (λ r. byte_of (width_of widths column) (code_of widths codes r column) slice) rows row 0 there

  pub byte_in_body : (row : ℕ) → column < length widths → slice < slices_of (width_of widths column) → row < rows →
      get_or (body_of rows widths codes) (rows * (slices_before (width_of widths) column + slice) + row) 0 ≡
      byte_of (width_of widths column) (code_of widths codes row column) slice
  byte_in_body row column_there slice-there row_there =
      rw (mul-add rows (slices_before (width_of widths) column) slice)
      (byte_of_slice row row_there (slice_in_body column_there slice-there))
