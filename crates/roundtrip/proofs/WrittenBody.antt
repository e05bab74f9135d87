-- The body of a written file holds, slice by slice, the bytes of the codes. Assumes nothing.
--   written_slice    where a slice of a column stands in the file
--   written_byte     the byte of a row in a slice is the byte of its code
--   written_bytes    so the bytes of a row in a column are the bytes of its code
--   written_pads     and their pads are 0: clearing them changes nothing
use Prim.Native.Nat.{ℕ, ◌+◌, ◌*◌, ◌<◌}
use native.Mathlib.Nat.{mul_comm}
use mathlib.Core.Path.{◌≡◌}
use mathlib.Core.List.{List}
use lib.ListN.{length}
use Rattle.codes.specs.Width.{slices_of}
use Rattle.codes.specs.Bytes.{bytes_of, byte_of}
use Rattle.codes.specs.Pad.{cleared}
use Rattle.codes.proofs.RoundTrip.{length_bytes_of}
use Rattle.codes.proofs.Pads.{bytes_of_cleared}
use Rattle.directory.specs.Layout.{bytes_before}
use Rattle.register.specs.Cells.{byte_at, bytes_at}
use Rattle.table.specs.Table.{width_of, code_of, FitWidths, FitCodes}
use Rattle.slicing.specs.Body.{slice_of}
use Rattle.filing.specs.Layout.{file_of}
use Rattle.slicing.proofs.Parts.{PartAt, part_in_front}
use Rattle.slicing.proofs.Body.{slice_in_body, byte_of_slice}
use Rattle.roundtrip.proofs.Elements.{made_of_each}
use Rattle.table.proofs.Columns.{code_below}
use Rattle.roundtrip.proofs.WrittenTrailer.{written_rows}
use Rattle.roundtrip.proofs.WrittenDirectory.{written_width, written_offset}

pub written_slice : (rows : ℕ) (widths codes : List ℕ) (column slice : ℕ) → column < length widths →
    slice < slices_of (width_of widths column) →
    PartAt (file_of rows widths codes) (bytes_before rows (width_of widths) column + rows * slice) (slice_of rows widths codes column slice)
unfolding file_of
written_slice rows widths codes column slice column_there slice-there =
    part_in_front _ (slice_in_body rows widths codes column slice column_there slice-there)

module _ (rows : ℕ) (widths codes : List ℕ) (fit_widths : FitWidths widths) (fit_codes : FitCodes rows widths codes) (row column : ℕ)
    (row_there : row < rows) (column_there : column < length widths) where
  pub written_byte : (slice : ℕ) → slice < slices_of (width_of widths column) →
      byte_at (file_of rows widths codes) column slice row ≡ byte_of (width_of widths column) (code_of widths codes row column) slice
  unfolding byte_at
  written_byte slice slice-there =
      rw (
        written_offset rows widths codes fit_widths fit_codes column column_there,
        written_rows rows widths codes fit_widths fit_codes,
        mul_comm slice rows,
      )
      (byte_of_slice rows widths codes column slice row row_there (written_slice rows widths codes column slice column_there slice-there))

  pub written_bytes : bytes_at (file_of rows widths codes) column row ≡ bytes_of (width_of widths column) (code_of widths codes row column)
  unfolding bytes_at byte_of
  written_bytes =
      rw (written_width rows widths codes fit_widths fit_codes column column_there)
      (made_of_each _ (slices_of (width_of widths column)) _ 0 (length_bytes_of _ _) written_byte)

  pub written_pads :
      cleared (width_of widths column) (bytes_at (file_of rows widths codes) column row) ≡ bytes_at (file_of rows widths codes) column row
  written_pads =
      let fits = code_below rows widths codes fit_codes row column row_there column_there in
      rw written_bytes (bytes_of_cleared (width_of widths column) (code_of widths codes row column) fits)
