-- The directory of a written file says of each column what was written. Assumes nothing.
--   written_entry     a column's entry is the one that was written for it
--   written_width     in it: the column's width
--   written_offset    and where its slice 1 starts
--   written_slices    so as many slices are before a column as were written
--   written_fit       and no column is unfit
use Prim.Native.Nat.{ℕ, ◌+◌, ◌*◌, ◌^◌, ◌≤◌, ◌<◌}
use native.Mathlib.Omega.{arith}
use mathlib.Core.Path.{◌≡◌, refl, ap}
use mathlib.Core.List.{List, [], ◌∷◌}
use mathlib.Core.Bool.{false}
use lib.ListN.{length}
use borrow.Author.Tests.{eq-eqb}
use Rattle.limits.specs.Limits.{entry_bytes}
use Rattle.basis.specs.Numbers.{little, to_little, number_at}
use Rattle.basis.specs.Lists.{below}
use Rattle.basis.proofs.Members.{sum_each_same}
use Rattle.basis.proofs.Runs.{in_below}
use Rattle.codes.specs.Width.{unfit_width, slices_of}
use Rattle.directory.specs.Layout.{slices_before, bytes_before}
use Rattle.directory.specs.File.{entry_in, entry_offset, width_in, offset_in, unfit_entry, unfit_column}
use Rattle.table.specs.Table.{width_of, FitWidths, FitCodes}
use Rattle.slicing.specs.Body.{body_of}
use Rattle.filing.specs.Layout.{entry_with, directory_of, trailer_of, file_of}
use Rattle.slicing.proofs.Lengths.{length_body_of}
use Rattle.filing.proofs.Lengths.{entry_of, length_entry_with, length_entries}
use Rattle.slicing.proofs.Parts.{PartAt, part_itself, part_in_front, part_behind, part_cut, number_of_part}
use Rattle.slicing.proofs.Joined.{joined_part}
use Rattle.roundtrip.proofs.Sizes.{bytes_fit}
use Rattle.roundtrip.proofs.WrittenTrailer.{written_rows, written_directory}

-- an entry by itself
module _ (width offset : ℕ) (small : offset < 256 ^ 4) where
  entry_offset_lem : entry_offset (entry_with width offset) ≡ offset
  unfolding entry_with
  entry_offset_lem = number_of_part 4 offset small (part_behind (width ∷ 0 ∷ 0 ∷ 0 ∷ []) 4 refl (part_itself (to_little 4 offset)))

  entry_fit : unfit_width width ≡ false → unfit_entry (entry_with width offset) offset ≡ false
  unfolding unfit_entry entry_with number_at little
  entry_fit fits = rw (fits, eq-eqb (entry_offset (entry_with width offset)) offset entry_offset_lem)

module _ (rows : ℕ) (widths codes : List ℕ) (fit_widths : FitWidths widths) (fit_codes : FitCodes rows widths codes) where
  module _ (column : ℕ) (there : column < length widths) where
    -- where the entry stands
    entry_there :
        PartAt (file_of rows widths codes) (bytes_before rows (width_of widths) (length widths) + entry_bytes * column)
        (entry_of rows widths column)
    unfolding file_of directory_of
    entry_there =
        let entries = length_entries rows widths column in
        let among = joined_part (entry_of rows widths) column (length widths) (entry_bytes * column) there entries in
        part_behind (body_of rows widths codes) _ (length_body_of rows widths codes) (part_in_front (trailer_of rows widths) among)

    pub written_entry : entry_in (file_of rows widths codes) column ≡ entry_of rows widths column
    unfolding entry_in
    written_entry = rw (written_directory rows widths codes fit_widths fit_codes) (part_cut entry_bytes (length_entry_with _ _) entry_there)

    pub written_width : width_in (file_of rows widths codes) column ≡ width_of widths column
    unfolding width_in entry_with
    written_width = rw written_entry

    -- its offset is a number of four bytes
    offset_fits : bytes_before rows (width_of widths) column < 256 ^ 4
    offset_fits = bytes_fit widths fit_widths column (omega arith) rows fit_codes.few_rows

    pub written_offset : offset_in (file_of rows widths codes) column ≡ bytes_before rows (width_of widths) column
    unfolding offset_in
    written_offset = rw written_entry (entry_offset_lem (width_of widths column) _ offset_fits)

  pub written_slices : (column : ℕ) → column ≤ length widths →
      slices_before (width_in (file_of rows widths codes)) column ≡ slices_before (width_of widths) column
  unfolding slices_before
  written_slices column within =
      sum_each_same _ _ (below column)
      (λ earlier m. let h = in_below column earlier m in ap slices_of (written_width earlier (omega arith)))

  pub written_fit : (column : ℕ) → column < length widths → unfit_column (file_of rows widths codes) column ≡ false
  unfolding unfit_column
  written_fit column there =
      rw (written_entry column there, written_rows rows widths codes fit_widths fit_codes, written_slices column (omega arith))
      (entry_fit (width_of widths column) _ (offset_fits column there) (fit_widths.each column there))
