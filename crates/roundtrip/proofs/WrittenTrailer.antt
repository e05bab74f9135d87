-- The trailer of a written file says what was written. Assumes nothing.
--   written_trailer      the last 16 bytes are the trailer
--   written_version      in it: version 1
--   written_mark         the mark
--   written_rows         the rows
--   written_columns      the columns
--   written_directory    the offset of the directory
use Prim.Native.Nat.{ℕ, ◌+◌, ◌-◌}
use native.Mathlib.Omega.{arith}
use mathlib.Core.Path.{◌≡◌, refl, ap}
use mathlib.Core.List.{List, ◌++◌, append_assoc}
use lib.ListN.{length, length-append}
use lib.Seq.{drop_at}
use Rattle.limits.specs.Limits.{trailer_bytes}
use Rattle.basis.specs.Numbers.{little, to_little, number_at}
use Rattle.basis.proofs.Numbers.{length_to_little}
use Rattle.directory.specs.Layout.{bytes_before}
use Rattle.directory.specs.File.{trailer_in, rows_in, columns_in, version_in, directory_in, mark_in, mark_bytes, mark}
use Rattle.table.specs.Table.{width_of, FitWidths, FitCodes}
use Rattle.slicing.specs.Body.{body_of}
use Rattle.filing.specs.Layout.{directory_of, trailer_with, trailer_of, file_of}
use Rattle.filing.proofs.Lengths.{length_trailer_with}
use Rattle.slicing.proofs.Parts.{PartAt, part_itself, part_first, part_behind, part_cut, number_of_part}
use Rattle.roundtrip.proofs.Sizes.{bytes_fit}

-- the numbers of a trailer, each behind those before it
module _ (rows columns directory : ℕ) where
  after_rows : {at : ℕ} {part : List ℕ} →
      PartAt (to_little 2 columns ++ (to_little 2 1 ++ (to_little 4 directory ++ mark_bytes))) at part →
      PartAt (trailer_with rows columns directory) (4 + at) part
  unfolding trailer_with
  after_rows p = part_behind (to_little 4 rows) 4 (length_to_little 4 rows) p

  after_columns : {at : ℕ} {part : List ℕ} → PartAt (to_little 2 1 ++ (to_little 4 directory ++ mark_bytes)) at part →
      PartAt (trailer_with rows columns directory) (4 + (2 + at)) part
  after_columns p = after_rows (part_behind (to_little 2 columns) 2 (length_to_little 2 columns) p)

  after_version : {at : ℕ} {part : List ℕ} → PartAt (to_little 4 directory ++ mark_bytes) at part →
      PartAt (trailer_with rows columns directory) (4 + (2 + (2 + at))) part
  after_version p = after_columns (part_behind (to_little 2 1) 2 (length_to_little 2 1) p)

module _ (rows : ℕ) (widths codes : List ℕ) where
  pub written_trailer : trailer_in (file_of rows widths codes) ≡ trailer_of rows widths
  unfolding trailer_in file_of trailer_of
  written_trailer =
      let front = body_of rows widths codes ++ directory_of rows widths in
      let last = trailer_of rows widths in
      let long : length last ≡ trailer_bytes = length_trailer_with rows (length widths) _ in
      let whole = append_assoc (body_of rows widths codes) (directory_of rows widths) last in
      let place : length front ≡ length (front ++ last) - trailer_bytes = omega (arith, length-append front last) in
      rw (← whole) (drop_at front last _ place)

  pub written_version : version_in (file_of rows widths codes) ≡ 1
  unfolding trailer_of
  written_version =
      rw written_trailer (number_of_part 2 1 (omega arith) (after_columns rows (length widths) _ (part_first (to_little 2 1) _)))

  pub written_mark : mark_in (file_of rows widths codes) ≡ mark
  unfolding trailer_of number_at mark
  written_mark =
      let directory = bytes_before rows (width_of widths) (length widths) in
      let last = part_behind (to_little 4 directory) 4 (length_to_little 4 directory) (part_itself mark_bytes) in
      rw written_trailer (ap little (part_cut 4 refl (after_version rows (length widths) directory last)))

  module _ (fit_widths : FitWidths widths) (fit_codes : FitCodes rows widths codes) where
    pub written_rows : rows_in (file_of rows widths codes) ≡ rows
    unfolding trailer_of trailer_with
    written_rows = rw written_trailer (number_of_part 4 rows (omega arith) (part_first (to_little 4 rows) _))

    pub written_columns : columns_in (file_of rows widths codes) ≡ length widths
    unfolding trailer_of
    written_columns =
        let columns = length widths in
        rw written_trailer (number_of_part 2 columns (omega arith) (after_rows rows columns _ (part_first (to_little 2 columns) _)))

    pub written_directory : directory_in (file_of rows widths codes) ≡ bytes_before rows (width_of widths) (length widths)
    unfolding trailer_of
    written_directory =
        let directory = bytes_before rows (width_of widths) (length widths) in
        let small = bytes_fit widths fit_widths (length widths) (omega arith) rows fit_codes.few_rows in
        let fourth = after_version rows (length widths) directory (part_first (to_little 4 directory) mark_bytes) in
        rw written_trailer (number_of_part 4 directory small fourth)
