-- All that opening asks of a file holds of a written one. Assumes nothing.
--   written_fits    the facts of a file that opens
use Prim.Native.Nat.{ℕ}
use native.Mathlib.Omega.{arith}
use mathlib.Core.List.{List}
use lib.ListN.{length}
use Rattle.register.proofs.Fit.{Fit}
use Rattle.filing.specs.Layout.{file_length, file_of}
use Rattle.table.specs.Table.{FitWidths, FitCodes}
use Rattle.filing.proofs.Lengths.{length_file_of}
use Rattle.roundtrip.proofs.WrittenTrailer.{written_rows, written_columns, written_version, written_directory, written_mark}
use Rattle.roundtrip.proofs.WrittenDirectory.{written_slices, written_fit}

pub written_fits : (rows : ℕ) (widths codes : List ℕ) → FitWidths widths → FitCodes rows widths codes → Fit (file_of rows widths codes)
unfolding file_length
written_fits rows widths codes fit_widths fit_codes =
    let same_rows = written_rows rows widths codes fit_widths fit_codes in
    let same-columns = written_columns rows widths codes fit_widths fit_codes in
    let directory = written_directory rows widths codes fit_widths fit_codes in
    let slices = written_slices rows widths codes fit_widths fit_codes (length widths) (omega arith) in
    let long = length_file_of rows widths codes in
    record {
      long = omega arith;
      marked = written_mark rows widths codes;
      version = written_version rows widths codes;
      few_rows = omega arith;
      some_columns = omega arith;
      few_columns = omega arith;
      placed = omega arith;
      each_fit = λ column there. written_fit rows widths codes fit_widths fit_codes column (rw same-columns at there);
      whole = rw (same_rows, same-columns, directory, slices);
    }
