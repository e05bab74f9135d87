-- Looking up column c at row r of what was written gives codes[r × columns + c]. Assumes nothing.
--   written_is_found   the code of a row in a column of the file is the code that was written
use Prim.Native.Nat.{ℕ, ◌<◌}
use mathlib.Core.Path.{◌≡◌}
use mathlib.Core.List.{List}
use lib.ListN.{length}
use Rattle.codes.proofs.RoundTrip.{cut_then_joined}
use Rattle.register.specs.Cells.{code_at}
use Rattle.table.specs.Table.{width_of, code_of, FitWidths, FitCodes}
use Rattle.filing.specs.Layout.{file_of}
use Rattle.table.proofs.Columns.{code_below}
use Rattle.roundtrip.proofs.WrittenDirectory.{written_width}
use Rattle.roundtrip.proofs.WrittenBody.{written_bytes}

-- of rows, widths and codes that fit, any row and any column
pub written_is_found : (rows : ℕ) (widths codes : List ℕ) → FitWidths widths → FitCodes rows widths codes →
    (row column : ℕ) → row < rows → column < length widths →
    code_at (file_of rows widths codes) column row ≡ code_of widths codes row column
unfolding code_at
written_is_found rows widths codes fit_widths fit_codes row column row_there column_there =
    let fits = code_below rows widths codes fit_codes row column row_there column_there in
    rw (
      written_width rows widths codes fit_widths fit_codes column column_there,
      written_bytes rows widths codes fit_widths fit_codes row column row_there column_there,
    )
    (cut_then_joined (width_of widths column) (code_of widths codes row column) fits)
