-- What is written opens to the same rows and columns. Assumes nothing.
--   written_opens   opening the file of a register answers its rows and its columns
use Prim.Native.Nat.{ℕ}
use mathlib.Core.Path.{◌≡◌}
use mathlib.Core.List.{List}
use lib.ListN.{length}
use Rattle.std.specs.Prelude.{Ok}
use Rattle.register.specs.Opening.{opened_of}
use Rattle.register.proofs.Fit.{fit_is_opened}
use Rattle.filing.specs.Layout.{file_of}
use Rattle.table.specs.Table.{FitWidths, FitCodes}
use Rattle.roundtrip.proofs.WrittenTrailer.{written_rows, written_columns}
use Rattle.roundtrip.proofs.WrittenFits.{written_fits}

-- the file of rows, widths and codes that fit opens, and the answer is its number of rows and of columns
pub written_opens : (rows : ℕ) (widths codes : List ℕ) → FitWidths widths → FitCodes rows widths codes →
    opened_of (file_of rows widths codes) ≡ Ok (record { rows = rows; columns = length widths })
written_opens rows widths codes fit_widths fit_codes =
    rw (written_rows rows widths codes fit_widths fit_codes, written_columns rows widths codes fit_widths fit_codes)
    at (fit_is_opened (file_of rows widths codes) (written_fits rows widths codes fit_widths fit_codes))
