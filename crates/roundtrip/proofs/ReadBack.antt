-- Widths and codes are read back from a written file. Assumes nothing.
--   widths_read_back   the widths that were written
--   codes_read_back    and the codes
use Prim.Native.Nat.{ℕ, ◌*◌, ◌/◌, ◌%◌, ◌<◌}
use native.Mathlib.Nat.{mod-lt, div-lt_iff_lt-mul, div-add-mod'}
use mathlib.Core.Path.{◌≡◌, refl, ap, ◌∙◌}
use mathlib.Core.List.{List}
use lib.ListN.{length, get_or}
use Rattle.register.specs.Cells.{code_at}
use Rattle.filing.specs.Layout.{file_of}
use Rattle.table.specs.Table.{FitWidths, FitCodes}
use Rattle.roundtrip.specs.ReadBack.{widths_in, codes_in}
use Rattle.roundtrip.proofs.Elements.{made_of_each}
use Rattle.roundtrip.proofs.WrittenTrailer.{written_rows, written_columns}
use Rattle.roundtrip.proofs.WrittenDirectory.{written_width}
use Rattle.roundtrip.proofs.WrittenIsFound.{written_is_found}

module _ (rows : ℕ) (widths codes : List ℕ) (fit_widths : FitWidths widths) (fit_codes : FitCodes rows widths codes) where
  pub widths_read_back : widths_in (file_of rows widths codes) ≡ widths
  widths_read_back =
      rw (written_columns rows widths codes fit_widths fit_codes)
      (made_of_each _ (length widths) widths 0 refl (written_width rows widths codes fit_widths fit_codes))

  -- the code at a place
  code_read_back : (i : ℕ) → i < rows * length widths →
      code_at (file_of rows widths codes) (i % length widths) (i / length widths) ≡ get_or codes i 0
  code_read_back i inside =
      let some : 0 < length widths = fit_widths.some in
      let row_there = (div-lt_iff_lt-mul some).1 inside in
      written_is_found rows widths codes fit_widths fit_codes (i / length widths) (i % length widths) row_there (mod-lt i some)
      ∙ ap (λ (place : ℕ). get_or codes place 0) (div-add-mod' i (length widths))

  pub codes_read_back : codes_in (file_of rows widths codes) ≡ codes
  codes_read_back =
      rw (written_rows rows widths codes fit_widths fit_codes, written_columns rows widths codes fit_widths fit_codes)
      (made_of_each _ (rows * length widths) codes 0 fit_codes.full code_read_back)
