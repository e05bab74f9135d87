-- One register, one file. Assumes nothing.
--   one_file          registers with the same file have the same rows, widths and codes
--   different_files   registers that differ in one of them have different files
use Prim.Native.Nat.{ℕ}
use mathlib.Core.Path.{◌≡◌, sym, ap, ◌∙◌}
use mathlib.Core.Logic.{◌⊎◌, inl, inr}
use mathlib.Core.List.{List}
use Rattle.directory.specs.File.{rows_in}
use Rattle.filing.specs.Layout.{file_of}
use Rattle.table.specs.Table.{FitWidths, FitCodes}
use Rattle.roundtrip.specs.ReadBack.{widths_in, codes_in}
use Rattle.roundtrip.proofs.WrittenTrailer.{written_rows}
use Rattle.roundtrip.proofs.ReadBack.{widths_read_back, codes_read_back}

module _ (rows : ℕ) (widths codes : List ℕ) (fit_widths : FitWidths widths) (fit_codes : FitCodes rows widths codes)
    (rows' : ℕ) (widths' codes' : List ℕ) (fit-widths' : FitWidths widths') (fit-codes' : FitCodes rows' widths' codes') where
  -- the same file comes from the same register alone
  pub one_file : file_of rows widths codes ≡ file_of rows' widths' codes' → (rows ≡ rows') × (widths ≡ widths') × (codes ≡ codes')
  one_file same = (
    sym (written_rows rows widths codes fit_widths fit_codes)
        ∙ ap rows_in same
        ∙ written_rows rows' widths' codes' fit-widths' fit-codes',
    sym (widths_read_back rows widths codes fit_widths fit_codes)
        ∙ ap widths_in same
        ∙ widths_read_back rows' widths' codes' fit-widths' fit-codes',
    sym (codes_read_back rows widths codes fit_widths fit_codes)
        ∙ ap codes_in same
        ∙ codes_read_back rows' widths' codes' fit-widths' fit-codes',
  )

  -- two registers that differ in rows, widths or codes have different files
  pub different_files : (rows ≡ rows' → ⊥) ⊎ ((widths ≡ widths' → ⊥) ⊎ (codes ≡ codes' → ⊥)) →
      file_of rows widths codes ≡ file_of rows' widths' codes' → ⊥
  different_files (inl rows-differ) same = rows-differ (one_file same).0
  different_files (inr (inl widths-differ)) same = widths-differ (one_file same).1
  different_files (inr (inr codes-differ)) same = codes-differ (one_file same).2
