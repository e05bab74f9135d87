-- Looking rows up in a written file: the reply, and what the output then holds. Assumes nothing.
--   looked_up_again   rows that are there have their codes written, one for each, in the list's order
use Prim.Native.Nat.{ℕ, ◌≤◌, ◌<◌}
use native.Mathlib.Omega.{arith}
use mathlib.Core.Path.{◌≡◌, refl, sym, ap}
use mathlib.Core.List.{List, map}
use lib.Dec.{leb}
use lib.ListN.{length, get_or}
use borrow.Author.Tests.{lt-leb}
use Rattle.basis.specs.Buffers.{laid}
use Rattle.basis.proofs.Places.{first_is_none}
use Rattle.register.specs.Cells.{code_at}
use Rattle.table.specs.Table.{code_of, FitWidths, FitCodes}
use Rattle.filing.specs.Layout.{file_of}
use Rattle.std.specs.Prelude.{Ok}
use Rattle.answers.proofs.Replies.{accepted_by}
use Rattle.lookup.specs.LookingUp.{first_missing, codes_of, looked_up_of, left_in}
use Rattle.lookup.specs.Steps.{AllBelow}
use Rattle.lookup.proofs.LookingUp.{none_answers}
use Rattle.roundtrip.proofs.Elements.{map_same}
use Rattle.roundtrip.proofs.WrittenOpens.{written_opens}
use Rattle.roundtrip.proofs.WrittenIsFound.{written_is_found}

-- rows that are all there leave none missing
none_missing : (rows : ℕ) (list : List ℕ) → AllBelow rows list → length list ≤ first_missing rows list
none_missing rows list there =
    let past = first_is_none (λ i. leb rows (get_or list i 0)) (length list) (λ i h. lt-leb rows (get_or list i 0) (there i h)) in
    omega arith

module _ (rows : ℕ) (widths codes : List ℕ) (fit_widths : FitWidths widths) (fit_codes : FitCodes rows widths codes) (column : ℕ)
    (column_there : column < length widths) (list into : List ℕ) (rows_there : AllBelow rows list) where
  -- the codes that are looked up
  same_codes : codes_of (file_of rows widths codes) column list ≡ map (λ row. code_of widths codes row column) list
  unfolding codes_of
  same_codes =
      map_same (code_at (file_of rows widths codes) column) (λ row. code_of widths codes row column) list 0
      (λ i h. written_is_found rows widths codes fit_widths fit_codes (get_or list i 0) column (rows_there i h) column_there)

  pub looked_up_again : length list ≤ length into →
      (looked_up_of (file_of rows widths codes) column list (length into) ≡ Ok (length list)) ×
      (left_in (file_of rows widths codes) column list into ≡ laid into 0 (map (λ row. code_of widths codes row column) list))
  looked_up_again room =
      let opens = written_opens rows widths codes fit_widths fit_codes in
      let present = none_missing rows list rows_there in
      let accepted = none_answers (file_of rows widths codes) column list (length into) _ opens column_there present room in
      let answered = accepted_by _ (length list) _ into accepted refl (ap (laid into 0) (sym same_codes)) in
      (sym answered.answer, sym answered.left)
