-- What is known of a register that was written: every condition of the table has been tried and does not hold. Assumes nothing.
--   widths_fit, codes_fit    the facts from the tests of widths and codes
--   accepted_is_fit          where no line answers, widths and codes fit and there is room
--   fit_is_accepted          and where they do, no line answers
use Prim.Native.Nat.{ℕ, ◌*◌, ◌%◌, ◌≤◌}
use native.Mathlib.Omega.{arith}
use mathlib.Core.Path.{◌≡◌}
use mathlib.Core.List.{List}
use mathlib.Core.Option.{none}
use lib.Dec.{eqb, ltb}
use lib.ListN.{length, get_or}
use borrow.Author.Tests.{ltb-false, eqb-true, eqb-false, not-false}
use Rattle.basis.specs.Refusals.{first_line}
use Rattle.basis.proofs.Places.{none_before_first, first_is_none}
use Rattle.basis.proofs.Refusals.{none_when_accepted, each_fails}
use Rattle.basis.proofs.Truth.{neither}
use Rattle.codes.specs.Width.{unfit_width, too_large}
use Rattle.limits.specs.Limits.{most_rows, most_columns}
use Rattle.table.specs.Table.{width_of, FitWidths, FitCodes, first_unfit_width, first_too_large}
use Rattle.filing.specs.Layout.{file_length}
use Rattle.writer.specs.Writing.{write_lines}
use Rattle.writer.proofs.Writing as writing

pub widths_fit : (widths : List ℕ) → (length widths ≡ 0 → ⊥) → length widths ≤ most_columns → length widths ≤ first_unfit_width widths →
    FitWidths widths
widths_fit widths present few fit =
    record {
      some = omega (arith, present);
      few = few;
      each = λ column h. none_before_first (λ c. unfit_width (width_of widths c)) (length widths) column (omega arith);
    }

pub codes_fit : (rows : ℕ) (widths codes : List ℕ) → rows ≤ most_rows → length codes ≡ rows * length widths →
    length codes ≤ first_too_large widths codes → FitCodes rows widths codes
codes_fit rows widths codes few full fit =
    record {
      few_rows = few;
      full = full;
      each =
          λ i h. none_before_first (λ j. too_large (width_of widths (j % length widths)) (get_or codes j 0)) (length codes) i
          (omega arith);
    }

module _ (rows : ℕ) (widths codes : List ℕ) (room : ℕ) where
  pub accepted_is_fit : first_line (write_lines rows widths codes room) ≡ none →
      FitWidths widths × FitCodes rows widths codes × (file_length rows widths ≤ room)
  unfolding write_lines
  accepted_is_fit e =
      let line = each_fails (write_lines rows widths codes room) (none_when_accepted (write_lines rows widths codes room) e) in
      let four = neither (eqb (length widths) 0) (ltb most_columns (length widths)) line.1.0 in
      let full = eqb-true (length codes) (rows * length widths) (not-false _ line.1.1.1.0) in (
        widths_fit widths (eqb-false (length widths) 0 four.0) (ltb-false most_columns (length widths) four.1)
            (ltb-false (first_unfit_width widths) (length widths) line.1.1.0),
        codes_fit rows widths codes (ltb-false most_rows rows line.0) full
            (ltb-false (first_too_large widths codes) (length codes) line.1.1.1.1.0),
        ltb-false room (file_length rows widths) line.1.1.1.1.1.0,
      )

  pub fit_is_accepted : FitWidths widths → FitCodes rows widths codes → file_length rows widths ≤ room →
      first_line (write_lines rows widths codes room) ≡ none
  fit_is_accepted fit_widths fit_codes long =
      let none_unfit = first_is_none (λ c. unfit_width (width_of widths c)) (length widths) fit_widths.each in
      let none_large =
      first_is_none (λ j. too_large (width_of widths (j % length widths)) (get_or codes j 0)) (length codes) fit_codes.each in
      let one = writing.few_rows rows widths codes room fit_codes.few_rows in
      let two = writing.few_columns rows widths codes room one (omega (arith, fit_widths.some)) fit_widths.few in
      let three = writing.all_fit rows widths codes room two (omega arith) in
      let four = writing.counted rows widths codes room three fit_codes.full in
      writing.none_answers rows widths codes room (writing.all_below rows widths codes room four (omega arith)) long
