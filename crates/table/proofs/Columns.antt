-- Going through columns and rows that fit: how many slices have been passed, and which code comes next. Assumes nothing.
--   Counted              the slices of the columns passed, counted, and few
--   none_counted         at first
--   one_more_counted     after one more column
--   narrow               a width that fits is at most the widest
--   code_there           the code of a row in a column stands among the codes
--   code_below           and is below 2^k
--   stored_small         so its stored number is below 2^32
use Prim.Native.Nat.{ℕ, ◌+◌, ◌*◌, ◌^◌, ◌≤◌, ◌<◌}
use native.Mathlib.Omega.{arith}
use native.Mathlib.Numerals.{add-one}
use mathlib.Core.Path.{◌≡◌, refl}
use mathlib.Core.List.{List}
use lib.Arith.{digits_lt, digits_mod}
use lib.ListN.{length}
use Rattle.basis.proofs.Numbers.{four_bytes_lem}
use Rattle.limits.specs.Limits.{widest, most_slices, four_bytes}
use Rattle.codes.specs.Width.{slices_of}
use Rattle.codes.specs.Bytes.{stored_of}
use Rattle.codes.proofs.Width.{unfit_false, few_slices_of, below_the_limit}
use Rattle.codes.proofs.RoundTrip.{stored_below}
use Rattle.directory.specs.Layout.{slices_before}
use Rattle.directory.proofs.Entries.{one_more_column}
use Rattle.table.specs.Table.{width_of, code_of, FitWidths, FitCodes}

pub record Counted (widths : List ℕ) (slices column : ℕ) : Type 0 where
  pub within : column ≤ length widths
  pub counted : slices ≡ slices_before (width_of widths) column
  pub few : slices ≤ most_slices * column

pub none_counted : (widths : List ℕ) → Counted widths 0 0
unfolding slices_before
none_counted widths = record { within = omega arith; counted = refl; few = omega arith }

pub narrow : (widths : List ℕ) → FitWidths widths → (column : ℕ) → column < length widths → width_of widths column ≤ widest
narrow widths fit column there = (unfit_false (width_of widths column) (fit.each column there)).1

pub one_more_counted : (widths : List ℕ) → FitWidths widths → (slices column more : ℕ) → Counted widths slices column →
    column < length widths → more ≡ slices_of (width_of widths column) → Counted widths (slices + more) (column + 1)
one_more_counted widths fit slices column more before there same =
    let at_most = few_slices_of (width_of widths column) (narrow widths fit column there) in
    record {
      within = omega arith;
      counted = rw (add-one, one_more_column (width_of widths) column) (omega (arith, before.counted));
      few = omega (arith, before.few);
    }

module _ (rows : ℕ) (widths codes : List ℕ) (fit : FitCodes rows widths codes) (row column : ℕ) (row_there : row < rows)
    (column_there : column < length widths) where
  pub code_there : row * length widths + column < length codes
  code_there = rw fit.full (digits_lt row_there column_there)

  pub code_below : code_of widths codes row column < 2 ^ width_of widths column
  code_below =
      let own = digits_mod row column_there in
      below_the_limit (width_of widths column) _ (rw own at (fit.each (row * length widths + column) code_there))

  pub stored_small : FitWidths widths → stored_of (width_of widths column) (code_of widths codes row column) < four_bytes
  stored_small fit_widths =
      let width = width_of widths column in
      let four = few_slices_of width (narrow widths fit_widths column column_there) in
      four_bytes_lem (slices_of width) _ four (stored_below width _ code_below)
