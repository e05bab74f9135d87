-- The directory entry by entry: cutting one out of the file, and what a fit one says. Assumes nothing.
--   entry_cut          the eight bytes from where a column's entry stands are its entry
--   unfit_by_entry    a column is unfit exactly when its entry is, for where the column is to start
--   fit_column         a fit column has a width from 1 to 32, and starts where it is to start
--   one_more_column    the slices before the next column
--   few_bytes          four slices to a column, and the limits, keep the bytes of the body few
use Prim.Native.Nat.{ℕ, suc, ◌+◌, ◌-◌, ◌*◌, ◌≤◌, ◌<◌}
use native.Mathlib.Omega.{arith}
use native.Mathlib.Nat.{mul-le-mul}
use mathlib.Core.Path.{◌≡◌}
use mathlib.Core.List.{List}
use mathlib.Core.Bool.{false, not, ◌||◌}
use lib.Dec.{eqb}
use lib.ListN.{length, take, drop, length-take, length-drop}
use borrow.Author.Tests.{eqb-true, not-false}
use Rattle.basis.proofs.Truth.{neither}
use Rattle.basis.proofs.Lists.{sum_one_more}
use Rattle.codes.specs.Width.{unfit_width, slices_of}
use Rattle.codes.proofs.Width.{unfit_false}
use Rattle.limits.specs.Limits.{most_rows, most_columns, widest, most_slices, entry_bytes}
use Rattle.directory.specs.Layout.{slices_before, bytes_before}
use Rattle.directory.specs.File.{rows_in, directory_in, entry_in, entry_width, entry_spare, entry_offset}
use Rattle.directory.specs.File.{width_in, offset_in, unfit_entry, unfit_column}

pub entry_cut : (file : List ℕ) (from column : ℕ) → from ≡ directory_in file + entry_bytes * column → from + entry_bytes ≤ length file →
    (take (from + entry_bytes - from) (drop from file) ≡ entry_in file column)
    × (length (take (from + entry_bytes - from) (drop from file)) ≡ entry_bytes)
unfolding entry_in
entry_cut file from column at fits =
    let eight : from + entry_bytes - from ≡ entry_bytes = omega arith in
    (rw (eight, at), rw (eight, length-take, length-drop) (omega arith))

pub unfit_by_entry : (file entry : List ℕ) (rows slices column : ℕ) → entry ≡ entry_in file column → rows ≡ rows_in file →
    slices ≡ slices_before (width_in file) column → unfit_entry entry (rows * slices) ≡ unfit_column file column
unfolding unfit_column
unfit_by_entry file entry rows slices column here same before = rw (here, same, before)

-- what a fit column is known by
pub record FitColumn (file : List ℕ) (column : ℕ) : Type 0 where
  pub some : 0 < width_in file column
  pub narrow : width_in file column ≤ widest
  pub starts : offset_in file column ≡ bytes_before (rows_in file) (width_in file) column

pub fit_column : (file : List ℕ) (column : ℕ) → unfit_column file column ≡ false → FitColumn file column
unfolding unfit_column unfit_entry width_in offset_in
fit_column file column fit =
    let entry = entry_in file column in
    let start = bytes_before (rows_in file) (width_in file) column in
    let apart = neither (unfit_width (entry_width entry)) (not (eqb (entry_spare entry) 0) || not (eqb (entry_offset entry) start)) fit in
    let rest = neither (not (eqb (entry_spare entry) 0)) (not (eqb (entry_offset entry) start)) apart.1 in
    let width = unfit_false (entry_width entry) apart.0 in
    record { some = width.0; narrow = width.1; starts = eqb-true (entry_offset entry) start (not-false _ rest.1) }

pub one_more_column : (width : ℕ → ℕ) (column : ℕ) →
    slices_before width (suc column) ≡ slices_before width column + slices_of (width column)
unfolding slices_before
one_more_column width column = sum_one_more (λ earlier. slices_of (width earlier)) column

pub few_bytes : (rows slices column : ℕ) → rows ≤ most_rows → slices ≤ most_slices * column → column ≤ most_columns →
    rows * slices ≤ most_rows * (most_slices * most_columns)
few_bytes rows slices column few_rows few few_columns = mul-le-mul {n₂ = most_rows} {m₂ = most_slices * most_columns} few_rows (omega arith)
