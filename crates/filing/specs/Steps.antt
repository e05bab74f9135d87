-- What the steps of writing a file know, and what they count. Assumes nothing.
use Rattle.std.specs.Prelude.{ℕ, ◌*◌, ◌≤◌, ◌≡◌, List, length}
use Rattle.limits.specs.Limits.{most_rows, most_columns, most_slices}
use Rattle.directory.specs.Layout.{slices_before, bytes_before}
use Rattle.table.specs.Table.{width_of, FitWidths}

-- widths that a register may have, and no more rows than it may have
pub record FitShape (rows : ℕ) (widths : List ℕ) : Type 0 where
  pub fit_widths : FitWidths widths
  pub few_rows : rows ≤ most_rows

-- the slices of all columns, which are few
pub record SlicesCounted (widths : List ℕ) (slices : ℕ) : Type 0 where
  pub counted : slices ≡ slices_before (width_of widths) (length widths)
  pub few : slices ≤ most_slices * most_columns

-- their bytes, which are few
pub record BytesCounted (rows : ℕ) (widths : List ℕ) (bytes : ℕ) : Type 0 where
  pub counted : bytes ≡ bytes_before rows (width_of widths) (length widths)
  pub few : bytes ≤ most_rows * (most_slices * most_columns)
