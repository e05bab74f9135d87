-- The limits on rows and columns keep every number that a file holds within its bytes. Assumes nothing.
--   few_slices    the columns before one have at most four slices each
--   bytes_fit     and their bytes make a number of four bytes
use Prim.Native.Nat.{ℕ, ◌*◌, ◌^◌, ◌≤◌, ◌<◌}
use native.Mathlib.Omega.{arith}
use mathlib.Core.List.{List}
use lib.ListN.{length}
use Rattle.basis.proofs.Lists.{sum_at_most}
use Rattle.codes.specs.Width.{slices_of}
use Rattle.codes.proofs.Width.{few_slices_of}
use Rattle.limits.specs.Limits.{most_rows, most_slices}
use Rattle.directory.specs.Layout.{slices_before, bytes_before}
use Rattle.directory.proofs.Entries.{few_bytes}
use Rattle.table.specs.Table.{width_of, FitWidths}
use Rattle.table.proofs.Columns.{narrow}

module _ (widths : List ℕ) (fit : FitWidths widths) (column : ℕ) (within : column ≤ length widths) where
  pub few_slices : slices_before (width_of widths) column ≤ most_slices * column
  unfolding slices_before
  few_slices =
      sum_at_most (λ earlier. slices_of (width_of widths earlier)) most_slices column
      (λ earlier h. few_slices_of (width_of widths earlier) (narrow widths fit earlier (omega arith)))

  pub bytes_fit : (rows : ℕ) → rows ≤ most_rows → bytes_before rows (width_of widths) column < 256 ^ 4
  bytes_fit rows few =
      let most = few_bytes rows (slices_before (width_of widths) column) column few few_slices (omega arith) in
      omega arith
