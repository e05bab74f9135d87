-- How long the parts of a body are, whatever the widths and the codes. Assumes nothing.
--   length_slice_of        a slice has a byte a row
--   length_slices         so many slices of a column
--   length_column_of       a column has its slices
--   length_columns        the columns before one
--   length_body_of         the body has all of them
use Prim.Native.Nat.{ℕ, ◌*◌}
use mathlib.Core.Path.{◌≡◌, ◌∙◌}
use mathlib.Core.List.{List, map, flatten}
use lib.ListN.{length, length-map}
use Rattle.basis.specs.Lists.{below}
use Rattle.basis.proofs.Lists.{length_run, length_flatten, sum_of_same, sum_scaled}
use Rattle.codes.specs.Width.{slices_of}
use Rattle.directory.specs.Layout.{slices_before, bytes_before}
use Rattle.table.specs.Table.{width_of}
use Rattle.slicing.specs.Body.{slice_of, column_of, body_of}

module _ (rows : ℕ) (widths codes : List ℕ) where
  pub length_slice_of : (column slice : ℕ) → length (slice_of rows widths codes column slice) ≡ rows
  unfolding slice_of
  length_slice_of column slice = length-map (below rows) _ ∙ length_run 0 rows

  pub length_slices : (column n : ℕ) → length (flatten (map (slice_of rows widths codes column) (below n))) ≡ rows * n
  length_slices column n =
      length_flatten (slice_of rows widths codes column) (λ slice. rows) (length_slice_of column) n ∙ sum_of_same rows n

  pub length_column_of : (column : ℕ) → length (column_of rows widths codes column) ≡ rows * slices_of (width_of widths column)
  unfolding column_of
  length_column_of column = length_slices column (slices_of (width_of widths column))

  pub length_columns : (n : ℕ) → length (flatten (map (column_of rows widths codes) (below n))) ≡ bytes_before rows (width_of widths) n
  unfolding slices_before
  length_columns n =
      let slices : ℕ → ℕ = λ column. slices_of (width_of widths column) in
      length_flatten (column_of rows widths codes) (λ column. rows * slices column) length_column_of n ∙ sum_scaled rows slices n

  pub length_body_of : length (body_of rows widths codes) ≡ bytes_before rows (width_of widths) (length widths)
  unfolding body_of
  length_body_of = length_columns (length widths)
