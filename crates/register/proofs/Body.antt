-- Every byte that a row has in a column of an opened file lies in the file's body, before its directory. Assumes nothing.
--   among_all         the slices before a column, and its own, are among all slices
--   byte_as_opened    the byte of a slice and a row that are there stands in the file
use Prim.Native.Nat.{ℕ, suc, ◌+◌, ◌*◌, ◌≤◌, ◌<◌}
use native.Mathlib.Omega.{arith}
use native.Mathlib.Nat.{mul-le-mul_left, mul-add, mul-suc, mul_comm}
use mathlib.Core.Path.{◌≡◌}
use mathlib.Core.List.{List}
use lib.ListN.{length}
use Rattle.basis.proofs.Lists.{sum_grows}
use Rattle.codes.specs.Width.{slices_of}
use Rattle.directory.specs.Layout.{slices_before}
use Rattle.directory.specs.File.{rows_in, columns_in, directory_in, width_in, offset_in}
use Rattle.register.specs.declared.Shape.{Shape}
use Rattle.std.specs.Prelude.{Ok}
use Rattle.register.specs.Opening.{opened_of}
use Rattle.register.proofs.Fit.{Fit, opened_is_fit, rows_as_opened, columns_as_opened}
use Rattle.directory.proofs.Entries.{fit_column, one_more_column}

-- so many slices, and a row of one more, are within that many slices and one more
within_slices : (rows slices slice row : ℕ) → row < rows → suc slice ≤ slices → slice * rows + row < rows * slices
within_slices rows slices slice row h k =
    omega (arith, mul-le-mul_left rows k, mul-suc rows slice, mul_comm slice rows)

-- all slices before a column, and its own, are among the slices of the file
pub among_all : (width : ℕ → ℕ) (column columns : ℕ) → column < columns →
    slices_before width column + slices_of (width column) ≤ slices_before width columns
unfolding slices_before
among_all width column columns h =
    omega (arith, one_more_column width column, sum_grows (λ earlier. slices_of (width earlier)) h)

module _ (file : List ℕ) (fit : Fit file) (column slice row : ℕ) (column_there : column < columns_in file)
    (slice-there : slice < slices_of (width_in file column)) (row_there : row < rows_in file) where
  in_the_body : offset_in file column + slice * rows_in file + row < directory_in file
  in_the_body =
      let rows = rows_in file in
      let before = slices_before (width_in file) column in
      let starts = (fit_column file column (fit.each_fit column column_there)).starts in
      let own = within_slices rows (slices_of (width_in file column)) slice row row_there slice-there in
      let most = mul-le-mul_left rows (among_all (width_in file) column (columns_in file) column_there) in
      omega (arith, fit.whole, mul-add rows before (slices_of (width_in file column)))

  in_the_file : offset_in file column + slice * rows_in file + row < length file
  in_the_file = omega (arith, in_the_body, fit.placed)

pub byte_as_opened : (file : List ℕ) (shape : Shape) → opened_of file ≡ Ok shape → (column slice row : ℕ) →
    column < shape.columns → slice < slices_of (width_in file column) → row < shape.rows →
    offset_in file column + slice * shape.rows + row < length file
byte_as_opened file shape opened column slice row column_there slice-there row_there =
    let same = rows_as_opened file shape opened in
    let inside : column < columns_in file = omega (arith, columns_as_opened file shape opened) in
    rw same (in_the_file file (opened_is_fit file shape opened).0 column slice row inside slice-there (omega (arith, same)))
