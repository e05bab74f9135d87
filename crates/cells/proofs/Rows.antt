-- What an opened file says of a row that is looked up. Assumes nothing.
--   code_within_as_opened     its column has a fit width, and the row's byte of every slice stands in the file
--   code_gathered_as_opened   the row's code is its gathered bytes, joined
--   code_within, code_gathered   so it is of a register
use Prim.Native.Nat.{ℕ, ◌<◌}
use mathlib.Core.Path.{◌≡◌}
use mathlib.Core.List.{List}
use Rattle.codes.specs.Bytes.{joined}
use Rattle.std.specs.Prelude.{Ok}
use Rattle.register.specs.declared.Register.{Register}
use Rattle.register.specs.declared.Shape.{Shape}
use Rattle.register.specs.Opening.{opened_of}
use Rattle.directory.specs.File.{width_in, offset_in}
use Rattle.register.specs.Cells.{CellThere, byte_at, bytes_at, code_at}
use Rattle.register.proofs.Fit.{rows_as_opened, width_as_opened}
use Rattle.register.proofs.Body.{byte_as_opened}
use Rattle.cells.specs.Gathered.{CodeWithin, gathered}

module _ (file : List ℕ) (shape : Shape) (opened : opened_of file ≡ Ok shape) (column row : ℕ) where
  pub code_within_as_opened : column < shape.columns → row < shape.rows →
      CodeWithin file (width_in file column) (offset_in file column) shape.rows row
  code_within_as_opened column_there row_there =
      let fit = width_as_opened file shape opened column column_there in
      record {
        some = fit.0;
        narrow = fit.1;
        within = λ slice inside. byte_as_opened file shape opened column slice row column_there inside row_there;
      }

  pub code_gathered_as_opened :
      code_at file column row ≡ joined (width_in file column) (gathered file (width_in file column) (offset_in file column) shape.rows row)
  unfolding code_at bytes_at byte_at
  code_gathered_as_opened = rw (rows_as_opened file shape opened)

module _ (register : Register) (column row : ℕ) where
  pub code_within : CellThere register column row → let file = register.file.now in
      CodeWithin file (width_in file column) (offset_in file column) register.shape.rows row
  code_within cell = code_within_as_opened _ _ register.opened column row cell.column_there cell.row_there

  pub code_gathered : let file = register.file.now in let width = width_in file column in
      code_at file column row ≡ joined width (gathered file width (offset_in file column) register.shape.rows row)
  code_gathered = code_gathered_as_opened _ _ register.opened column row
