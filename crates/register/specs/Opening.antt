-- Opening a file: refusals 1 to 7 in their order, or the number of rows and of columns. Assumes nothing.
use Rattle.std.specs.Prelude.{ℕ, ◌+◌, ◌*◌, List, [], ◌∷◌, not, ◌||◌, ltb, eqb, length, Result}
use Rattle.basis.specs.Places.{first_place}
use Rattle.refusals.specs.declared.Refusal.{Refusal}
use Rattle.refusals.specs.declared.Refusal.TheVariants.{NoRegister, OtherVersion, TooManyRows, UnfitColumnCount, DirectoryMisplaced}
use Rattle.refusals.specs.declared.Refusal.TheVariants.{UnfitColumn, BodyMisfit}
use Rattle.basis.specs.Refusals.{Line, refuse, first_line, answer_of, shown_by}
use Rattle.register.specs.declared.Shape.{Shape}
use Rattle.limits.specs.Limits.{most_rows, most_columns, entry_bytes, trailer_bytes}
use Rattle.directory.specs.Layout.{bytes_before}
use Rattle.directory.specs.File.{rows_in, columns_in, version_in, directory_in, mark_in, mark, width_in, unfit_column}

-- the lowest unfit column
abbrev pub first_unfit_column : List ℕ → ℕ
first_unfit_column file = first_place (unfit_column file) (columns_in file)

-- how many bytes the slices of all columns have
abbrev pub body_in : List ℕ → ℕ
body_in file = bytes_before (rows_in file) (width_in file) (columns_in file)

-- 1: under 16 bytes, or wrong mark
-- 2: version not 1
-- 3: too many rows
-- 4: no columns, or too many
-- 5: the directory is not where length - 16 - 8 x columns is, in whole numbers, so also where that is below 0
-- 6: a column is unfit; place: the lowest
-- 7: the slices of all columns do not end where the directory starts
unfoldable pub open_lines : List ℕ → List Line
open_lines file =
    refuse NoRegister (ltb (length file) trailer_bytes || not (eqb (mark_in file) mark))
    ∷ refuse OtherVersion (not (eqb (version_in file) 1))
    ∷ refuse TooManyRows (ltb most_rows (rows_in file))
    ∷ refuse UnfitColumnCount (eqb (columns_in file) 0 || ltb most_columns (columns_in file))
    ∷ refuse DirectoryMisplaced (not (eqb (directory_in file + entry_bytes * columns_in file + trailer_bytes) (length file)))
    ∷ refuse (UnfitColumn (first_unfit_column file)) (ltb (first_unfit_column file) (columns_in file))
    ∷ refuse BodyMisfit (not (eqb (body_in file) (directory_in file)))
    ∷ []

-- the rows and columns that the trailer tells
abbrev pub shape_in : List ℕ → Shape
shape_in file = record { rows = rows_in file; columns = columns_in file }

-- the answer
unfoldable pub opened_of : List ℕ → Result Shape Refusal
opened_of file = answer_of (open_lines file) (shape_in file)

-- what is shown, from the same table
unfoldable pub shown_for : List ℕ → List ℕ
shown_for file = shown_by (rows_in file ∷ columns_in file ∷ []) (first_line (open_lines file))
