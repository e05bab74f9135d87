-- What is known of a file that opened: every condition of the table has been tried and does not hold. Assumes nothing.
--   Fit                 the facts, in plain numbers
--   opened_passes       where a file opens, no line of the table answers
--   opened_is_fit       a file that opens has them
--   rows_as_opened, columns_as_opened    the shape that opening tells is the file's
--   few_rows_as_opened, few_columns_as_opened    and its rows and columns are not too many
--   width_as_opened     a column of it has a width between 1 and the widest
--   few_bytes_as_opened    so the bytes of a column are not too many
--   fit_is_opened       a file that has them opens
use Prim.Native.Nat.{ℕ, ◌+◌, ◌*◌, ◌≤◌, ◌<◌}
use native.Mathlib.Omega.{arith}
use native.Mathlib.Nat.{mul-le-mul}
use mathlib.Core.Path.{◌≡◌, refl, sym, ap}
use mathlib.Core.List.{List}
use mathlib.Core.Bool.{false, not}
use mathlib.Core.Option.{Option, none, some}
use lib.ListN.{length}
use lib.Dec.{ltb, eqb}
use borrow.Author.Tests.{ltb-false, eqb-true, eqb-false, not-false}
use Rattle.basis.specs.Refusals.{Line, answer_by, first_line}
use Rattle.basis.proofs.Truth.{neither}
use Rattle.basis.proofs.Refusals.{none_when_accepted, each_fails}
use Rattle.basis.proofs.Places.{none_before_first, first_is_none}
use Rattle.codes.specs.Width.{slices_of}
use Rattle.codes.proofs.Width.{few_slices_of}
use Rattle.register.specs.declared.Shape.{Shape}
use Rattle.std.specs.Prelude.{Ok}
use Rattle.limits.specs.Limits.{most_rows, most_columns, widest, most_slices, entry_bytes, trailer_bytes}
use Rattle.directory.specs.Layout.{bytes_before}
use Rattle.directory.specs.File.{rows_in, columns_in, version_in, directory_in, mark_in, mark, width_in, unfit_column}
use Rattle.answers.proofs.Replies.{told_is_accepted}
use Rattle.register.specs.Opening.{first_unfit_column, open_lines, shape_in, opened_of}
use Rattle.directory.proofs.Entries.{fit_column}
use Rattle.register.proofs.Opening.{marked, right_version, few_rows, few_columns, directory_last, all_fit, body_last, opened_by}

pub record Fit (file : List ℕ) : Type 0 where
  pub long : trailer_bytes ≤ length file
  pub marked : mark_in file ≡ mark
  pub version : version_in file ≡ 1
  pub few_rows : rows_in file ≤ most_rows
  pub some_columns : columns_in file ≡ 0 → ⊥
  pub few_columns : columns_in file ≤ most_columns
  pub placed : directory_in file + entry_bytes * columns_in file + trailer_bytes ≡ length file
  pub each_fit : (column : ℕ) → column < columns_in file → unfit_column file column ≡ false
  pub whole : bytes_before (rows_in file) (width_in file) (columns_in file) ≡ directory_in file

pub opened_passes : (file : List ℕ) (shape : Shape) → opened_of file ≡ Ok shape → first_line (open_lines file) ≡ none
unfolding opened_of
opened_passes file shape e = (told_is_accepted (open_lines file) (shape_in file) shape e).0

pub opened_is_fit : (file : List ℕ) (shape : Shape) → opened_of file ≡ Ok shape → Fit file × (shape ≡ shape_in file)
unfolding opened_of open_lines
opened_is_fit file shape e =
    let answered = told_is_accepted (open_lines file) (shape_in file) shape e in
    let line = each_fails (open_lines file) (none_when_accepted (open_lines file) answered.0) in
    let one = neither (ltb (length file) trailer_bytes) (not (eqb (mark_in file) mark)) line.0 in
    let four = neither (eqb (columns_in file) 0) (ltb most_columns (columns_in file)) line.1.1.1.0 in
    let six = ltb-false (first_unfit_column file) (columns_in file) line.1.1.1.1.1.0 in (
      record {
        long = ltb-false (length file) trailer_bytes one.0;
        marked = eqb-true (mark_in file) mark (not-false _ one.1);
        version = eqb-true (version_in file) 1 (not-false _ line.1.0);
        few_rows = ltb-false most_rows (rows_in file) line.1.1.0;
        some_columns = eqb-false (columns_in file) 0 four.0;
        few_columns = ltb-false most_columns (columns_in file) four.1;
        placed = eqb-true _ _ (not-false _ line.1.1.1.1.0);
        each_fit = λ column h. none_before_first (unfit_column file) (columns_in file) column (omega arith);
        whole = eqb-true _ _ (not-false _ line.1.1.1.1.1.1.0);
      },
      answered.1,
    )

pub rows_as_opened : (file : List ℕ) (shape : Shape) → opened_of file ≡ Ok shape → shape.rows ≡ rows_in file
rows_as_opened file shape opened = ap (λ (s : Shape). s.rows) (opened_is_fit file shape opened).1

pub columns_as_opened : (file : List ℕ) (shape : Shape) → opened_of file ≡ Ok shape → shape.columns ≡ columns_in file
columns_as_opened file shape opened = ap (λ (s : Shape). s.columns) (opened_is_fit file shape opened).1

pub few_rows_as_opened : (file : List ℕ) (shape : Shape) → opened_of file ≡ Ok shape → shape.rows ≤ most_rows
few_rows_as_opened file shape opened =
    omega (arith, rows_as_opened file shape opened, (opened_is_fit file shape opened).0.few_rows)

pub few_columns_as_opened : (file : List ℕ) (shape : Shape) → opened_of file ≡ Ok shape → shape.columns ≤ most_columns
few_columns_as_opened file shape opened =
    omega (arith, columns_as_opened file shape opened, (opened_is_fit file shape opened).0.few_columns)

pub width_as_opened : (file : List ℕ) (shape : Shape) → opened_of file ≡ Ok shape → (column : ℕ) → column < shape.columns →
    (0 < width_in file column) × (width_in file column ≤ widest)
width_as_opened file shape opened column there =
    let inside : column < columns_in file = omega (arith, columns_as_opened file shape opened) in
    let known = fit_column file column ((opened_is_fit file shape opened).0.each_fit column inside) in
    (known.some, known.narrow)

pub few_bytes_as_opened : (file : List ℕ) (shape : Shape) → opened_of file ≡ Ok shape → (column : ℕ) → column < shape.columns →
    shape.rows * slices_of (width_in file column) ≤ most_rows * most_slices
few_bytes_as_opened file shape opened column there =
    let narrow = (width_as_opened file shape opened column there).1 in
    mul-le-mul (few_rows_as_opened file shape opened) (few_slices_of (width_in file column) narrow)

pub fit_is_opened : (file : List ℕ) → Fit file → opened_of file ≡ Ok (shape_in file)
fit_is_opened file fit =
    let none_unfit = first_is_none (unfit_column file) (columns_in file) fit.each_fit in
    let one = marked file fit.long fit.marked in
    let three = few_rows file (right_version file one fit.version) fit.few_rows in
    let five = directory_last file (few_columns file three fit.some_columns fit.few_columns) fit.placed in
    sym (opened_by file (body_last file (all_fit file five (omega arith)) fit.whole) refl refl).answer
