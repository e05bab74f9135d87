-- `register::open` meets its contract: each test of the code is a line of the table, in its order. Assumes nothing.
use Prim.Native.Nat.{ℕ, ◌+◌, ◌*◌, ◌<◌}
use native.Mathlib.Omega.{arith}
use mathlib.Core.Path.{◌≡◌, sym, ap, ap₂, ◌∙◌}
use borrow.Author.Tests.{lt-ltb, eq-eqb}
use lib.Dec.{ltb, eqb}
use lib.ListN.{length}
use Rattle.std.proofs.lemmas.Result.{err_from_is_err_and}
use Rattle.limits.specs.Limits.{most_rows, most_columns, entry_bytes, trailer_bytes}
use Rattle.basis.specs.Numbers.{little}
use Rattle.basis.specs.Places.{first_place}
use Rattle.basis.proofs.Refusals.{at_first, stops}
use Rattle.basis.proofs.Truth.{left_holds, right_holds, differs}
use Rattle.directory.specs.File.{trailer_in, rows_in, columns_in, directory_in, mark_in, mark, unfit_column}
use Rattle.directory.specs.Trailer.{TrailerRead}
use Rattle.register.specs.Opening.{first_unfit_column, open_lines, body_in}
use Rattle.directory.proofs.Entries.{few_bytes}
use Rattle.register.proofs.Opening as opening
use Rattle.register.proofs.Opening.{Passed}
use Rattle.register.proofs.PastTests as past
use Rattle.register.proofs.PastTests.{known}
use Rattle.register.proofs.open.Goals as goal
use Rattle.register.proofs.open.Goals.{After-read_trailer-trailer, Else-trailer-ne-MARK, Else-trailer-ne1, Else-trailer-gt-MOST_ROWS}
use Rattle.register.proofs.open.Goals.{Else-trailer-gt-MOST_COLUMNS, Else-trailer-length, In_ok-slices}

-- the trailer as it was read
read : (c : After-read_trailer-trailer) → TrailerRead (trailer_in c.args.file.now) c.read_trailer-trailer.result
read c = known c.args.file.now c.read_trailer-trailer.result c.read_trailer-trailer.ensures

-- past each test, the lines before it have been passed over
past_1 : (c : Else-trailer-ne-MARK) → Passed c.args.file.now 1
past_1 c =
    past.past_1 _ _ (known _ _ c.read_trailer-trailer.ensures) c.if-length-lt-TRAILER_BYTES.false c.if-trailer-ne-MARK.false

past_2 : (c : Else-trailer-ne1) → Passed c.args.file.now 2
past_2 c =
    past.past_2 _ _ (known _ _ c.read_trailer-trailer.ensures) c.if-length-lt-TRAILER_BYTES.false c.if-trailer-ne-MARK.false
    c.if-trailer-ne1.false

past_3 : (c : Else-trailer-gt-MOST_ROWS) → Passed c.args.file.now 3
past_3 c =
    past.past_3 _ _ (known _ _ c.read_trailer-trailer.ensures) c.if-length-lt-TRAILER_BYTES.false c.if-trailer-ne-MARK.false
    c.if-trailer-ne1.false c.if-trailer-gt-MOST_ROWS.false

past_4 : (c : Else-trailer-gt-MOST_COLUMNS) → Passed c.args.file.now 4
past_4 c =
    past.past_4 _ _ (known _ _ c.read_trailer-trailer.ensures) c.if-length-lt-TRAILER_BYTES.false c.if-trailer-ne-MARK.false
    c.if-trailer-ne1.false c.if-trailer-gt-MOST_ROWS.false c.if-trailer-eq0.false c.if-trailer-gt-MOST_COLUMNS.false

past_5 : (c : Else-trailer-length) → Passed c.args.file.now 5
past_5 c =
    past.past_5 _ _ (known _ _ c.read_trailer-trailer.ensures) c.if-length-lt-TRAILER_BYTES.false c.if-trailer-ne-MARK.false
    c.if-trailer-ne1.false c.if-trailer-gt-MOST_ROWS.false c.if-trailer-eq0.false c.if-trailer-gt-MOST_COLUMNS.false
    c.if-trailer-length.false

past_6 : (c : In_ok-slices) → Passed c.args.file.now 6
past_6 c =
    past.past_6 _ _ (known _ _ c.read_trailer-trailer.ensures) c.if-length-lt-TRAILER_BYTES.false c.if-trailer-ne-MARK.false
    c.if-trailer-ne1.false c.if-trailer-gt-MOST_ROWS.false c.if-trailer-eq0.false c.if-trailer-gt-MOST_COLUMNS.false
    c.if-trailer-length.false _ c.in_ok-slices.ensures

-- the slices of all columns are the body
body : (c : In_ok-slices) → c.read_trailer-trailer.result.rows * c.in_ok-slices.slices ≡ body_in c.args.file.now
body c =
    past.body _ _ (known _ _ c.read_trailer-trailer.ensures) c.if-length-lt-TRAILER_BYTES.false c.if-trailer-ne-MARK.false
    c.if-trailer-ne1.false c.if-trailer-gt-MOST_ROWS.false c.if-trailer-eq0.false c.if-trailer-gt-MOST_COLUMNS.false
    c.if-trailer-length.false _ c.in_ok-slices.ensures

pub returns-then-length-lt-TRAILER_BYTES : goal.returns-then-length-lt-TRAILER_BYTES
unfolding open_lines
returns-then-length-lt-TRAILER_BYTES c =
    let short = left_holds _ _ (lt-ltb _ _ c.if-length-lt-TRAILER_BYTES.true) in
    opening.refused_by _ (stops (at_first (open_lines c.args.file.now)) short)

pub returns-then-trailer-ne-MARK : goal.returns-then-trailer-ne-MARK
unfolding open_lines mark little
returns-then-trailer-ne-MARK c =
    let file = c.args.file.now in
    let trailer = read (goal.at.returns-then-trailer-ne-MARK c).After-read_trailer-trailer in
    let other = differs (mark_in file) mark (λ e. c.if-trailer-ne-MARK.true (trailer.mark ∙ e)) in
    opening.refused_by _ (stops (at_first (open_lines file)) (right_holds (ltb (length file) trailer_bytes) _ other))

pub returns-then-trailer-ne1 : goal.returns-then-trailer-ne1
unfolding open_lines
returns-then-trailer-ne1 c =
    let p = goal.at.returns-then-trailer-ne1 c in
    let other = differs _ _ (λ e. c.if-trailer-ne1.true ((read p.After-read_trailer-trailer).version ∙ e)) in
    opening.refused_by _ (stops (past_1 p.Else-trailer-ne-MARK) other)

pub returns-then-trailer-gt-MOST_ROWS : goal.returns-then-trailer-gt-MOST_ROWS
unfolding open_lines
returns-then-trailer-gt-MOST_ROWS c =
    let p = goal.at.returns-then-trailer-gt-MOST_ROWS c in
    let many : most_rows < rows_in c.args.file.now =
    omega (arith, (read p.After-read_trailer-trailer).rows, c.if-trailer-gt-MOST_ROWS.true) in
    opening.refused_by _ (stops (past_2 p.Else-trailer-ne1) (lt-ltb _ _ many))

pub returns-then-trailer-eq0 : goal.returns-then-trailer-eq0
unfolding open_lines
returns-then-trailer-eq0 c =
    let p = goal.at.returns-then-trailer-eq0 c in
    let none = sym (read p.After-read_trailer-trailer).columns ∙ c.if-trailer-eq0.true in
    opening.refused_by _ (stops (past_3 p.Else-trailer-gt-MOST_ROWS) (left_holds _ _ (eq-eqb _ _ none)))

pub returns-then-trailer-gt-MOST_COLUMNS : goal.returns-then-trailer-gt-MOST_COLUMNS
unfolding open_lines
returns-then-trailer-gt-MOST_COLUMNS c =
    let p = goal.at.returns-then-trailer-gt-MOST_COLUMNS c in
    let many : most_columns < columns_in c.args.file.now =
    omega (arith, (read p.After-read_trailer-trailer).columns, c.if-trailer-gt-MOST_COLUMNS.true) in
    opening.refused_by _ (stops (past_3 p.Else-trailer-gt-MOST_ROWS) (right_holds (eqb (columns_in c.args.file.now) 0) _ (lt-ltb _ _ many)))

pub returns-then-trailer-length : goal.returns-then-trailer-length
unfolding open_lines
returns-then-trailer-length c =
    let file = c.args.file.now in
    let p = goal.at.returns-then-trailer-length c in
    let trailer = read p.After-read_trailer-trailer in
    let end = directory_in file + entry_bytes * columns_in file + trailer_bytes in
    let elsewhere = differs end (length file) (omega (arith, trailer.columns, trailer.directory, c.if-trailer-length.true)) in
    opening.refused_by _ (stops (past_4 p.Else-trailer-gt-MOST_COLUMNS) elsewhere)

pub fit_columns-requires : goal.fit_columns-requires
fit_columns-requires c =
    let trailer = read (goal.at.fit_columns-requires c).After-read_trailer-trailer in
    record {
      rows_read = trailer.rows;
      directory_read = trailer.directory;
      few_rows = omega (arith, c.if-trailer-gt-MOST_ROWS.false);
      few_columns = omega (arith, c.if-trailer-gt-MOST_COLUMNS.false);
      within = omega (arith, c.if-trailer-length.false);
    }

pub returns-in_err-slices : goal.returns-in_err-slices
unfolding open_lines
returns-in_err-slices c =
    let file = c.args.file.now in
    let p = goal.at.returns-in_err-slices c in
    let columns = (read p.After-read_trailer-trailer).columns in
    let unfit = c.in_err-slices.ensures in
    let first : c.in_err-slices.field-0.0.column ≡ first_unfit_column file =
    unfit.first_unfit ∙ ap (first_place (unfit_column file)) columns in
    let there : first_unfit_column file < columns_in file = omega (arith, unfit.is_there, first, columns) in
    let told = err_from_is_err_and c.from_residual.result c.from_residual.ensures.1 in
    rw (told.1, told.2, first) (opening.refused_by _ (stops (past_5 p.Else-trailer-length) (lt-ltb _ _ there)))

pub overflow_mul-trailer-2 : goal.overflow_mul-trailer-2
overflow_mul-trailer-2 c =
    let all = c.in_ok-slices.ensures in
    let few_rows = c.if-trailer-gt-MOST_ROWS.false in
    omega (arith, few_bytes _ _ c.read_trailer-trailer.result.columns few_rows all.few c.if-trailer-gt-MOST_COLUMNS.false)

pub returns-then-trailer-slices : goal.returns-then-trailer-slices
unfolding open_lines
returns-then-trailer-slices c =
    let p = goal.at.returns-then-trailer-slices c in
    let directory = (read p.After-read_trailer-trailer).directory in
    let elsewhere = differs _ _ (λ e. c.if-trailer-slices.true (body p.In_ok-slices ∙ e ∙ sym directory)) in
    opening.refused_by _ (stops (past_6 p.In_ok-slices) elsewhere)

pub returns : goal.returns
returns c =
    let p = goal.at.returns c in
    let trailer = read p.After-read_trailer-trailer in
    let none = opening.body_last _ (past_6 p.In_ok-slices) (sym (body p.In_ok-slices) ∙ c.if-trailer-slices.false ∙ trailer.directory) in
    opening.opened_by _ none trailer.rows trailer.columns
