-- `writer::write` meets its contract: each test of the code is a line of the table, in its order, and past all of them the
-- file is written. Assumes nothing.
use Prim.Native.Nat.{ℕ, ◌≤◌}
use native.Mathlib.Omega.{arith}
use mathlib.Core.List.{List}
use borrow.Author.Tests.{lt-ltb, eq-eqb}
use lib.Dec.{eqb}
use lib.ListN.{length}
use Rattle.limits.specs.Limits.{most_columns}
use Rattle.basis.proofs.Truth.{left_holds, right_holds, differs}
use Rattle.basis.proofs.Refusals.{at_first, stops}
use Rattle.basis.proofs.Places.{found_at, found_nowhere}
use Rattle.answers.proofs.Replies.{refused_by, accepted_by}
use Rattle.directory.proofs.Entries.{few_bytes}
use Rattle.table.specs.Table.{FitWidths, FitCodes, first_unfit_width, first_too_large}
use Rattle.writer.specs.Writing.{write_lines}
use Rattle.writer.proofs.Fit.{widths_fit, codes_fit}
use Rattle.writer.proofs.Writing as writing
use Rattle.writer.proofs.write.Goals as goal
use Rattle.writer.proofs.write.Goals.{Else-rows-gt-MOST_ROWS, Else-columns-gt-MOST_COLUMNS, Else-codes-rows}
use Rattle.writer.proofs.write.Goals.{In_default, In_default-first_too_large}

-- so many lines of the table have been passed over
past_0 : (rows : ℕ) (widths codes : List ℕ) (room : ℕ) → writing.Passed rows widths codes room 0
past_0 rows widths codes room = at_first _

past_3 : (c : Else-rows-gt-MOST_ROWS) →
    let a = c.args in writing.Passed a.rows a.widths.now a.codes.now (length a.out.now) 1
past_3 c = writing.few_rows _ _ _ _ c.if-rows-gt-MOST_ROWS.false

past_4 : (c : Else-columns-gt-MOST_COLUMNS) →
    let a = c.args in writing.Passed a.rows a.widths.now a.codes.now (length a.out.now) 2
past_4 c =
    let few = writing.few_rows _ _ _ _ c.if-rows-gt-MOST_ROWS.false in
    writing.few_columns _ _ _ _ few c.if-columns-eq0.false c.if-columns-gt-MOST_COLUMNS.false

none_unfit : (c : In_default) → length c.args.widths.now ≤ first_unfit_width c.args.widths.now
none_unfit c = found_nowhere _ _ c.in_default.ensures

past_6 : (c : In_default) →
    let a = c.args in writing.Passed a.rows a.widths.now a.codes.now (length a.out.now) 3
past_6 c = writing.all_fit _ _ _ _ (past_4 (goal.at.overflow_mul-rows c).Else-columns-gt-MOST_COLUMNS) (none_unfit c)

past_9 : (c : Else-codes-rows) →
    let a = c.args in writing.Passed a.rows a.widths.now a.codes.now (length a.out.now) 4
past_9 c = writing.counted _ _ _ _ (past_6 (goal.at.first_too_large-requires c).In_default) c.if-codes-rows.false

none_large : (c : In_default-first_too_large) →
    let args = c.args in length args.codes.now ≤ first_too_large args.widths.now args.codes.now
none_large c = found_nowhere _ _ c.in_default-first_too_large.ensures

past_8 : (c : In_default-first_too_large) →
    let a = c.args in writing.Passed a.rows a.widths.now a.codes.now (length a.out.now) 5
past_8 c = writing.all_below _ _ _ _ (past_9 (goal.at.file_length-need-requires c).Else-codes-rows) (none_large c)

-- so widths and codes fit
fit_widths : (c : In_default) → FitWidths c.args.widths.now
fit_widths c =
    widths_fit _ c.if-columns-eq0.false c.if-columns-gt-MOST_COLUMNS.false (none_unfit c)

fit_codes : (c : In_default-first_too_large) → FitCodes c.args.rows c.args.widths.now c.args.codes.now
fit_codes c =
    codes_fit _ _ _ c.if-rows-gt-MOST_ROWS.false c.if-codes-rows.false (none_large c)

pub returns-then-rows-gt-MOST_ROWS : goal.returns-then-rows-gt-MOST_ROWS
unfolding write_lines
returns-then-rows-gt-MOST_ROWS c =
    let a = c.args in
    let past = past_0 a.rows a.widths.now a.codes.now (length a.out.now) in
    refused_by _ _ _ _ (stops past (lt-ltb _ _ c.if-rows-gt-MOST_ROWS.true))

pub returns-then-columns-eq0 : goal.returns-then-columns-eq0
unfolding write_lines
returns-then-columns-eq0 c =
    let past = past_3 (goal.at.returns-then-columns-eq0 c).Else-rows-gt-MOST_ROWS in
    refused_by _ _ _ _ (stops past (left_holds _ _ (eq-eqb _ _ c.if-columns-eq0.true)))

pub returns-then-columns-gt-MOST_COLUMNS : goal.returns-then-columns-gt-MOST_COLUMNS
unfolding write_lines
returns-then-columns-gt-MOST_COLUMNS c =
    let many = right_holds (eqb (length c.args.widths.now) 0) _ (lt-ltb most_columns _ c.if-columns-gt-MOST_COLUMNS.true) in
    let past = past_3 (goal.at.returns-then-columns-gt-MOST_COLUMNS c).Else-rows-gt-MOST_ROWS in
    refused_by _ _ _ _ (stops past many)

pub returns-in-Some : goal.returns-in-Some
unfolding write_lines
returns-in-Some c =
    let (first, inside) = found_at _ _ _ c.in-Some.ensures in
    let unfit = lt-ltb _ _ (rw (← first) at inside) in
    let past = past_4 (goal.at.returns-in-Some c).Else-columns-gt-MOST_COLUMNS in
    rw (← first) (refused_by _ _ _ _ (stops past unfit))

pub overflow_mul-rows : goal.overflow_mul-rows
overflow_mul-rows c =
    let rows = c.if-rows-gt-MOST_ROWS.false in
    let fit = fit_widths c in
    omega (arith, few_bytes c.args.rows (length c.args.widths.now) _ rows (omega arith) fit.few)

pub returns-then-codes-rows : goal.returns-then-codes-rows
unfolding write_lines
returns-then-codes-rows c =
    let past = past_6 (goal.at.returns-then-codes-rows c).In_default in
    refused_by _ _ _ _ (stops past (differs _ _ c.if-codes-rows.true))

pub first_too_large-requires : goal.first_too_large-requires
first_too_large-requires c =
    record { fit = fit_widths (goal.at.first_too_large-requires c).In_default; full = c.if-codes-rows.false }

pub returns-in-Some-first_too_large : goal.returns-in-Some-first_too_large
unfolding write_lines
returns-in-Some-first_too_large c =
    let (first, inside) = found_at _ _ _ c.in-Some-first_too_large.ensures in
    let large = lt-ltb _ _ (rw (← first) at inside) in
    let past = past_9 (goal.at.returns-in-Some-first_too_large c).Else-codes-rows in
    rw (← first) (refused_by _ _ _ _ (stops past large))

pub file_length-need-requires : goal.file_length-need-requires
file_length-need-requires c =
    let fit = fit_widths (goal.at.file_length-need-requires c).In_default in
    record { fit_widths = fit; few_rows = (fit_codes c).few_rows }

pub returns-then-out-need : goal.returns-then-out-need
unfolding write_lines
returns-then-out-need c =
    let end = c.file_length-need.ensures in
    let short = lt-ltb _ _ (rw end at c.if-out-need.true) in
    let past = past_8 (goal.at.returns-then-out-need c).In_default-first_too_large in
    rw end (refused_by _ _ _ _ (stops past short))

pub invariant_of-table : goal.invariant_of-table
invariant_of-table c =
    record {
      fit_widths = fit_widths (goal.at.invariant_of-table c).In_default;
      fit_codes = fit_codes (goal.at.invariant_of-table c).In_default-first_too_large;
    }

pub write_file-requires : goal.write_file-requires
write_file-requires c = omega (arith, c.file_length-need.ensures, c.if-out-need.false)

pub returns : goal.returns
returns c =
    let end = c.file_length-need.ensures in
    let past = past_8 (goal.at.returns c).In_default-first_too_large in
    accepted_by _ _ _ _ (writing.none_answers _ _ _ _ past (omega (arith, end, c.if-out-need.false))) end c.write_file.ensures
