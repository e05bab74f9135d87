-- `directory::fit_columns` meets its contract: every column passed is fit, so the sum of their slices is known and small.
-- Assumes nothing.
use Prim.Native.Nat.{ℕ, ◌+◌, ◌-◌, ◌*◌, ◌<◌}
use native.Mathlib.Omega.{arith}
use native.Mathlib.Numerals.{add-one}
use mathlib.Core.Path.{◌≡◌, refl, sym, ap, ◌∙◌}
use mathlib.Core.List.{List}
use mathlib.Core.Bool.{Bool, false}
use borrow.Author.Count.{below_more}
use lib.ListN.{length, take, drop}
use Rattle.limits.specs.Limits.{entry_bytes}
use Rattle.basis.proofs.Places.{first_is, first_is_none}
use Rattle.codes.specs.Width.{slices_of}
use Rattle.codes.proofs.Width.{few_slices_of}
use Rattle.directory.specs.Layout.{slices_before}
use Rattle.directory.specs.File.{entry_in, entry_width, width_in, unfit_entry, unfit_column}
use Rattle.directory.proofs.Entries.{entry_cut, unfit_by_entry, fit_column, one_more_column, few_bytes}
use Rattle.directory.proofs.fit_columns.Invariants.{Passed}
use Rattle.directory.proofs.fit_columns.Goals as goal
use Rattle.directory.proofs.fit_columns.Goals.{After-slices_of-slices, After-unfit_entry, In-loop-column}

none_passed : (file : List ℕ) (columns : ℕ) → Passed file columns 0 0
unfolding slices_before
none_passed file columns = record { within = omega arith; fit = λ earlier h. absurd (omega arith); counted = refl; few = omega arith }

one_more_passed : (file : List ℕ) (columns slices column more : ℕ) → Passed file columns slices column → column < columns →
    unfit_column file column ≡ false → more ≡ slices_of (width_in file column) → Passed file columns (slices + more) (column + 1)
one_more_passed file columns slices column more passed next fit same =
    let known = fit_column file column fit in
    let at_most = few_slices_of (width_in file column) known.narrow in
    record {
      within = omega arith;
      fit = below_more _ _ passed.fit fit;
      counted = rw (add-one, one_more_column (width_in file) column) (omega (arith, passed.counted));
      few = omega (arith, passed.few);
    }

abbrev entry_of : In-loop-column → List ℕ
entry_of c = take ((c.args.directory + entry_bytes * c.loop-column.column) + entry_bytes - (c.args.directory + entry_bytes * c.loop-column.column)) (drop (c.args.directory + entry_bytes * c.loop-column.column) c.args.file.now)

here : (c : In-loop-column) → (entry_of c ≡ entry_in c.args.file.now c.loop-column.column) × (length (entry_of c) ≡ entry_bytes)
here c = entry_cut c.args.file.now (c.args.directory + entry_bytes * c.loop-column.column) c.loop-column.column (omega arith) (omega arith)

-- what was said of the entry is so of the column
unfit_as_said : (c : In-loop-column) (said : Bool) → said ≡ unfit_entry (entry_of c) (c.args.rows * c.loop-column.slices) →
    unfit_column c.args.file.now c.loop-column.column ≡ said
unfit_as_said c said same =
    sym (same ∙ unfit_by_entry c.args.file.now (entry_of c) _ _ _ (here c).0 c.requires.rows_read c.loop-column.invariant.counted)

-- a column found fit is passed
passed : (c : After-slices_of-slices) →
    Passed c.args.file.now c.args.columns (c.loop-column.slices + c.slices_of-slices.result)
    (c.loop-column.column + 1)
unfolding width_in
passed c =
    let loop = c.loop-column in
    one_more_passed c.args.file.now _ loop.slices loop.column c.slices_of-slices.result loop.invariant (omega arith)
    (unfit_as_said (goal.at.overflow_add-slices c).In-loop-column _ c.unfit_entry.ensures ∙ c.if-unfit_entry.false)
    (c.slices_of-slices.ensures ∙ ap (λ (entry : List ℕ). slices_of (entry_width entry)) (here (goal.at.overflow_add-slices c).In-loop-column).0)

pub loop-column-init : goal.loop-column-init
loop-column-init c = none_passed c.args.file.now c.args.columns

pub overflow_mul-rows : goal.overflow_mul-rows
overflow_mul-rows c =
    let turn = c.loop-column in
    let known = c.requires in
    omega (arith, few_bytes _ turn.slices turn.column known.few_rows turn.invariant.few (omega arith))

pub unfit_entry-requires : goal.unfit_entry-requires
unfit_entry-requires c = (here (goal.at.unfit_entry-requires c).In-loop-column).1

pub returns-then-unfit_entry : goal.returns-then-unfit_entry
returns-then-unfit_entry c =
    let turn = c.loop-column in
    let unfit = unfit_as_said (goal.at.returns-then-unfit_entry c).In-loop-column _ c.unfit_entry.ensures ∙ c.if-unfit_entry.true in
    record {
      is_there = omega arith;
      first_unfit = sym (first_is _ _ turn.column (omega arith) unfit turn.invariant.fit);
      counted = turn.invariant.counted;
      few = turn.invariant.few;
    }

pub bounds-entry-0 : goal.bounds-entry-0
bounds-entry-0 c = omega (arith, (here (goal.at.bounds-entry-0 c).In-loop-column).1)

pub overflow_add-slices : goal.overflow_add-slices
overflow_add-slices c = omega (arith, (passed c).few)

pub loop-column-preserved : goal.loop-column-preserved
loop-column-preserved c = passed c

pub returns : goal.returns
returns c =
    let turn = c.loop-column in
    let end : turn.column ≡ c.args.columns = omega arith in
    record {
      none_unfit = first_is_none _ _ (λ k h. turn.invariant.fit k (omega arith));
      counted = rw (← end) turn.invariant.counted;
      few = rw (← end) turn.invariant.few;
    }
