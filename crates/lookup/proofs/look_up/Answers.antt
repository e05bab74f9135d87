-- `lookup::look_up` meets its contract: opening first, then each test is a line of the table, in its order. Assumes nothing.
use Prim.Native.Nat.{◌≤◌, ◌<◌}
use native.Mathlib.Omega.{arith}
use Rattle.std.specs.Prelude.{Ok}
use Rattle.std.proofs.lemmas.Result.{err_from_is_err_and}
use mathlib.Core.Path.{◌≡◌, refl, sym, ap, ◌∙◌}
use lib.Dec.{leb}
use lib.ListN.{length, get_or}
use borrow.Author.Tests.{lt-ltb, lt-leb, le-leb}
use Rattle.basis.proofs.Places.{first_is, first_is_none}
use Rattle.basis.proofs.Refusals.{stops}
use Rattle.answers.proofs.Replies.{refused_by, accepted_by}
use Rattle.directory.specs.File.{rows_in}
use Rattle.register.specs.Opening.{opened_of}
use Rattle.register.proofs.Fit.{rows_as_opened, columns_as_opened}
use Rattle.register.proofs.PassedOn.{file_refused}
use Rattle.lookup.specs.LookingUp.{first_missing, own_lines}
use Rattle.lookup.specs.Steps.{AllBelow}
use Rattle.lookup.proofs.LookingUp as looking
use Rattle.lookup.proofs.look_up.Goals as goal
use Rattle.lookup.proofs.look_up.Goals.{Else-shape-column, In_ok-shape, In-Some, In_default}

-- past opening, the file is a register
opened : (c : In_ok-shape) → opened_of c.args.file.now ≡ Ok c.in_ok-shape.shape
opened c = sym c.in_ok-shape.ensures.answer

-- so many of the own lines have been passed over
past_opening : (c : In_ok-shape) →
    let a = c.args in looking.Passed a.file.now a.column a.rows.now (length a.out.now) 0
past_opening c = looking.own_lines_lem _ _ _ _ _ (opened c)

past_12 : (c : Else-shape-column) →
    let a = c.args in looking.Passed a.file.now a.column a.rows.now (length a.out.now) 1
past_12 c =
    looking.column_there _ _ _ _ _ (sym c.in_ok-shape.ensures.answer) c.if-shape-column.false

-- past 15, every listed row is there
there : (c : In_default) → c.args.column < c.in_ok-shape.shape.columns
there c = c.if-shape-column.false

all_below : (c : In_default) → AllBelow c.in_ok-shape.shape.rows c.args.rows.now
all_below c = c.in_default.ensures

none_missing : (c : In_default) → length c.args.rows.now ≤ first_missing c.in_ok-shape.shape.rows c.args.rows.now
none_missing c =
    let rows = c.in_ok-shape.shape.rows in
    let list = c.args.rows.now in
    let past = first_is_none (λ i. leb rows (get_or list i 0)) (length list) (λ i h. lt-leb rows (get_or list i 0) (all_below c i h)) in
    omega arith

past_15 : (c : In_default) →
    let a = c.args in looking.Passed a.file.now a.column a.rows.now (length a.out.now) 2
past_15 c =
    looking.rows_there _ _ _ _ _ (sym c.in_ok-shape.ensures.answer) (there c) (none_missing c)

-- else the first that is not there has its place
first_found : (c : In-Some) → first_missing c.in_ok-shape.shape.rows c.args.rows.now ≡ c.in-Some.i
first_found c =
    let rows = c.in_ok-shape.shape.rows in
    let list = c.args.rows.now in
    let found = c.in-Some.ensures in
    first_is (λ i. leb rows (get_or list i 0)) (length list) c.in-Some.i found.inside (le-leb rows _ found.above)
    (λ i h. lt-leb rows (get_or list i 0) (found.before i h))

pub returns-in_err-shape : goal.returns-in_err-shape
returns-in_err-shape c =
    let told = err_from_is_err_and c.from_residual.result c.from_residual.ensures.1 in
    rw (told.1, told.2) (file_refused _ _ _ _ _ _ (sym c.in_err-shape.ensures.answer))

pub returns-then-shape-column : goal.returns-then-shape-column
unfolding own_lines
returns-then-shape-column c =
    let same = columns_as_opened _ _ (opened (goal.at.returns-then-shape-column c).In_ok-shape) in
    let past = past_opening (goal.at.returns-then-shape-column c).In_ok-shape in
    refused_by _ _ _ _ (stops past (le-leb _ _ (rw same at c.if-shape-column.true)))

pub returns-in-Some : goal.returns-in-Some
unfolding own_lines
returns-in-Some c =
    let file = c.args.file.now in
    let list = c.args.rows.now in
    let same = rows_as_opened _ _ (opened (goal.at.returns-in-Some c).In_ok-shape) in
    let first : first_missing (rows_in file) list ≡ c.in-Some.i = rw same at (first_found (goal.at.returns-in-Some c).In-Some) in
    let found = c.in-Some.ensures in
    let missing : first_missing (rows_in file) list < length list = omega (arith, found.inside) in
    let past = past_12 (goal.at.returns-in-Some c).Else-shape-column in
    rw (← first) (refused_by _ _ _ _ (stops past (lt-ltb _ _ missing)))

pub returns-then-out-rows : goal.returns-then-out-rows
unfolding own_lines
returns-then-out-rows c =
    let past = past_15 (goal.at.returns-then-out-rows c).In_default in
    refused_by _ _ _ _ (stops past (lt-ltb _ _ c.if-out-rows.true))

pub write_codes-requires : goal.write_codes-requires
write_codes-requires c =
    record {
      column_there = there (goal.at.write_codes-requires c).In_default;
      rows_there = all_below (goal.at.write_codes-requires c).In_default;
      room = c.if-out-rows.false;
    }

pub returns : goal.returns
returns c =
    let room = c.if-out-rows.false in
    let found = (goal.at.returns c).In_default in
    let none = looking.none_answers _ _ _ _ _ (opened (goal.at.returns c).In_ok-shape) (there found) (none_missing found) room in
    accepted_by _ _ _ _ none refl c.write_codes.ensures
