-- `widths::widths` meets its contract: opening first, then its one test is the line of the table. Assumes nothing.
use native.Mathlib.Omega.{arith}
use mathlib.Core.Path.{◌≡◌, sym}
use borrow.Author.Tests.{lt-ltb, le-ltb}
use Prim.Native.Nat.{ℕ}
use Rattle.std.specs.Prelude.{Ok}
use Rattle.std.proofs.lemmas.Result.{err_from_is_err_and}
use Rattle.basis.proofs.Refusals.{Past, passes, stops, ends}
use Rattle.answers.proofs.Replies.{refused_by, accepted_by}
use Rattle.register.specs.Opening.{opened_of}
use Rattle.widths.specs.Widths.{own_lines, widths_lines}
use Rattle.register.proofs.Fit.{columns_as_opened}
use Rattle.register.proofs.PassedOn.{file_refused, own_lines_next}
use Rattle.widths.proofs.widths.Goals as goal
use Rattle.widths.proofs.widths.Goals.{In_ok-shape}

-- past opening, the file is a register
opened : (c : In_ok-shape) → opened_of c.args.file.now ≡ Ok c.in_ok-shape.shape
opened c = sym c.in_ok-shape.ensures.answer

-- and its own lines are left
own_lines_lem : (c : In_ok-shape) (room : ℕ) → Past (widths_lines c.args.file.now room) (own_lines c.args.file.now room)
own_lines_lem c room = own_lines_next c.args.file.now (own_lines c.args.file.now room) _ (opened c)

pub returns-in_err-shape : goal.returns-in_err-shape
returns-in_err-shape c =
    let told = err_from_is_err_and c.from_residual.result c.from_residual.ensures.1 in
    rw (told.1, told.2) (file_refused _ _ _ _ _ _ (sym c.in_err-shape.ensures.answer))

pub returns-then-out-columns : goal.returns-then-out-columns
unfolding own_lines
returns-then-out-columns c =
    let past = (goal.at.returns-then-out-columns c).In_ok-shape in
    let same = columns_as_opened _ _ (opened past) in
    let short = lt-ltb _ _ (rw same at c.if-out-columns.true) in
    rw same (refused_by _ _ _ _ (stops (own_lines_lem past _) short))

pub write_widths-requires : goal.write_widths-requires
write_widths-requires c = omega arith

pub returns : goal.returns
unfolding own_lines
returns c =
    let past = (goal.at.returns c).In_ok-shape in
    let same = columns_as_opened _ _ (opened past) in
    let room = le-ltb _ _ (rw same at c.if-out-columns.false) in
    accepted_by _ _ _ _ (ends (passes (own_lines_lem past _) room)) same c.write_widths.ensures
