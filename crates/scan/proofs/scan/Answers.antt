-- `scan::scan` meets its contract: the query is held to the file first, then the room is the last line of the table, and past it all
-- rows are scanned. Assumes nothing.
use Prim.Native.Nat.{◌≤◌}
use mathlib.Core.Path.{◌≡◌, refl, sym}
use Rattle.limits.specs.Limits.{most_rows}
use Rattle.std.specs.Prelude.{Ok}
use Rattle.std.proofs.lemmas.Result.{err_from_is_err_and}
use Rattle.register.proofs.Fit.{few_rows_as_opened}
use Rattle.asking.specs.Refusals.{asked_of}
use Rattle.asking.proofs.Asked.{opened_as_asked}
use Rattle.scan.proofs.Outcomes as outcomes
use Rattle.scan.proofs.scan.Goals as goal
use Rattle.scan.proofs.scan.Goals.{In_ok-shape}

told : (c : In_ok-shape) → let a = c.args in asked_of a.file.now a.size a.query ≡ Ok c.in_ok-shape.shape
told c = sym c.in_ok-shape.ensures.answer

few_rows : (c : In_ok-shape) → c.in_ok-shape.shape.rows ≤ most_rows
few_rows c = few_rows_as_opened _ _ (opened_as_asked _ _ _ _ (told c))

pub returns-in_err-shape : goal.returns-in_err-shape
returns-in_err-shape c =
    let answered = err_from_is_err_and c.from_residual.result c.from_residual.ensures.1 in
    rw (answered.1, answered.2) (outcomes.unasked _ _ _ _ _ (sym c.in_err-shape.ensures.answer))

pub bytes_for-need-requires : goal.bytes_for-need-requires
bytes_for-need-requires c = few_rows c

pub returns-then-res-need : goal.returns-then-res-need
returns-then-res-need c =
    let need = c.bytes_for-need.ensures in
    let fit = told (goal.at.returns-then-res-need c).In_ok-shape in
    rw need (outcomes.too_short _ _ _ _ _ fit (rw need at c.if-res-need.true))

pub scan_rows-requires : goal.scan_rows-requires
scan_rows-requires c =
    let fit = c.in_ok-shape.ensures.fit c.in_ok-shape.shape refl in
    record { judged = fit.0; sized = fit.1; room = rw c.bytes_for-need.ensures at c.if-res-need.false }

pub returns : goal.returns
returns c =
    outcomes.scanned _ _ _ _ _ (told (goal.at.returns c).In_ok-shape) (rw c.bytes_for-need.ensures at c.if-res-need.false)
    c.scan_rows.ensures.answer c.scan_rows.ensures.left
