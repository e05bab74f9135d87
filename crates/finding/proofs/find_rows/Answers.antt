-- `finding::find_rows` meets its contract: the query is held to the file, and then the scan answers. Assumes nothing.
use mathlib.Core.Path.{◌≡◌, refl, sym}
use lib.ListN.{length}
use borrow.Author.Rules.{rules}
use Rattle.limits.specs.Limits.{most_rows}
use Rattle.std.specs.Prelude.{Ok}
use Rattle.std.proofs.lemmas.Result.{err_from_is_err_and}
use Rattle.asking.specs.Refusals.{asked_of}
use Rattle.bits.specs.Bits.{bytes_for}
use Rattle.finding.proofs.Outcomes.{not_held, enough, scanned_rows}
use Rattle.finding.proofs.find_rows.Goals as goal
use Rattle.finding.proofs.find_rows.Goals.{In_ok-shape}

told : (c : In_ok-shape) → let a = c.args in asked_of a.file.now a.asked.size a.asked.query ≡ Ok c.in_ok-shape.shape
told c = sym c.in_ok-shape.ensures.answer

-- the bits that are lent to the scan are as long as any register needs
as_long : (c : In_ok-shape) → length c.args.bits.now ≡ bytes_for most_rows
unfolding bytes_for
as_long c = search rules

pub returns-in_err-shape : goal.returns-in_err-shape
returns-in_err-shape c =
    let answered = err_from_is_err_and c.from_residual.result c.from_residual.ensures.1 in
    rw (answered.1, answered.2) (not_held _ c.args.asked _ _ (sym c.in_err-shape.ensures.answer))

pub scan_rows-scanned-requires : goal.scan_rows-scanned-requires
scan_rows-scanned-requires c =
    let fit = c.in_ok-shape.ensures.fit c.in_ok-shape.shape refl in
    let p = goal.at.scan_rows-scanned-requires c in
    record { judged = fit.0; sized = fit.1; room = rw (as_long p.In_ok-shape) (enough _ c.args.asked _ (told p.In_ok-shape)) }

pub returns : goal.returns
returns c =
    let p = goal.at.returns c in
    scanned_rows _ c.args.asked _ (told p.In_ok-shape) _ _ _ c.scan_rows-scanned.ensures.answer c.scan_rows-scanned.ensures.left
    (as_long p.In_ok-shape)
