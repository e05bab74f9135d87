-- `exports::scan_asked` meets its contract: the text is read, and what it asks is scanned. Assumes nothing.
use mathlib.Core.Path.{refl}
use Rattle.std.specs.Prelude.{Ok, Err}
use Rattle.std.proofs.lemmas.Result.{err_from_is_err_and}
use Rattle.exports.proofs.scan_asked.Goals as goal

pub returns-in_err-asked : goal.returns-in_err-asked
returns-in_err-asked c =
    let answered = err_from_is_err_and c.from_residual.result c.from_residual.ensures.1 in
    rw (answered.1, answered.2) (Err c.in_err-asked.field-0.0, (c.in_err-asked.ensures, (refl, refl)))

pub returns : goal.returns
returns c = (Ok c.in_ok-asked.asked, (c.in_ok-asked.ensures, (c.scan.ensures.answer, c.scan.ensures.left)))
