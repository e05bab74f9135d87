-- `finding::find` meets its contract: the text is read, and then the file is looked at. Assumes nothing.
use Rattle.std.specs.Prelude.{Ok, Err}
use Rattle.std.proofs.lemmas.Result.{err_from_is_err_and}
use Rattle.finding.proofs.Outcomes.{text_refused}
use Rattle.finding.proofs.find.Goals as goal

pub returns-in_err-asked : goal.returns-in_err-asked
returns-in_err-asked c =
    let answered = err_from_is_err_and c.from_residual.result c.from_residual.ensures.1 in
    rw (answered.1, answered.2) (Err c.in_err-asked.field-0.0, (c.in_err-asked.ensures, text_refused _ _ _))

pub returns : goal.returns
returns c = (Ok c.in_ok-asked.asked, (c.in_ok-asked.ensures, c.find_rows.ensures))
