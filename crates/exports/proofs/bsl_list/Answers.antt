-- `exports::bsl_list` meets its contract: the call's own promise, as it is shown. Assumes nothing.
use mathlib.Core.Path.{◌∙◌}
use Rattle.exports.proofs.bsl_list.Goals as goal

pub returns : goal.returns
returns c =
    let told = c.list-listed.ensures in
    record { reply = c.answer_reply.ensures ∙ told.shown; left = told.left }
