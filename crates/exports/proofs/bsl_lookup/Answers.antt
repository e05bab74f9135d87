-- `exports::bsl_lookup` meets its contract: the call's own promise, as it is shown. Assumes nothing.
use mathlib.Core.Path.{◌∙◌}
use Rattle.exports.proofs.bsl_lookup.Goals as goal

pub returns : goal.returns
returns c =
    let told = c.look_up-looked_up.ensures in
    record { reply = c.answer_reply.ensures ∙ told.shown; left = told.left }
