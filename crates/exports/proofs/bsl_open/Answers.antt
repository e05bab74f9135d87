-- `exports::bsl_open` meets its contract: the call's own promise, as it is shown. Assumes nothing.
use mathlib.Core.Path.{◌∙◌}
use Rattle.exports.proofs.bsl_open.Goals as goal

pub returns : goal.returns
returns c = c.opened_reply.ensures ∙ c.open-opened.ensures.shown
