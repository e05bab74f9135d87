-- `exports::bsl_scan` meets its contract: what the text asks is scanned, and the scan is the reply. Assumes nothing.
use mathlib.Core.Path.{ap, ◌∙◌}
use Rattle.replies.specs.Replies.{scan_reply}
use Rattle.exports.proofs.bsl_scan.Goals as goal

pub returns : goal.returns
returns c =
    let told = c.scan_asked-scanned.ensures in
    (told.0, (told.1.0, (c.scanned_reply.ensures ∙ ap scan_reply told.1.1.0, told.1.1.1)))
