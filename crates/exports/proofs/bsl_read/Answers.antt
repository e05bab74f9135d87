-- `exports::bsl_read` meets its contract: the reader's own reply, as numbers. Assumes nothing.
use Rattle.exports.proofs.bsl_read.Goals as goal

pub returns : goal.returns
returns c =
    (c.read-asked.result, (c.read-asked.ensures, c.read_reply.ensures))
