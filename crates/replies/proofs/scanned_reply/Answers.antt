-- `replies::scanned_reply` meets its contract: what was found, or the refusal, whose counts are all 0. Assumes nothing.
use Rattle.replies.specs.Replies.{scan_reply}
use Rattle.replies.proofs.scanned_reply.Goals as goal

pub returns-in-Err : goal.returns-in-Err
unfolding scan_reply
returns-in-Err c = rw c.in-Err.is c.refused_reply.ensures
