-- `replies::read_reply` meets its contract: what is asked, or the refusal, whose slots are all 0. Assumes nothing.
use mathlib.Core.List.{flatten}
use mathlib.Core.Path.{◌∙◌}
use Rattle.replies.specs.Replies.{read_reply}
use Rattle.replies.proofs.read_reply.Goals as goal

pub returns-in-Err : goal.returns-in-Err
unfolding read_reply flatten
returns-in-Err c = rw c.in-Err.is c.refused_reply.ensures
