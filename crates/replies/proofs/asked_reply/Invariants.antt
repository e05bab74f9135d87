-- What the loop of `asked_reply` keeps. Assumes nothing.
use mathlib.Core.Path.{◌≡◌}
use mathlib.Core.List.{map, flatten}
use lib.ListN.{length}
use Rattle.limits.specs.Limits.{most_tests, read_numbers}
use Rattle.basis.specs.Lists.{below}
use Rattle.basis.proofs.Buffers.{Filled}
use Rattle.replies.proofs.Behind.{slot_at}
use Rattle.replies.proofs.asked_reply.Given as goal

abbrev pub invariant-loop-t : goal.invariant-loop-t
invariant-loop-t l =
    (length l.initial.reply ≡ read_numbers) × Filled l.initial.reply 5 (flatten (map (slot_at l.tests) (below l.t))) l.reply
