-- What the loop of `counted_reply` keeps. Assumes nothing.
use mathlib.Core.Path.{◌≡◌}
use mathlib.Core.List.{map}
use lib.ListN.{length, get_or}
use Rattle.limits.specs.Limits.{most_tests, scan_numbers}
use Rattle.basis.specs.Lists.{below}
use Rattle.basis.proofs.Buffers.{Filled}
use Rattle.replies.proofs.counted_reply.Given as goal

abbrev pub invariant-loop-t : goal.invariant-loop-t
invariant-loop-t l =
    (length l.initial.reply ≡ scan_numbers) × Filled l.initial.reply 5 (map (λ i. get_or l.counts i 0) (below l.t)) l.reply
