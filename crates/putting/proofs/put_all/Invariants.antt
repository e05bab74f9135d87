-- `putting::put_all`: a write takes of what the writes before it left, so what is counted never passes the end. The measure is what is left
-- of the bytes and of the waits. Assumes nothing.
use Rattle.std.proofs.Common.{length, ◌+◌, ◌-◌, ◌≤◌}
use Rattle.putting.proofs.put_all.Given as goal

abbrev pub invariant-loop-taken : goal.invariant-loop-taken
invariant-loop-taken g l = l.taken ≤ length l.bytes

abbrev pub decreases-loop-taken : goal.decreases-loop-taken
decreases-loop-taken g l = (length l.bytes - l.taken) + l.waits
