-- `try_calls::answer_all` goes from line to line: each has a byte at least. Assumes nothing.
use Rattle.std.proofs.Common.{length, ◌+◌, ◌≤◌}
use Rattle.try_calls.proofs.answer_all.Given as goal

abbrev pub invariant-loop-rest : goal.invariant-loop-rest
invariant-loop-rest g l = l.lines + length l.rest ≤ length l.requests

abbrev pub decreases-loop-rest : goal.decreases-loop-rest
decreases-loop-rest g l = length l.rest
