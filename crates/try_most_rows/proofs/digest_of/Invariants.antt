-- What the loop of `digest_of` keeps. Assumes nothing.
use Rattle.std.proofs.Common.{◌<◌}
use Rattle.try_most_rows.proofs.digest_of.Given as goal

abbrev pub invariant-loop-byte : goal.invariant-loop-byte
invariant-loop-byte l = l.digest < 65521
