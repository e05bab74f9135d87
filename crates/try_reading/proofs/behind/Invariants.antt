-- What the loop of `try_reading::behind` keeps: what is passed holds none of the bytes. Assumes nothing.
use Rattle.std.proofs.Common.{◌+◌, ◌≡◌, drop}
use Rattle.try_reading.specs.Requests.{behind_of}
use Rattle.try_reading.proofs.behind.Given as goal

abbrev pub invariant-loop-i : goal.invariant-loop-i
invariant-loop-i l = behind_of l.byte l.bytes ≡ l.i + behind_of l.byte (drop l.i l.bytes)
