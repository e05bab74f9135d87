-- What the loop of `join` keeps: the number so far is that of the bytes passed. Assumes nothing.
use Prim.Native.Nat.{◌^◌, ◌<◌}
use mathlib.Core.Path.{◌≡◌}
use lib.ListN.{take}
use Rattle.codes.specs.Bytes.{big}
use Rattle.codes.proofs.join.Given as goal

abbrev pub invariant-loop-byte : goal.invariant-loop-byte
invariant-loop-byte l = (l.number ≡ big (take l.byte-index l.bytes)) × (l.number < 256 ^ l.byte-index)
