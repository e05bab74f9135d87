-- What the loop of `number_of` keeps: the number is that of the bytes from some place on, those that the loop has taken. Assumes nothing.
use Prim.Native.Nat.{ℕ}
use mathlib.Core.Path.{◌≡◌}
use mathlib.Core.List.{List, ◌++◌}
use Rattle.numbers.specs.OfBytes.{OfBytes}
use Rattle.numbers.proofs.number_of.Given as goal

abbrev pub invariant-loop-byte : goal.invariant-loop-byte
invariant-loop-byte l =
    (taken : List ℕ) × (l.bytes ≡ l.byte-iterator.iter.rest.now ++ taken) × OfBytes taken l.number
