-- What the loop of `write_run` keeps: every number passed has its byte in its place. Assumes nothing.
use Prim.Native.Nat.{ℕ, ◌/◌, ◌%◌, ◌^◌}
use mathlib.Core.List.{List, map}
use lib.ListN.{get_or}
use Rattle.basis.specs.Lists.{below}
use Rattle.basis.proofs.Buffers.{Filled}
use Rattle.slicing.proofs.write_run.Given as goal

-- the byte of a number
abbrev pub byte_in : List ℕ → ℕ → ℕ → ℕ
byte_in stored shift k = get_or stored k 0 / 2 ^ shift % 256

abbrev pub invariant-loop-k : goal.invariant-loop-k
invariant-loop-k l = Filled l.initial.out l.at (map (byte_in l.stored l.shift) (below l.k)) l.out
