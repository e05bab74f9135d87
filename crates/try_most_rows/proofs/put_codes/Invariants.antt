-- What the loop of `put_codes` keeps. Assumes nothing.
use Prim.Native.Nat.{◌≤◌}
use mathlib.Core.Path.{◌≡◌}
use lib.ListN.{length}
use Rattle.try_most_rows.specs.Made.{HasCodes}
use Rattle.try_most_rows.proofs.put_codes.Given as goal

abbrev pub invariant-loop-row : goal.invariant-loop-row
invariant-loop-row l = (l.row ≤ 1048576) × (length l.file ≡ length l.initial.file) × HasCodes l.row l.file
