-- What the loop of `first_too_large` keeps. Assumes nothing.
use Prim.Native.Nat.{ℕ, ◌*◌, ◌<◌}
use mathlib.Core.Path.{◌≡◌}
use mathlib.Core.Bool.{false}
use lib.ListN.{length}
use Rattle.table.specs.Table.{too_large_at}
use Rattle.table.proofs.first_too_large.Given as goal

abbrev pub invariant-loop-row : goal.invariant-loop-row
invariant-loop-row l =
    ((earlier : ℕ) → earlier < l.row * length l.widths → too_large_at l.widths l.codes earlier ≡ false)
