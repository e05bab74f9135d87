-- `printing::print_found`: each piece begins where those before it end, and no more is written than there is. The measure is how many
-- numbers are left above what is written. Assumes nothing.
use Prim.Native.Nat.{◌-◌, ◌≤◌, ◌<◌, ◌^◌}
use mathlib.Core.Path.{◌≡◌}
use lib.ListN.{length}
use Rattle.listing.specs.Found.{found_lines}
use Rattle.printing.proofs.print_found.Given as goal

abbrev pub invariant-loop-piece : goal.invariant-loop-piece
invariant-loop-piece g l =
    (0 < length l.out) × (length l.out ≡ length l.initial.out) × (l.written ≤ length (found_lines l.file l.bits l.found))

abbrev pub decreases-loop-piece : goal.decreases-loop-piece
decreases-loop-piece g l = 2 ^ 64 - l.written
