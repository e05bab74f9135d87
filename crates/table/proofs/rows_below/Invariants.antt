-- What the loop of `rows_below` keeps. Assumes nothing.
use Prim.Native.Nat.{ℕ, ◌%◌, ◌<◌}
use lib.ListN.{get_or}
use Rattle.table.proofs.rows_below.Given as goal

abbrev pub invariant-loop-place : goal.invariant-loop-place
invariant-loop-place l =
    ((earlier : ℕ) → earlier < l.place → get_or l.joined earlier 0 < get_or l.limits (earlier % l.columns) 0)
