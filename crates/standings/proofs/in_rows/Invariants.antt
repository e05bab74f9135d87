-- What the loop of `in_rows` keeps: the rows up to one are 1, and what is ahead is 0. Assumes nothing.
use Rattle.std.proofs.Common.{◌≡◌, ℕ, cond, ltb, length, get_or}
use Rattle.limits.specs.Limits.{longest_segment}
use Rattle.standings.proofs.in_rows.Given as goal

abbrev pub invariant-loop-r : goal.invariant-loop-r
invariant-loop-r l = (length l.inside ≡ longest_segment) × ((k : ℕ) → get_or l.inside k 0 ≡ cond (ltb k l.r) 1 0)
