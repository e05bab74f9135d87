-- What a slice adds to a count: the segment's rows when it counts, nothing otherwise. Assumes nothing.
--   adds_no_more     a slice that counts only where another does adds no more
--   adds_at_most     and none adds more than the rows
--   adds_all         one that counts adds them
--   adds_none        one that does not count adds nothing
use Prim.Native.Nat.{ℕ, ◌≤◌}
use native.Mathlib.Omega.{arith}
use mathlib.Core.Path.{◌≡◌}
use mathlib.Core.Bool.{Bool, true, false, not, cond}
use lib.Dec.{T}
use Rattle.basis.proofs.Truth.{holds, fails, hit, missed}

pub adds_no_more : (counts other : Bool) (rows : ℕ) → (T counts → T other) → cond counts rows 0 ≤ cond other rows 0
adds_no_more true true rows makes = omega arith
adds_no_more true false rows makes = absurd (makes tt)
adds_no_more false other rows makes = omega arith

pub adds_at_most : (counts : Bool) (rows : ℕ) → cond counts rows 0 ≤ rows
adds_at_most true rows = omega arith
adds_at_most false rows = omega arith

pub adds_all : (counts : Bool) (rows : ℕ) → T counts → cond counts rows 0 ≡ rows
adds_all counts rows h = hit counts rows 0 (holds counts h)

pub adds_none : (counts : Bool) (rows : ℕ) → T (not counts) → cond counts rows 0 ≡ 0
adds_none counts rows h = missed counts rows 0 (fails counts h)
