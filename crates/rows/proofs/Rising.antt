-- The row list rises: each row in it is less than every later one, so none stands in it twice. Assumes nothing.
--   list_rises    of two places of the list, the later holds the greater row
use Prim.Native.Nat.{ℕ, zero, suc, ◌<◌}
use native.Mathlib.Omega.{arith}
use mathlib.Core.List.{List, ◌∷◌}
use mathlib.Core.Bool.{Bool, true, false, cond}
use lib.ListN.{length, get_or}
use Rattle.basis.specs.Lists.{those, run}
use Rattle.basis.proofs.Lists.{at_is_member}
use Rattle.basis.proofs.Runs.{in_run}
use Rattle.basis.proofs.Those.{in_those}
use Rattle.bits.specs.Marked.{marked, marked_below}

-- each element is less than every later one
abbrev pub Rises : List ℕ → Type 0
Rises list = (i j : ℕ) → i < j → j < length list → get_or list i 0 < get_or list j 0

-- perhaps one more in front, less than all that follow
rises_on : (b : Bool) (first : ℕ) (rest : List ℕ) → ((k : ℕ) → k < length rest → first < get_or rest k 0) → Rises rest →
    Rises (cond b (first ∷ rest) rest)
rises_on true first rest above rises zero (suc j) h inside = above j (omega arith)
rises_on true first rest above rises (suc i) (suc j) h inside = rises i j (omega arith) (omega arith)
rises_on true first rest above rises i zero h inside = absurd (omega arith)
rises_on false first rest above rises i j h inside = rises i j h inside

those_rise : (test : ℕ → Bool) (first many : ℕ) → Rises (those test (run first many))
those_rise test first zero = λ i j h inside. absurd (omega arith)
those_rise test first (suc many) =
    let rest = those test (run (suc first) many) in
    rises_on (test first) first rest
    (λ k h. (in_run (suc first) many (get_or rest k 0) (in_those test (run (suc first) many) (at_is_member rest k 0 h)).0).0)
    (those_rise test (suc first) many)

pub list_rises : (rows : ℕ) (bits : List ℕ) → Rises (marked_below rows bits)
unfolding marked_below
list_rises rows bits = those_rise (marked bits) 0 rows
