-- A list that is filled from its front, one store a turn. Assumes nothing.
--   holds_nothing     at first nothing is asked of it
--   holds_one_more    a turn stores what is made of the next place
use Prim.Native.Nat.{ℕ, ◌+◌, ◌<◌}
use native.Mathlib.Omega.{arith}
use mathlib.Core.Path.{◌≡◌, ◌∙◌}
use mathlib.Core.List.{List}
use borrow.Author.Count.{below_none, below_more}
use lib.ListN.{length, get_or, set}
use lib.Seq.{get_or-set_same, get_or-set_other}
use Rattle.table.specs.ManyAtOnce.{Holds}

pub holds_nothing : (made : ℕ → ℕ) (list : List ℕ) → Holds made 0 list
holds_nothing made list = record { each = below_none _ }

pub holds_one_more : (made : ℕ → ℕ) (n : ℕ) (list : List ℕ) (value : ℕ) → Holds made n list → n < length list → value ≡ made n →
    Holds made (n + 1) (set list n value)
holds_one_more made n list value so_far room same =
    record {
      each =
          below_more (λ place. get_or (set list n value) place 0 ≡ made place) n
          (λ place h. get_or-set_other list n place value 0 (omega arith) ∙ so_far.each place h)
          (get_or-set_same list n value 0 room ∙ same);
    }
