-- Lists joined in their order: where each of them stands. Assumes nothing.
--   joined_part   each stands where those before it end
use Prim.Native.Nat.{ℕ, zero, suc, ◌+◌, ◌<◌}
use native.Mathlib.Nat.{add-zero, add-suc, le_dest}
use mathlib.Core.Path.{◌≡◌, refl}
use mathlib.Core.List.{List, map, flatten}
use lib.ListN.{length}
use Rattle.basis.specs.Lists.{below}
use Rattle.basis.proofs.Lists.{joined_one_more}
use Rattle.slicing.proofs.Parts.{PartAt, part_itself, part_in_front, part_behind}

module _ {A : Type 0} (list : ℕ → List A) (i : ℕ) where
  -- with so many more behind it
  with_more : (more : ℕ) → PartAt (flatten (map list (below (suc i + more)))) (length (flatten (map list (below i)))) (list i)
  with_more zero =
      let last = part_behind (flatten (map list (below i))) _ refl (part_itself (list i)) in
      rw (add-zero (suc i), joined_one_more list i) (rw add-zero at last)
  with_more (suc more) = rw (add-suc, joined_one_more list (suc i + more)) (part_in_front (list (suc i + more)) (with_more more))

  pub joined_part : (n at : ℕ) → i < n → length (flatten (map list (below i))) ≡ at → PartAt (flatten (map list (below n))) at (list i)
  joined_part n at among is = let more = le_dest among in rw (← is, ← more.1) (with_more more.0)
