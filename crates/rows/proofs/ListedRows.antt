-- A row is in the list exactly when it is one of the rows and its bit is set. Assumes nothing.
--   listed_is_marked    a row of the list is below the rows, and its bit is 1
--   marked_is_listed    a row below the rows whose bit is 1 is in the list
use Prim.Native.Nat.{ℕ, ◌<◌}
use mathlib.Core.Path.{◌≡◌}
use mathlib.Core.List.{List}
use borrow.Author.Tests.{eqb-true, eq-eqb}
use Rattle.basis.specs.Lists.{below}
use Rattle.basis.proofs.Members.{◌∈◌}
use Rattle.basis.proofs.Runs.{in_below, below_holds}
use Rattle.basis.proofs.Those.{in_those, those_hold}
use Rattle.bits.specs.Bits.{bit_in}
use Rattle.bits.specs.Marked.{marked, marked_below}

module _ (rows : ℕ) (bits : List ℕ) (row : ℕ) where
  pub listed_is_marked : row ∈ marked_below rows bits → (row < rows) × (bit_in bits row ≡ 1)
  unfolding marked_below
  listed_is_marked m =
      let found = in_those (marked bits) (below rows) m in
      (in_below rows row found.0, eqb-true (bit_in bits row) 1 found.1)

  pub marked_is_listed : row < rows → bit_in bits row ≡ 1 → row ∈ marked_below rows bits
  unfolding marked_below
  marked_is_listed inside is = those_hold (marked bits) (below_holds rows row inside) (eq-eqb (bit_in bits row) 1 is)
