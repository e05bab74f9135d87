-- Listing, walked along its table: what leads past each line. Assumes nothing.
--   Passed          so many lines of the table have been passed over
--   few_rows        past 3
--   bits_fit        past 16
--   none_answers    past 10, the last
use Prim.Native.Nat.{ℕ, ◌≤◌}
use mathlib.Core.Path.{◌≡◌}
use mathlib.Core.List.{List}
use mathlib.Core.Bool.{false}
use mathlib.Core.Option.{none}
use borrow.Author.Tests.{le-ltb}
use lib.ListN.{length, drop}
use Rattle.basis.specs.Refusals.{first_line}
use Rattle.basis.proofs.Refusals.{Past, at_first, passes, ends}
use Rattle.limits.specs.Limits.{most_rows}
use Rattle.bits.specs.Marked.{marked_below, unfit_bits}
use Rattle.rows.specs.RowList.{list_lines}

module _ (rows : ℕ) (bits : List ℕ) (room : ℕ) where
  abbrev pub Passed : ℕ → Type 0
  Passed many = Past (list_lines rows bits room) (drop many (list_lines rows bits room))

  pub few_rows : rows ≤ most_rows → Passed 1
  unfolding list_lines
  few_rows h = passes (at_first (list_lines rows bits room)) (le-ltb most_rows rows h)

  pub bits_fit : rows ≤ most_rows → unfit_bits rows bits ≡ false → Passed 2
  unfolding list_lines
  bits_fit few fit = passes (few_rows few) fit

  pub none_answers : rows ≤ most_rows → unfit_bits rows bits ≡ false → length (marked_below rows bits) ≤ room →
      first_line (list_lines rows bits room) ≡ none
  unfolding list_lines
  none_answers few fit h = ends (passes (bits_fit few fit) (le-ltb room (length (marked_below rows bits)) h))
