-- A listing printed piece by piece. Assumes nothing.
--   wanted_of    how much of the listing a piece is to print
--   reached_by   the place behind what was taken of a piece
--   piece_ends   a piece that begins within the listing ends within it
--   goes_on      and so does the next
--   some_wanted  where something is left, something is wanted
use Prim.Native.Nat.{ℕ, ◌+◌, ◌-◌, ◌≤◌, ◌<◌}
use native.Mathlib.Omega.{arith}
use native.Mathlib.Nat.{min-le_right, le-min}
use mathlib.Core.List.{List}
use lib.ListN.{length}
use Rattle.std.specs.Prelude.{min, Result, Ok, Err}
use Rattle.printing.specs.declared.CutShort.{CutShort}
use Rattle.printing.specs.declared.Piece.{Piece}
use Rattle.printing.specs.Printing.{PieceOf, all_by}

abbrev pub wanted_of : List ℕ → ℕ → Result Piece CutShort → ℕ
wanted_of after from piece = min (length after) (all_by piece - from)

abbrev pub reached_by : ℕ → Result Piece CutShort → ℕ
reached_by from (Ok piece) = from + piece.put
reached_by from (Err cut) = cut.written

module _ (listing : List ℕ) (from : ℕ) (before after : List ℕ) where
  pub piece_ends : (piece : Result Piece CutShort) → PieceOf listing from before after piece → from ≤ length listing →
      reached_by from piece ≤ all_by piece
  piece_ends (Ok piece) made reached =
      omega (arith, made.taken, min-le_right (length after) (piece.all - from), made.made.whole)
  piece_ends (Err cut) made reached =
      omega (arith, made.taken, min-le_right (length after) (cut.all - from), made.made.whole)

  pub goes_on : (piece : Result Piece CutShort) → PieceOf listing from before after piece → from ≤ length listing →
      reached_by from piece ≤ length listing
  goes_on piece made reached = omega (arith, piece_ends piece made reached, made.made.whole)

  pub some_wanted : (piece : Result Piece CutShort) → 0 < length after → from < all_by piece → 0 < wanted_of after from piece
  some_wanted piece room left = omega (arith, le-min {k = 1} {a = length after} {b = all_by piece - from} (omega arith) (omega arith))
