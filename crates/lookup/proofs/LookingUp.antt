-- Looking up, walked along its table: a file that opens leaves the own lines, and what leads past each. Assumes nothing.
--   Passed          so many of the own lines have been passed over
--   own_lines_lem       the file opens: none of them yet
--   column_there    past 12
--   rows_there      past 15
--   none_answers    past 10, the last
use Prim.Native.Nat.{ℕ, ◌≤◌, ◌<◌}
use mathlib.Core.Path.{◌≡◌}
use mathlib.Core.List.{List}
use mathlib.Core.Option.{none}
use borrow.Author.Tests.{le-ltb, lt-leb}
use lib.ListN.{length, drop}
use Rattle.basis.specs.Refusals.{first_line}
use Rattle.basis.proofs.Refusals.{Past, passes, ends}
use Rattle.register.specs.declared.Shape.{Shape}
use Rattle.std.specs.Prelude.{Ok}
use Rattle.register.specs.Opening.{opened_of}
use Rattle.register.proofs.Fit.{rows_as_opened, columns_as_opened}
use Rattle.register.proofs.PassedOn.{own_lines_next}
use Rattle.lookup.specs.LookingUp.{first_missing, own_lines, look_up_lines}

abbrev pub Passed : List ℕ → ℕ → List ℕ → ℕ → ℕ → Type 0
Passed file column list room many = Past (look_up_lines file column list room) (drop many (own_lines file column list room))

module _ (file : List ℕ) (column : ℕ) (list : List ℕ) (room : ℕ) (shape : Shape) (opened : opened_of file ≡ Ok shape) where
  pub own_lines_lem : Passed file column list room 0
  own_lines_lem = own_lines_next file (own_lines file column list room) shape opened

  pub column_there : column < shape.columns → Passed file column list room 1
  unfolding own_lines
  column_there there = passes own_lines_lem (lt-leb _ column (rw (columns_as_opened file shape opened) at there))

  module _ (there : column < shape.columns) (present : length list ≤ first_missing shape.rows list) where
    pub rows_there : Passed file column list room 2
    unfolding own_lines
    rows_there = passes (column_there there) (le-ltb _ (length list) (rw (rows_as_opened file shape opened) at present))

    pub none_answers : length list ≤ room → first_line (look_up_lines file column list room) ≡ none
    unfolding own_lines
    none_answers h = ends (passes rows_there (le-ltb room (length list) h))
