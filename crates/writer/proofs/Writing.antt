-- Writing, walked along its table: what leads past each line. Assumes nothing.
--   Passed          so many lines of the table have been passed over
--   few_rows        past 3
--   few_columns     past 4: some columns, and not too many
--   all_fit         past 6
--   counted         past 9
--   all_below       past 8
--   none_answers    past 10, the last
use Prim.Native.Nat.{ℕ, ◌*◌, ◌≤◌}
use mathlib.Core.Path.{◌≡◌}
use mathlib.Core.List.{List}
use mathlib.Core.Option.{none}
use lib.ListN.{length, drop}
use borrow.Author.Tests.{le-ltb, ne_eqb}
use Rattle.basis.specs.Refusals.{first_line}
use Rattle.basis.proofs.Truth.{nor, agrees}
use Rattle.basis.proofs.Refusals.{Past, at_first, passes, ends}
use Rattle.limits.specs.Limits.{most_rows, most_columns}
use Rattle.table.specs.Table.{first_unfit_width, first_too_large}
use Rattle.filing.specs.Layout.{file_length}
use Rattle.writer.specs.Writing.{write_lines}

module _ (rows : ℕ) (widths codes : List ℕ) (room : ℕ) where
  abbrev pub Passed : ℕ → Type 0
  Passed many = Past (write_lines rows widths codes room) (drop many (write_lines rows widths codes room))

  pub few_rows : rows ≤ most_rows → Passed 1
  unfolding write_lines
  few_rows h = passes (at_first (write_lines rows widths codes room)) (le-ltb most_rows rows h)

  pub few_columns : Passed 1 → (length widths ≡ 0 → ⊥) → length widths ≤ most_columns → Passed 2
  unfolding write_lines
  few_columns past present h = passes past (nor _ _ (ne_eqb (length widths) 0 present) (le-ltb most_columns (length widths) h))

  pub all_fit : Passed 2 → length widths ≤ first_unfit_width widths → Passed 3
  unfolding write_lines
  all_fit past h = passes past (le-ltb (first_unfit_width widths) (length widths) h)

  pub counted : Passed 3 → length codes ≡ rows * length widths → Passed 4
  unfolding write_lines
  counted past h = passes past (agrees (length codes) (rows * length widths) h)

  pub all_below : Passed 4 → length codes ≤ first_too_large widths codes → Passed 5
  unfolding write_lines
  all_below past h = passes past (le-ltb (first_too_large widths codes) (length codes) h)

  pub none_answers : Passed 5 → file_length rows widths ≤ room → first_line (write_lines rows widths codes room) ≡ none
  unfolding write_lines
  none_answers past h = ends (passes past (le-ltb room (file_length rows widths) h))
