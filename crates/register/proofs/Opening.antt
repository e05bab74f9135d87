-- Opening, walked along its table: what leads past each line, and what the line that answers settles. Assumes nothing.
--   Passed            so many lines of the table have been passed over
--   marked            past 1: 16 bytes, and the mark
--   right_version     past 2
--   few_rows          past 3
--   few_columns       past 4: some columns, and not too many
--   directory_last    past 5
--   all_fit           past 6
--   body_last         past 7, the last: none answers
--   refused_by, opened_by    from the line that answers, or from none, to all that opening promises
use Prim.Native.Nat.{ℕ, ◌+◌, ◌*◌, ◌≤◌}
use mathlib.Core.Path.{◌≡◌, refl}
use mathlib.Core.List.{List}
use mathlib.Core.Option.{none, some}
use lib.ListN.{length, drop}
use borrow.Author.Tests.{le-ltb, ne_eqb}
use Rattle.basis.specs.Refusals.{Line, first_line, answer_of}
use Rattle.basis.proofs.Truth.{nor, agrees}
use Rattle.basis.proofs.Refusals.{Past, at_first, passes, ends}
use Rattle.limits.specs.Limits.{most_rows, most_columns, entry_bytes, trailer_bytes}
use Rattle.std.specs.Prelude.{Result, Ok, Err}
use Rattle.refusals.specs.declared.Refusal.{Refusal}
use Rattle.register.specs.declared.Shape.{Shape}
use Rattle.directory.specs.Layout.{bytes_before}
use Rattle.directory.specs.File.{rows_in, columns_in, version_in, directory_in, mark_in, mark, width_in}
use Rattle.register.specs.Answers.{shown_of}
use Rattle.register.specs.Opening.{first_unfit_column, open_lines, shape_in, opened_of, shown_for}

module _ (file : List ℕ) where
  abbrev pub Passed : ℕ → Type 0
  Passed many = Past (open_lines file) (drop many (open_lines file))

  pub marked : trailer_bytes ≤ length file → mark_in file ≡ mark → Passed 1
  unfolding open_lines
  marked long h = passes (at_first (open_lines file)) (nor _ _ (le-ltb (length file) trailer_bytes long) (agrees (mark_in file) mark h))

  pub right_version : Passed 1 → version_in file ≡ 1 → Passed 2
  unfolding open_lines
  right_version past h = passes past (agrees (version_in file) 1 h)

  pub few_rows : Passed 2 → rows_in file ≤ most_rows → Passed 3
  unfolding open_lines
  few_rows past h = passes past (le-ltb most_rows (rows_in file) h)

  pub few_columns : Passed 3 → (columns_in file ≡ 0 → ⊥) → columns_in file ≤ most_columns → Passed 4
  unfolding open_lines
  few_columns past present h = passes past (nor _ _ (ne_eqb (columns_in file) 0 present) (le-ltb most_columns (columns_in file) h))

  pub directory_last : Passed 4 → directory_in file + entry_bytes * columns_in file + trailer_bytes ≡ length file → Passed 5
  unfolding open_lines
  directory_last past h = passes past (agrees (directory_in file + entry_bytes * columns_in file + trailer_bytes) (length file) h)

  pub all_fit : Passed 5 → columns_in file ≤ first_unfit_column file → Passed 6
  unfolding open_lines
  all_fit past h = passes past (le-ltb (first_unfit_column file) (columns_in file) h)

  pub body_last : Passed 6 → bytes_before (rows_in file) (width_in file) (columns_in file) ≡ directory_in file →
      first_line (open_lines file) ≡ none
  unfolding open_lines
  body_last past h = ends (passes past (agrees (bytes_before (rows_in file) (width_in file) (columns_in file)) (directory_in file) h))

  -- what opening promises of its answer
  abbrev Promised : Result Shape Refusal → Type 0
  Promised reply = record { answer : reply ≡ opened_of file; shown : shown_of reply ≡ shown_for file }

  pub refused_by : {line : Line} → first_line (open_lines file) ≡ some line → Promised (Err line.refusal)
  unfolding answer_of opened_of shown_for
  refused_by first = rw first (record { answer = refl; shown = refl })

  pub opened_by : first_line (open_lines file) ≡ none → {rows columns : ℕ} → rows ≡ rows_in file → columns ≡ columns_in file →
      Promised (Ok (record { rows = rows; columns = columns }))
  unfolding answer_of opened_of shown_for
  opened_by first rows_read columns_read = rw (rows_read, columns_read, first) (record { answer = refl; shown = refl })
