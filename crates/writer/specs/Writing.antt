-- Writing a register: refusals 3, 4, 6, 9, 8, 10 in that order, or its file. Assumes nothing.
use Rattle.std.specs.Prelude.{ℕ, ◌*◌, List, [], ◌∷◌, not, ◌||◌, ltb, eqb, length, Result}
use Rattle.basis.specs.Refusals.{Line, refuse, answer_of}
use Rattle.limits.specs.Limits.{most_rows, most_columns}
use Rattle.refusals.specs.declared.Refusal.{Refusal}
use Rattle.refusals.specs.declared.Refusal.TheVariants.{TooManyRows, UnfitColumnCount, UnfitColumn, CodeTooLarge, UnfitCodeCount, OutputTooShort}
use Rattle.answers.specs.Answers as answers
use Rattle.table.specs.Table.{first_unfit_width, first_too_large}
use Rattle.filing.specs.Layout.{file_of, file_length}

module _ (rows : ℕ) (widths codes : List ℕ) (room : ℕ) where
  -- 3: too many rows
  -- 4: no columns, or too many
  -- 6: a width fits no column; place: the lowest such column
  -- 9: the number of codes is not rows x columns
  -- 8: a code is too large for its column; place: the lowest index of such a code
  -- 10: the output is too short; need: the file's length
  unfoldable pub write_lines : List Line
  write_lines =
      refuse TooManyRows (ltb most_rows rows)
      ∷ refuse UnfitColumnCount (eqb (length widths) 0 || ltb most_columns (length widths))
      ∷ refuse (UnfitColumn (first_unfit_width widths)) (ltb (first_unfit_width widths) (length widths))
      ∷ refuse UnfitCodeCount (not (eqb (length codes) (rows * length widths)))
      ∷ refuse (CodeTooLarge (first_too_large widths codes)) (ltb (first_too_large widths codes) (length codes))
      ∷ refuse (OutputTooShort (file_length rows widths)) (ltb room (file_length rows widths))
      ∷ []

  -- the answer
  abbrev pub written_of : Result ℕ Refusal
  written_of = answer_of write_lines (file_length rows widths)

  -- what is shown, from the same table
  abbrev pub shown_for : List ℕ
  shown_for = answers.shown_for write_lines (file_length rows widths)

-- what the output then holds: the file, and after it what was there before; refused, all that was there before
abbrev pub left_in : ℕ → List ℕ → List ℕ → List ℕ → List ℕ
left_in rows widths codes out = answers.left_by (write_lines rows widths codes (length out)) out (file_of rows widths codes)
