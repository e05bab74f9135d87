-- Looking up: the opening's refusal, then 12, 15, 10, or the code of each row that is listed. Assumes nothing.
use Rattle.std.specs.Prelude.{ℕ, List, [], ◌∷◌, ◌++◌, map, leb, ltb, length, get_or, Result}
use Rattle.basis.specs.Places.{first_place}
use Rattle.basis.specs.Refusals.{Line, refuse, answer_of}
use Rattle.refusals.specs.declared.Refusal.{Refusal}
use Rattle.refusals.specs.declared.Refusal.TheVariants.{NoSuchColumn, NoSuchRow, OutputTooShort}
use Rattle.answers.specs.Answers as answers
use Rattle.directory.specs.File.{rows_in, columns_in}
use Rattle.register.specs.Cells.{code_at}
use Rattle.register.specs.Opening.{open_lines}

-- the lowest index in the list of a row number that is not below the rows
abbrev pub first_missing : ℕ → List ℕ → ℕ
first_missing rows list = first_place (λ i. leb rows (get_or list i 0)) (length list)

-- the code of each listed row, in the list's order
unfoldable pub codes_of : List ℕ → ℕ → List ℕ → List ℕ
codes_of file column list = map (code_at file column) list

module _ (file : List ℕ) (column : ℕ) (list : List ℕ) (room : ℕ) where
  -- 12: no such column
  -- 15: a row number is not below the rows; place: the lowest index of such a one
  -- 10: the output is too short; need: the length of the list
  unfoldable pub own_lines : List Line
  own_lines =
      refuse (NoSuchColumn 0) (leb (columns_in file) column)
      ∷ refuse (NoSuchRow (first_missing (rows_in file) list)) (ltb (first_missing (rows_in file) list) (length list))
      ∷ refuse (OutputTooShort (length list)) (ltb room (length list))
      ∷ []

  -- the file is opened first
  abbrev pub look_up_lines : List Line
  look_up_lines = open_lines file ++ own_lines

  -- the answer
  abbrev pub looked_up_of : Result ℕ Refusal
  looked_up_of = answer_of look_up_lines (length list)

  -- what is shown, from the same table
  abbrev pub shown_for : List ℕ
  shown_for = answers.shown_for look_up_lines (length list)

-- what the output then holds: the codes, and after them what was there before; refused, all that was there before
abbrev pub left_in : List ℕ → ℕ → List ℕ → List ℕ → List ℕ
left_in file column list out = answers.left_by (look_up_lines file column list (length out)) out (codes_of file column list)
