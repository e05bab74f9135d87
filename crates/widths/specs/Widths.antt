-- The widths of a register's columns: opening's refusals, then 10, or one width for each column. Assumes nothing.
use Rattle.std.specs.Prelude.{ℕ, List, [], ◌∷◌, ◌++◌, map, ltb, length, Result}
use Rattle.basis.specs.Lists.{below}
use Rattle.basis.specs.Refusals.{Line, refuse, answer_of}
use Rattle.refusals.specs.declared.Refusal.{Refusal}
use Rattle.refusals.specs.declared.Refusal.TheVariants.{OutputTooShort}
use Rattle.answers.specs.Answers as answers
use Rattle.directory.specs.File.{columns_in, width_in}
use Rattle.register.specs.Opening.{open_lines}

-- the width of every column, in their order
unfoldable pub widths_of : List ℕ → List ℕ
widths_of file = map (width_in file) (below (columns_in file))

module _ (file : List ℕ) (room : ℕ) where
  -- 10: the output is too short; need: the number of columns
  unfoldable pub own_lines : List Line
  own_lines = refuse (OutputTooShort (columns_in file)) (ltb room (columns_in file)) ∷ []

  -- the file is opened first
  abbrev pub widths_lines : List Line
  widths_lines = open_lines file ++ own_lines

  -- the answer
  abbrev pub measured_of : Result ℕ Refusal
  measured_of = answer_of widths_lines (columns_in file)

  -- what is shown, from the same table
  abbrev pub shown_for : List ℕ
  shown_for = answers.shown_for widths_lines (columns_in file)

-- what the output then holds: the widths, and after them what was there before; refused, all that was there before
abbrev pub left_in : List ℕ → List ℕ → List ℕ
left_in file out = answers.left_by (widths_lines file (length out)) out (widths_of file)
