-- The lines of one more test or row. Assumes nothing.
--   test_more    the line of one more test
--   marked_line, unmarked_line    the lines of a row alone: its own, or none
--   row_more     the line of one more row, where its bit is set
use Prim.Native.Nat.{ℕ, ◌+◌}
use native.Mathlib.Numerals.{add-one}
use mathlib.Core.Path.{◌≡◌, refl, sym, ap, ◌∙◌}
use mathlib.Core.List.{List, [], ◌∷◌, ◌++◌, flatten, append_assoc, append-nil}
use mathlib.Core.Bool.{true, false}
use Rattle.basis.specs.Lists.{those, below}
use Rattle.basis.proofs.Lists.{below_one_more, joined_one_more}
use Rattle.basis.proofs.Those.{those_joined}
use Rattle.query.specs.declared.Test.{Test}
use Rattle.bits.specs.Marked.{marked, marked_below}
use Rattle.lines.specs.Lines.{row_line}
use Rattle.sections.specs.Sections.{test_line_at, test_lines, row_lines}

pub test_more : (file : List ℕ) (tests : List Test) (counts : List ℕ) (t : ℕ) →
    test_lines file tests counts (t + 1) ≡ test_lines file tests counts t ++ test_line_at file tests counts t
unfolding test_lines
test_more file tests counts t = rw (add-one t) (joined_one_more (test_line_at file tests counts) t)

-- the lines of rows, and then of others
lines_joined : (file rows more : List ℕ) → row_lines file (rows ++ more) ≡ row_lines file rows ++ row_lines file more
unfolding row_lines flatten
lines_joined file [] more = refl
lines_joined file (row ∷ rows) more =
    ap (λ (rest : List ℕ). row_line file row ++ rest) (lines_joined file rows more)
    ∙ sym (append_assoc (row_line file row) (row_lines file rows) (row_lines file more))

module _ (file bits : List ℕ) (row : ℕ) where
  pub marked_line : marked bits row ≡ true → row_lines file (those (marked bits) (row ∷ [])) ≡ row_line file row
  unfolding row_lines flatten
  marked_line is = rw is (append-nil (row_line file row))

  pub unmarked_line : marked bits row ≡ false → row_lines file (those (marked bits) (row ∷ [])) ≡ []
  unfolding row_lines flatten
  unmarked_line is = rw is

pub row_more : (file bits : List ℕ) (row : ℕ) →
    row_lines file (marked_below (row + 1) bits) ≡ row_lines file (marked_below row bits) ++ row_lines file (those (marked bits) (row ∷ []))
unfolding marked_below
row_more file bits row =
    rw (add-one row)
    (ap (λ (rows : List ℕ). row_lines file (those (marked bits) rows)) (below_one_more row)
    ∙ ap (row_lines file) (those_joined (marked bits) (below row) (row ∷ []))
    ∙ lines_joined file (those (marked bits) (below row)) (those (marked bits) (row ∷ [])))
