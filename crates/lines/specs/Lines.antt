-- The lines of a listing, as bytes. Numbers stand in decimal, as in a query's text. Assumes nothing.
use Rattle.std.specs.Prelude.{ℕ}
use mathlib.Core.List.{List, [], ◌∷◌, ◌++◌, map, flatten}
use Rattle.basis.specs.Lists.{below}
use Rattle.refusals.specs.declared.Refusal.{Refusal}
use Rattle.refusals.specs.Numbers.{number_of, place_of}
use Rattle.directory.specs.File.{columns_in}
use Rattle.register.specs.Cells.{code_at}
use Rattle.decimals.specs.Decimals.{decimal, space, line_feed}

-- "rows ", " matches "
abbrev rows_word : List ℕ
rows_word = 114 ∷ 111 ∷ 119 ∷ 115 ∷ space ∷ []

abbrev matches_word : List ℕ
matches_word = space ∷ 109 ∷ 97 ∷ 116 ∷ 99 ∷ 104 ∷ 101 ∷ 115 ∷ space ∷ []

-- "test ", " read ", " of "
abbrev test_word : List ℕ
test_word = 116 ∷ 101 ∷ 115 ∷ 116 ∷ space ∷ []

abbrev read_word : List ℕ
read_word = space ∷ 114 ∷ 101 ∷ 97 ∷ 100 ∷ space ∷ []

abbrev of_word : List ℕ
of_word = space ∷ 111 ∷ 102 ∷ space ∷ []

-- "row ", ":"
abbrev row_word : List ℕ
row_word = 114 ∷ 111 ∷ 119 ∷ space ∷ []

abbrev colon : ℕ
colon = 58

-- "refused "
abbrev refused_word : List ℕ
refused_word = 114 ∷ 101 ∷ 102 ∷ 117 ∷ 115 ∷ 101 ∷ 100 ∷ space ∷ []

-- line 1: rows, matches
unfoldable pub head_line : ℕ → ℕ → List ℕ
head_line rows matches = rows_word ++ (decimal rows ++ (matches_word ++ (decimal matches ++ (line_feed ∷ []))))

-- a test's line: its number, its count, rows x B
unfoldable pub test_line : ℕ → ℕ → ℕ → List ℕ
test_line number count most =
    test_word ++ (decimal number ++ (read_word ++ (decimal count ++ (of_word ++ (decimal most ++ (line_feed ∷ []))))))

-- a row's codes in the first so many columns, a space before each
unfoldable pub cells : List ℕ → ℕ → ℕ → List ℕ
cells file row columns = flatten (map (λ column. space ∷ decimal (code_at file column row)) (below columns))

-- a row's line: its number, then its code in every column
unfoldable pub row_line : List ℕ → ℕ → List ℕ
row_line file row = row_word ++ (decimal row ++ (colon ∷ (cells file row (columns_in file) ++ (line_feed ∷ []))))

-- a refusal's line: "refused", number and place
unfoldable pub refused_line : Refusal → List ℕ
refused_line refusal = refused_word ++ (decimal (number_of refusal) ++ (space ∷ (decimal (place_of refusal) ++ (line_feed ∷ []))))
