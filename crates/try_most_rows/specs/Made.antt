-- The file of as many rows as there may be, by its parts. Assumes nothing.
use Rattle.std.specs.Prelude.{ℕ, ◌+◌, ◌*◌, ◌/◌, ◌%◌, ◌<◌, ◌≡◌, List, [], ◌∷◌, ◌++◌, cond, ltb, length, get_or}
use Rattle.basis.specs.Numbers.{to_little}
use Rattle.query.specs.declared.Comparison.{Comparison}
use Rattle.query.specs.declared.Test.{Test}

-- the bytes of the two slices, and those of the file
abbrev pub body_bytes : ℕ
body_bytes = 2097152

abbrev pub file_bytes : ℕ
file_bytes = 2097176

-- what a file then holds that is long enough; a shorter one is left as it is
abbrev pub if_long : List ℕ → List ℕ → List ℕ
if_long file after = cond (ltb (length file) file_bytes) file after

-- the code of a row
abbrev pub code_of : ℕ → ℕ
code_of row = (row * 1103 + row / 7 * 331) % 5000 % 4096

-- the codes of the rows below a number stand in the two slices
pub record HasCodes (n : ℕ) (file : List ℕ) : Type 0 where
  pub first : (row : ℕ) → row < n → get_or file row 0 ≡ code_of row / 16
  pub second : (row : ℕ) → row < n → get_or file (1048576 + row) 0 ≡ code_of row % 16 * 16

-- a column of width 12 at offset 0; the rows, 1 column, version 1, the directory's offset, and the mark
unfoldable pub ending : List ℕ
ending =
    to_little 4 12
    ++ (to_little 4 0
    ++ (to_little 4 1048576 ++ (to_little 2 1 ++ (to_little 2 1 ++ (to_little 4 body_bytes ++ (66 ∷ 83 ∷ 76 ∷ 49 ∷ []))))))

-- a test of the only column
abbrev pub test_of : Comparison → Test
test_of comparison = record { column = 0; comparison = comparison }
