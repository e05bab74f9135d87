-- A register as it is handed over: the widths of its columns, and its codes row after row. Assumes nothing.
use Rattle.std.specs.Prelude.{ℕ, ◌+◌, ◌*◌, ◌%◌, ◌≤◌, ◌<◌, ◌≡◌, List, Bool, false, length, get_or}
use Rattle.basis.specs.Places.{first_place}
use Rattle.codes.specs.Width.{unfit_width, too_large}
use Rattle.limits.specs.Limits.{most_rows, most_columns}

-- the width of a column
abbrev pub width_of : List ℕ → ℕ → ℕ
width_of widths column = get_or widths column 0

-- the code of a row in a column, codes standing row after row
abbrev pub code_of : List ℕ → List ℕ → ℕ → ℕ → ℕ
code_of widths codes row column = get_or codes (row * length widths + column) 0

-- whether the width of a column fits no column
abbrev pub unfit_at : List ℕ → ℕ → Bool
unfit_at widths column = unfit_width (width_of widths column)

-- whether the code at an index is not below 2^k, k being the width of its column
abbrev pub too_large_at : List ℕ → List ℕ → ℕ → Bool
too_large_at widths codes i = too_large (width_of widths (i % length widths)) (get_or codes i 0)

-- the lowest column whose width fits no column
abbrev pub first_unfit_width : List ℕ → ℕ
first_unfit_width widths = first_place (unfit_at widths) (length widths)

-- the lowest index of a code that is too large
abbrev pub first_too_large : List ℕ → List ℕ → ℕ
first_too_large widths codes = first_place (too_large_at widths codes) (length codes)

-- widths that a register may have
pub record FitWidths (widths : List ℕ) : Type 0 where
  pub some : 0 < length widths
  pub few : length widths ≤ most_columns
  pub each : (column : ℕ) → column < length widths → unfit_width (width_of widths column) ≡ false

-- as many codes as so many rows of such columns have
pub record FullTable (rows : ℕ) (widths codes : List ℕ) : Type 0 where
  pub fit : FitWidths widths
  pub full : length codes ≡ rows * length widths

-- rows of codes that these columns can hold
pub record FitCodes (rows : ℕ) (widths codes : List ℕ) : Type 0 where
  pub few_rows : rows ≤ most_rows
  pub full : length codes ≡ rows * length widths
  pub each : (i : ℕ) → i < length codes → too_large (width_of widths (i % length widths)) (get_or codes i 0) ≡ false
