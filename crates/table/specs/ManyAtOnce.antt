-- What the steps that judge many codes at once may rely on, and what they leave. Assumes nothing.
use Rattle.std.specs.Prelude.{ℕ, ◌+◌, ◌*◌, ◌%◌, ◌≤◌, ◌<◌, ◌≡◌, List, length, get_or}
use Rattle.limits.specs.Limits.{most_columns, longest_period}

-- rows of codes, of some columns and not too many
pub record FullRows (columns rows : ℕ) (codes : List ℕ) : Type 0 where
  pub some : 0 < columns
  pub few : columns ≤ most_columns
  pub full : length codes ≡ rows * columns

-- a row of codes that stands from a place on
pub record RowThere (columns at : ℕ) (codes : List ℕ) : Type 0 where
  pub few : columns ≤ most_columns
  pub inside : at + columns ≤ length codes

-- so many periods of codes
pub record PeriodsThere (period periods : ℕ) (codes : List ℕ) : Type 0 where
  pub short : period ≤ longest_period
  pub inside : periods * period ≤ length codes

-- n codes from a place on, and as many places as a period can have
pub record CodesThere (at n : ℕ) (codes joined : List ℕ) : Type 0 where
  pub short : n ≤ longest_period
  pub inside : at + n ≤ length codes
  pub whole : length joined ≡ longest_period

-- the codes of the first rows are below the limits of their columns
pub record Below (limits codes : List ℕ) (columns rows : ℕ) : Type 0 where
  pub each : (i : ℕ) → i < rows * columns → get_or codes i 0 < get_or limits (i % columns) 0

-- so many of the rows are known to be so
pub record RowsBelow (limits codes : List ℕ) (columns rows known : ℕ) : Type 0 where
  pub within : known ≤ rows
  pub below : Below limits codes columns known

-- no code of so many periods is above what is held for its place
pub record Covers (codes : List ℕ) (period periods : ℕ) (joined : List ℕ) : Type 0 where
  pub each : (i place : ℕ) → i < periods → place < period → get_or codes (i * period + place) 0 ≤ get_or joined place 0

-- what is held is no less than before, and no less than the n codes from a place on
pub record Raised (codes : List ℕ) (at n : ℕ) (before after : List ℕ) : Type 0 where
  pub same_length : length after ≡ length before
  pub kept : (place : ℕ) → get_or before place 0 ≤ get_or after place 0
  pub over : (place : ℕ) → place < n → get_or codes (at + place) 0 ≤ get_or after place 0

-- a list that holds, at each place below n, what is made of the place
pub record Holds (made : ℕ → ℕ) (n : ℕ) (list : List ℕ) : Type 0 where
  pub each : (place : ℕ) → place < n → get_or list place 0 ≡ made place
