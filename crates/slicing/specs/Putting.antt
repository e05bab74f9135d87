-- What a step that makes slices may rely on, and what it leaves. Assumes nothing.
use Rattle.std.specs.Prelude.{ℕ, ◌+◌, ◌*◌, ◌≤◌, ◌<◌, ◌≡◌, List, length, get_or}
use Rattle.limits.specs.Limits.{most_columns, most_slices, block_rows}
use Rattle.directory.specs.Layout.{slices_before, bytes_before}
use Rattle.table.specs.Table.{width_of}
use Rattle.table.specs.declared.Table.{Table}
use Rattle.slicing.specs.Body.{body_of}

-- the body of a table
abbrev pub body : Table → List ℕ
body table = body_of table.rows table.widths.now table.codes.now

-- a buffer with room for it
abbrev pub RoomForBody : Table → List ℕ → Type 0
RoomForBody table out = bytes_before table.rows (width_of table.widths.now) (length table.widths.now) ≤ length out

-- a block of rows of a table, and a buffer with room for its body
pub record FitBlock (table : Table) (first n : ℕ) (out : List ℕ) : Type 0 where
  pub within : first + n ≤ table.rows
  pub few : n ≤ block_rows
  pub room : RoomForBody table out

-- a column of it, with so many slices before it
pub record FitColumn (table : Table) (column slices first n : ℕ) (out : List ℕ) : Type 0 where
  pub block : FitBlock table first n out
  pub there : column < length table.widths.now
  pub counted : slices ≡ slices_before (width_of table.widths.now) column
  pub few : slices ≤ most_slices * most_columns

-- a column of a block of rows, and a place for each of them
pub record FitCopy (table : Table) (column first n : ℕ) (stored : List ℕ) : Type 0 where
  pub there : column < length table.widths.now
  pub within : first + n ≤ table.rows
  pub few : n ≤ block_rows
  pub whole : length stored ≡ block_rows

-- a byte of each row of a block, and room for them from a place on
pub record FitRun (n shift at : ℕ) (out : List ℕ) : Type 0 where
  pub few : n ≤ block_rows
  pub inside : shift < 32
  pub room : at + n ≤ length out

-- a buffer whose front is becoming a body: what was right stays right, the rows from `first` to before `past` are right in the slices
-- from `from` to before `to`, and nothing behind the body is touched
pub record BodyPut (rows : ℕ) (body before after : List ℕ) (first past from to : ℕ) : Type 0 where
  pub same_length : length after ≡ length before
  pub kept : (place : ℕ) → get_or before place 0 ≡ get_or body place 0 → get_or after place 0 ≡ get_or body place 0
  pub put : (slice row : ℕ) → from ≤ slice → slice < to → first ≤ row → row < past →
      get_or after (rows * slice + row) 0 ≡ get_or body (rows * slice + row) 0
  pub behind : (place : ℕ) → length body ≤ place → get_or after place 0 ≡ get_or before place 0
