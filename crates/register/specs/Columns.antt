-- A column's entry as it is read. Assumes nothing.
use Rattle.std.specs.Prelude.{ℕ, ◌≡◌, List, length}
use Rattle.limits.specs.Limits.{entry_bytes}
use Rattle.directory.specs.File.{entry_in}

-- the bytes are the directory's for the column, a whole entry
pub record EntryRead (file : List ℕ) (column : ℕ) (entry : List ℕ) : Type 0 where
  pub bytes : entry ≡ entry_in file column
  pub whole : length entry ≡ entry_bytes
