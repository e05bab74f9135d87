-- How far a file's directory is fit, and what is known of the file where that is asked. Assumes nothing.
use Rattle.std.specs.Prelude.{ℕ, ◌+◌, ◌*◌, ◌≤◌, ◌<◌, ◌≡◌, List, length, Result, Ok, Err}
use Rattle.basis.specs.Places.{first_place}
use Rattle.limits.specs.Limits.{most_rows, most_columns, most_slices, entry_bytes}
use Rattle.directory.specs.declared.FirstUnfit.{FirstUnfit}
use Rattle.directory.specs.Layout.{slices_before}
use Rattle.directory.specs.File.{rows_in, directory_in, width_in, unfit_column}

-- the numbers are those of the file's trailer, and an entry for each of so many columns stands in the file
pub record DirectoryThere (file : List ℕ) (directory rows columns : ℕ) : Type 0 where
  pub rows_read : rows ≡ rows_in file
  pub directory_read : directory ≡ directory_in file
  pub few_rows : rows ≤ most_rows
  pub few_columns : columns ≤ most_columns
  pub within : directory + entry_bytes * columns ≤ length file

-- so many columns are all fit, and have so many slices
pub record AllFit (file : List ℕ) (columns slices : ℕ) : Type 0 where
  pub none_unfit : first_place (unfit_column file) columns ≡ columns
  pub counted : slices ≡ slices_before (width_in file) columns
  pub few : slices ≤ most_slices * columns

-- the first unfit of so many columns, and the slices of those before it
pub record UnfitFrom (file : List ℕ) (columns : ℕ) (unfit : FirstUnfit) : Type 0 where
  pub is_there : unfit.column < columns
  pub first_unfit : unfit.column ≡ first_place (unfit_column file) columns
  pub counted : unfit.slices ≡ slices_before (width_in file) unfit.column
  pub few : unfit.slices ≤ most_slices * unfit.column

-- one or the other
abbrev pub FitUpTo : List ℕ → ℕ → Result ℕ FirstUnfit → Type 0
FitUpTo file columns (Ok slices) = AllFit file columns slices
FitUpTo file columns (Err unfit) = UnfitFrom file columns unfit
