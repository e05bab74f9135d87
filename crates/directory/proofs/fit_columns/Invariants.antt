-- What the loop of `fit_columns` keeps. Assumes nothing.
use Prim.Native.Nat.{ℕ, ◌*◌, ◌≤◌, ◌<◌}
use mathlib.Core.Path.{◌≡◌}
use mathlib.Core.List.{List}
use mathlib.Core.Bool.{false}
use Rattle.limits.specs.Limits.{most_slices}
use Rattle.directory.specs.Layout.{slices_before}
use Rattle.directory.specs.File.{width_in, unfit_column}
use Rattle.directory.proofs.fit_columns.Given as goal

-- the columns passed are fit, and their slices are counted
pub record Passed (file : List ℕ) (columns slices column : ℕ) : Type 0 where
  pub within : column ≤ columns
  pub fit : (earlier : ℕ) → earlier < column → unfit_column file earlier ≡ false
  pub counted : slices ≡ slices_before (width_in file) column
  pub few : slices ≤ most_slices * column

abbrev pub invariant-loop-column : goal.invariant-loop-column
invariant-loop-column l = Passed l.file l.columns l.slices l.column
