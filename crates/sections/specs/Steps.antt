-- What is known where the lines of tests are written. Assumes nothing.
use Rattle.std.specs.Prelude.{ℕ, ◌≤◌, ◌<◌, List}
use Rattle.limits.specs.Limits.{most_tests, longest_line}
use Rattle.register.specs.declared.Register.{Register}
use Rattle.query.specs.declared.Test.{Test}
use Rattle.query.specs.declared.Query.{Query}
use Rattle.query.specs.Tests.{test_at}

-- each of the first so many tests is of a column below a number
abbrev pub ColumnsBelow : ℕ → List Test → ℕ → Type 0
ColumnsBelow columns tests count = (t : ℕ) → t < count → (test_at tests t).column < columns

-- at most one line is before, and the query's tests are few and of the register's columns
pub record TestsAt (at : ℕ) (register : Register) (query : Query) : Type 0 where
  pub early : at ≤ longest_line
  pub few : query.count ≤ most_tests
  pub columns_there : ColumnsBelow register.shape.columns query.tests query.count
