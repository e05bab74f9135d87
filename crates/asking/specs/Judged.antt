-- What holding a query to a file leaves: the file opened, and every test fits it. Assumes nothing.
use Rattle.std.specs.Prelude.{ℕ, ◌≤◌, ◌<◌, ◌≡◌, List, false}
use Rattle.limits.specs.Limits.{most_tests}
use Rattle.codes.specs.Width.{too_large}
use Rattle.register.specs.declared.Shape.{Shape}
use Rattle.std.specs.Prelude.{Ok}
use Rattle.directory.specs.File.{width_in}
use Rattle.register.specs.Opening.{opened_of}
use Rattle.query.specs.declared.Query.{Query}
use Rattle.query.specs.Tests.{literal_of, test_at}

-- a query as it has been judged: the file opened, and every test fits it
pub record Judged (file : List ℕ) (shape : Shape) (query : Query) : Type 0 where
  pub opened : opened_of file ≡ Ok shape
  pub few : query.count ≤ most_tests
  pub columns : (t : ℕ) → t < query.count → (test_at query.tests t).column < shape.columns
  pub literals : (t : ℕ) → t < query.count →
      too_large (width_in file (test_at query.tests t).column) (literal_of (test_at query.tests t).comparison) ≡ false
