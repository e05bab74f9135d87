-- What a test held to a file is found: fit, or refused; and what all tests are. Assumes nothing.
use Rattle.std.specs.Prelude.{ℕ, ◌≡◌, List, Result, Ok}
use Rattle.refusals.specs.declared.Refusal.{Refusal}
use Rattle.basis.specs.Refusals.{Line, answer_of}
use Rattle.register.specs.declared.Shape.{Shape}
use Rattle.query.specs.declared.Query.{Query}
use Rattle.query.specs.Tests.{tests_of}
use Rattle.asking.specs.Refusals.{lines_for_all}
use Rattle.asking.specs.Judged.{Judged}

-- a table that asks for nothing more: fit where no line answers, or the first refusal
abbrev pub verdict_of : List Line → Result (Unit {0}) Refusal
verdict_of lines = answer_of lines tt

-- the tests of a query held to an opened file: fit, and then the query is judged, or the first refusal
pub record TestsJudged (file : List ℕ) (shape : Shape) (query : Query) (verdict : Result (Unit {0}) Refusal) : Type 0 where
  pub first : verdict ≡ verdict_of (lines_for_all file 0 (tests_of query))
  pub judged : verdict ≡ Ok tt → Judged file shape query
