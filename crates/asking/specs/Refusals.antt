-- What is refused of a query that is held to a file: the file's refusals, then 14, 11, and each test in turn 12 then 13. Assumes nothing.
use Rattle.std.specs.Prelude.{ℕ, suc, List, [], ◌∷◌, ◌++◌, leb, ltb, Result}
use Rattle.basis.specs.Refusals.{Line, refuse, answer_of}
use Rattle.limits.specs.Limits.{most_tests}
use Rattle.codes.specs.Width.{too_large}
use Rattle.refusals.specs.declared.Refusal.{Refusal}
use Rattle.refusals.specs.declared.Refusal.TheVariants.{TooManyTests, NoSuchColumn, LiteralTooLarge, UnfitSegmentSize}
use Rattle.register.specs.declared.Shape.{Shape}
use Rattle.directory.specs.File.{columns_in, width_in}
use Rattle.register.specs.Opening.{open_lines, shape_in}
use Rattle.query.specs.declared.Test.{Test}
use Rattle.query.specs.declared.Query.{Query}
use Rattle.query.specs.Tests.{literal_of, tests_of}
use Rattle.asking.specs.Sizes.{unfit_size}

-- a test under its number: 12, no such column; 13, a literal too large for its column; place: that number
abbrev pub lines_for : List ℕ → ℕ → Test → List Line
lines_for file place test =
    refuse (NoSuchColumn place) (leb (columns_in file) test.column)
    ∷ refuse (LiteralTooLarge place) (too_large (width_in file test.column) (literal_of test.comparison))
    ∷ []

-- each test in turn, numbered on from any place
unfoldable pub lines_for_all : List ℕ → ℕ → List Test → List Line
lines_for_all file place [] = []
lines_for_all file place (test ∷ tests) = lines_for file place test ++ lines_for_all file (suc place) tests

module _ (file : List ℕ) (size : ℕ) (query : Query) where
  -- 14: segment size; 11: too many tests; the tests
  unfoldable pub query_lines : List Line
  query_lines =
      refuse UnfitSegmentSize (unfit_size size)
      ∷ refuse TooManyTests (ltb most_tests query.count)
      ∷ lines_for_all file 0 (tests_of query)

  -- the file is opened first
  abbrev pub ask_lines : List Line
  ask_lines = open_lines file ++ query_lines

  -- the answer: the rows and columns of a file that the query fits, or the first refusal
  unfoldable pub asked_of : Result Shape Refusal
  asked_of = answer_of ask_lines (shape_in file)
