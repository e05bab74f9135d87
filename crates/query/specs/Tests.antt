-- A test of a code, and the tests of a query. Assumes nothing.
use Rattle.std.specs.Prelude.{ℕ, List, ◌++◌, Bool, not, ltb, leb, eqb, take, get_or, replicate}
use Rattle.limits.specs.Limits.{most_tests}
use Rattle.query.specs.declared.Comparison.{Comparison}
use Rattle.query.specs.declared.Comparison.TheVariants.{Less, AtMost, More, AtLeast, Equal, Differs}
use Rattle.query.specs.declared.Test.{Test}
use Rattle.query.specs.declared.Query.{Query}

-- the literal with which a code is compared
abbrev pub literal_of : Comparison → ℕ
literal_of (Less literal) = literal
literal_of (AtMost literal) = literal
literal_of (More literal) = literal
literal_of (AtLeast literal) = literal
literal_of (Equal literal) = literal
literal_of (Differs literal) = literal

-- a code meets a comparison as the two numbers compare
abbrev pub meets : Comparison → ℕ → Bool
meets (Less literal) code = ltb code literal
meets (AtMost literal) code = leb code literal
meets (More literal) code = ltb literal code
meets (AtLeast literal) code = leb literal code
meets (Equal literal) code = eqb code literal
meets (Differs literal) code = not (eqb code literal)

-- the tests of a query: the slots before its count
abbrev pub tests_of : Query → List Test
tests_of query = take query.count query.tests

-- a slot that holds no test: column 0, "<", literal 0
abbrev pub empty_slot : Test
empty_slot = record { column = 0; comparison = Less 0 }

-- the test in a slot
abbrev pub test_at : List Test → ℕ → Test
test_at tests t = get_or tests t empty_slot

-- a list in as many slots as a query has, those behind it empty
abbrev pub slots_of : {A : Type 0} → A → List A → List A
slots_of empty list = take most_tests (list ++ replicate most_tests empty)
