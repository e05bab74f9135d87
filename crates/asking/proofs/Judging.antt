-- Tests held to a file, each under its number: first by its column, refusal 12, and then by its literal, refusal 13. Assumes nothing.
--   FitTest, each_test_fits      where no line answers, every test fits the file
--   no_such_column, too_large_a_literal, fit_test    the verdict on one test
--   fit_goes_on, unfit_answers   a walk through the tests' lines goes on past a test that fits, and ends at one that does not
--   unfit_is_not_fit             a verdict is one or the other
--   judged                       where no test of a query is refused, and the file opened, the query has been judged
use Prim.Native.Nat.{ℕ, suc, ◌≤◌, ◌<◌}
use native.Mathlib.Omega.{arith}
use mathlib.Core.Path.{◌≡◌, ap, ◌∙◌}
use mathlib.Core.Logic.{◌⊎◌, inl, inr}
use mathlib.Core.List.Memᴰ
use mathlib.Core.List.{List, [], ◌∷◌, ◌++◌}
use mathlib.Core.Bool.{true, false}
use mathlib.Core.Option.{none}
use borrow.Author.Tests.{le-leb, lt-leb, leb-false}
use lib.ListN.{length, drop}
use lib.Seq.{drop-cons, get_or-take, length-take-le}
use Rattle.basis.specs.Refusals.{Line, refuse, first_line}
use Rattle.basis.proofs.Lists.{at_is_member}
use Rattle.basis.proofs.Members.{◌∈◌}
use Rattle.basis.proofs.Refusals.{none_when_accepted, each_fails, neither_answers}
use Rattle.basis.proofs.Refusals.{Past, at_first, passes, stops, ends, passes_all, stops_within}
use Rattle.limits.specs.Limits.{most_tests}
use Rattle.refusals.specs.declared.Refusal.{Refusal}
use Rattle.refusals.specs.declared.Refusal.TheVariants.{NoSuchColumn, LiteralTooLarge}
use Rattle.answers.proofs.Replies.{answer_refused, answer_accepted, told_is_accepted, refusal_told}
use Rattle.codes.specs.Width.{too_large}
use Rattle.register.specs.declared.Shape.{Shape}
use Rattle.std.specs.Prelude.{Result, Ok, Err}
use Rattle.directory.specs.File.{columns_in, width_in}
use Rattle.register.specs.Opening.{opened_of}
use Rattle.register.proofs.Fit.{columns_as_opened}
use Rattle.query.specs.declared.Test.{Test}
use Rattle.query.specs.declared.Query.{Query}
use Rattle.query.specs.Tests.{literal_of, empty_slot, tests_of, test_at}
use Rattle.asking.specs.Refusals.{lines_for, lines_for_all}
use Rattle.asking.specs.Verdicts.{verdict_of}
use Rattle.asking.specs.Judged.{Judged}

-- a test fits a file: its column is there, and its literal is none too large for it
pub record FitTest (file : List ℕ) (test : Test) : Type 0 where
  pub column : test.column < columns_in file
  pub literal : too_large (width_in file test.column) (literal_of test.comparison) ≡ false

test_fits : (file : List ℕ) (place : ℕ) (test : Test) → first_line (lines_for file place test) ≡ none → FitTest file test
test_fits file place test none_answers =
    let line = each_fails (lines_for file place test) (none_when_accepted (lines_for file place test) none_answers) in
    record { column = leb-false (columns_in file) test.column line.0; literal = line.1.0 }

pub each_test_fits : (file : List ℕ) (place : ℕ) (tests : List Test) → first_line (lines_for_all file place tests) ≡ none → (test : Test) →
    test ∈ tests → FitTest file test
unfolding lines_for_all
each_test_fits file place [] none_answers test m = absurd (Memᴰ.not-nil m)
each_test_fits file place (next ∷ tests) none_answers test m =
    let apart = neither_answers (lines_for file place next) (lines_for_all file (suc place) tests) none_answers in
    go (test_fits file place next apart.0) (each_test_fits file (suc place) tests apart.1 test) (Memᴰ.cases_cons m)
  where
    go : FitTest file next → (test ∈ tests → FitTest file test) → (test ≡ next) ⊎ (test ∈ tests) → FitTest file test
    go here later (inl same) = rw same here
    go here later (inr m) = later m

pub unfit_is_not_fit : {refusal : Refusal} → ◌≡◌ {A = Result (Unit {0}) Refusal} (Err refusal) (Ok tt) → ⊥
unfit_is_not_fit e = let z : ◌≡◌ {A = ℕ} 0 1 = cc in omega arith

module _ (file : List ℕ) (place : ℕ) (test : Test) where
  pub no_such_column : columns_in file ≤ test.column → verdict_of (lines_for file place test) ≡ Err (NoSuchColumn place)
  no_such_column h = answer_refused _ _ (stops (at_first (lines_for file place test)) (le-leb (columns_in file) test.column h))

  module _ (there : test.column < columns_in file) where
    -- past 12, the line on the literal is left
    past_column : Past (lines_for file place test)
        (refuse (LiteralTooLarge place) (too_large (width_in file test.column) (literal_of test.comparison)) ∷ [])
    past_column = passes (at_first (lines_for file place test)) (lt-leb (columns_in file) test.column there)

    pub too_large_a_literal : too_large (width_in file test.column) (literal_of test.comparison) ≡ true →
        verdict_of (lines_for file place test) ≡ Err (LiteralTooLarge place)
    too_large_a_literal large = answer_refused _ _ (stops past_column large)

    pub fit_test : too_large (width_in file test.column) (literal_of test.comparison) ≡ false →
        verdict_of (lines_for file place test) ≡ Ok tt
    fit_test small = answer_accepted _ _ (ends (passes past_column small))

module _ {all : List Line} (file : List ℕ) (place : ℕ) (tests : List Test) (t : ℕ) (there : t < length tests)
    (past : Past all (lines_for_all file place (drop t tests))) where
  -- the lines of the test at hand, and of those after it
  at_test : Past all (lines_for file place (test_at tests t) ++ lines_for_all file (suc place) (drop (suc t) tests))
  unfolding lines_for_all
  at_test = rw (drop-cons tests t empty_slot there) at past

  pub fit_goes_on : verdict_of (lines_for file place (test_at tests t)) ≡ Ok tt →
      Past all (lines_for_all file (suc place) (drop (suc t) tests))
  fit_goes_on fit = passes_all (lines_for file place (test_at tests t)) _ at_test (told_is_accepted (lines_for file place (test_at tests t)) tt tt fit).0

  pub unfit_answers : (refusal : Refusal) → verdict_of (lines_for file place (test_at tests t)) ≡ Err refusal →
      verdict_of all ≡ Err refusal
  unfit_answers refusal unfit =
      let by = refusal_told (lines_for file place (test_at tests t)) tt refusal unfit in
      answer_refused _ _ (stops_within (lines_for file place (test_at tests t)) _ at_test by.0 by.1) ∙ ap Err by.2

pub judged : (file : List ℕ) (shape : Shape) (query : Query) → opened_of file ≡ Ok shape → query.count ≤ most_tests →
    query.count ≤ length query.tests → (place : ℕ) → first_line (lines_for_all file place (tests_of query)) ≡ none →
    Judged file shape query
judged file shape query opened few there place none_answers =
    record {
      opened = opened;
      few = few;
      columns = λ t h. rw (← columns_as_opened file shape opened) at (fits t h).column;
      literals = λ t h. (fits t h).literal;
    }
  where
    fits : (t : ℕ) → t < query.count → FitTest file (test_at query.tests t)
    fits t h =
        let inside : t < length (tests_of query) = rw (length-take-le query.count query.tests there) h in
        rw (get_or-take query.count query.tests t empty_slot h) at
        (each_test_fits file place (tests_of query) none_answers _ (at_is_member (tests_of query) t empty_slot inside))
