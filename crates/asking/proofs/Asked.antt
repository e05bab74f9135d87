-- What is known of a file and a query that fits it: no line of the table answers. Assumes nothing.
--   opens                      the file opens
--   fit_size                   a segment may have so many rows
--   few_tests, few_slots       the tests are at most as many as a query may have
--   each_fits, fits            no line of the tests answers, so every test fits the file
--   asked_passes               where asking tells of a register, no line answers
--   opened_as_asked            and the file opened, with the shape that asking tells
--   judged_as_asked            and the query has been judged, with a size that is fit
--   asked_stops                where asking tells of a refusal, its line answers
use Prim.Native.Nat.{ℕ, ◌≤◌}
use native.Mathlib.Omega.{arith}
use mathlib.Core.Path.{◌≡◌, sym, ap, ◌∙◌}
use mathlib.Core.List.{List}
use mathlib.Core.Bool.{false}
use mathlib.Core.Option.{none, some}
use borrow.Author.Tests.{ltb-false}
use lib.ListN.{length, length-take}
use Rattle.limits.specs.Limits.{most_tests}
use Rattle.basis.specs.Refusals.{Line, first_line}
use Rattle.basis.proofs.Members.{◌∈◌}
use Rattle.basis.proofs.Refusals.{EachFails, none_when_accepted, each_fails, neither_answers, at_first, passes}
use Rattle.refusals.specs.declared.Refusal.{Refusal}
use Rattle.register.specs.declared.Shape.{Shape}
use Rattle.std.specs.Prelude.{Ok, Err}
use Rattle.answers.proofs.Replies.{answer_accepted, told_is_accepted, refusal_told}
use Rattle.register.specs.Opening.{open_lines, shape_in, opened_of}
use Rattle.query.specs.declared.Test.{Test}
use Rattle.query.specs.declared.Query.{Query}
use Rattle.query.specs.Tests.{tests_of}
use Rattle.asking.specs.Sizes.{unfit_size}
use Rattle.asking.specs.Refusals.{lines_for_all, query_lines, ask_lines, asked_of}
use Rattle.asking.specs.Judged.{Judged}
use Rattle.asking.proofs.Judging.{FitTest, each_test_fits, judged}

module _ (file : List ℕ) (size : ℕ) (query : Query) where
  module _ (yes : first_line (ask_lines file size query) ≡ none) where
    -- neither a line of opening nor one of the query
    apart : (first_line (open_lines file) ≡ none) × (first_line (query_lines file size query) ≡ none)
    apart = neither_answers (open_lines file) (query_lines file size query) yes

    pub opens : opened_of file ≡ Ok (shape_in file)
    unfolding opened_of
    opens = answer_accepted _ _ apart.0

    failing : EachFails (query_lines file size query)
    failing = each_fails (query_lines file size query) (none_when_accepted (query_lines file size query) apart.1)

    pub fit_size : unfit_size size ≡ false
    unfolding query_lines
    fit_size = failing.0

    pub few_tests : query.count ≤ most_tests
    unfolding query_lines
    few_tests = ltb-false most_tests query.count failing.1.0

    pub each_fits : first_line (lines_for_all file 0 (tests_of query)) ≡ none
    unfolding query_lines
    each_fits =
        sym (passes (passes (at_first (query_lines file size query)) failing.0) failing.1.0).alike ∙ apart.1

    pub few_slots : length (tests_of query) ≤ most_tests
    few_slots = rw (length-take query.count query.tests) (omega (arith, few_tests))

    pub fits : (test : Test) → test ∈ tests_of query → FitTest file test
    fits = each_test_fits file 0 (tests_of query) each_fits

  pub asked_passes : (shape : Shape) → asked_of file size query ≡ Ok shape → first_line (ask_lines file size query) ≡ none
  unfolding asked_of
  asked_passes shape told = (told_is_accepted (ask_lines file size query) (shape_in file) shape told).0

  pub opened_as_asked : (shape : Shape) → asked_of file size query ≡ Ok shape → opened_of file ≡ Ok shape
  unfolding asked_of
  opened_as_asked shape told =
      opens (asked_passes shape told) ∙ ap Ok (sym (told_is_accepted (ask_lines file size query) (shape_in file) shape told).1)

  pub judged_as_asked : length query.tests ≡ most_tests → (shape : Shape) → asked_of file size query ≡ Ok shape →
      Judged file shape query × (unfit_size size ≡ false)
  judged_as_asked slots shape told =
      let yes = asked_passes shape told in (
        judged file shape query (opened_as_asked shape told) (few_tests yes) (omega (arith, few_tests yes)) 0
            (each_fits yes),
        fit_size yes,
      )

  pub asked_stops : (refusal : Refusal) → asked_of file size query ≡ Err refusal →
      (line : Line) × (first_line (ask_lines file size query) ≡ some line) × (line.refusal ≡ refusal)
  unfolding asked_of
  asked_stops refusal told = refusal_told (ask_lines file size query) (shape_in file) refusal told
