-- A query held to a file, read off its table: what each line settles of the answer. Assumes nothing.
--   refused_by         the line that answers settles it
--   refused_file_lem       a file that does not open is refused as opening says
--   wrong_size         refusal 14 of a file that opens
--   too_many_tests     11, the size being right
--   unfit_test         12 or 13, as the tests were judged
--   fitting            none of them
use Prim.Native.Nat.{ℕ, ◌≤◌, ◌<◌}
use mathlib.Core.Path.{◌≡◌, sym, ap, ◌∙◌}
use mathlib.Core.List.{List, ◌∷◌}
use mathlib.Core.Bool.{true, false}
use mathlib.Core.Option.{some}
use borrow.Author.Tests.{lt-ltb, le-ltb}
use lib.Dec.{ltb}
use Rattle.limits.specs.Limits.{most_tests}
use Rattle.basis.specs.Refusals.{Line, refuse, first_line}
use Rattle.basis.proofs.Refusals.{Past, passes, stops}
use Rattle.std.specs.Prelude.{Ok, Err}
use Rattle.refusals.specs.declared.Refusal.{Refusal}
use Rattle.refusals.specs.declared.Refusal.TheVariants.{TooManyTests, UnfitSegmentSize}
use Rattle.answers.proofs.Replies.{answer_refused, answer_accepted, told_is_accepted, refusal_told}
use Rattle.register.specs.declared.Shape.{Shape}
use Rattle.register.specs.Opening.{opened_of}
use Rattle.register.proofs.Fit.{opened_is_fit}
use Rattle.register.proofs.PassedOn.{refusal_passed_on, own_lines_next}
use Rattle.query.specs.declared.Query.{Query}
use Rattle.query.specs.Tests.{tests_of}
use Rattle.asking.specs.Sizes.{unfit_size}
use Rattle.asking.specs.Refusals.{lines_for_all, query_lines, ask_lines, asked_of}
use Rattle.asking.specs.Verdicts.{verdict_of}

module _ (file : List ℕ) (size : ℕ) (query : Query) where
  pub refused_by : {line : Line} → first_line (ask_lines file size query) ≡ some line → Err line.refusal ≡ asked_of file size query
  unfolding asked_of
  refused_by first = sym (answer_refused _ _ first)

  pub refused_file_lem : (refusal : Refusal) → opened_of file ≡ Err refusal → Err refusal ≡ asked_of file size query
  refused_file_lem refusal closed =
      let by = refusal_passed_on file (query_lines file size query) refusal closed in
      ap Err (sym by.2) ∙ refused_by by.1

  module _ (shape : Shape) (opened : opened_of file ≡ Ok shape) where
    -- past opening, the lines of the query are next
    at_query : Past (ask_lines file size query) (query_lines file size query)
    at_query = own_lines_next file (query_lines file size query) shape opened

    pub wrong_size : unfit_size size ≡ true → Err UnfitSegmentSize ≡ asked_of file size query
    unfolding query_lines
    wrong_size h = refused_by (stops at_query h)

    module _ (right : unfit_size size ≡ false) where
      past_size : Past (ask_lines file size query) (refuse TooManyTests (ltb most_tests query.count) ∷ lines_for_all file 0 (tests_of query))
      unfolding query_lines
      past_size = passes at_query right

      pub too_many_tests : most_tests < query.count → Err TooManyTests ≡ asked_of file size query
      too_many_tests h = refused_by (stops past_size (lt-ltb most_tests query.count h))

      module _ (few : query.count ≤ most_tests) where
        past_count : Past (ask_lines file size query) (lines_for_all file 0 (tests_of query))
        past_count = passes past_size (le-ltb most_tests query.count few)

        pub unfit_test : (refusal : Refusal) → verdict_of (lines_for_all file 0 (tests_of query)) ≡ Err refusal →
            Err refusal ≡ asked_of file size query
        unfit_test refusal unfit =
            let by = refusal_told (lines_for_all file 0 (tests_of query)) tt refusal unfit in
            ap Err (sym by.2) ∙ refused_by (past_count.alike ∙ by.1)

        pub fitting : verdict_of (lines_for_all file 0 (tests_of query)) ≡ Ok tt → Ok shape ≡ asked_of file size query
        unfolding asked_of
        fitting fit =
            let none_answers = past_count.alike ∙ (told_is_accepted (lines_for_all file 0 (tests_of query)) tt tt fit).0 in
            ap Ok (opened_is_fit file shape opened).1 ∙ sym (answer_accepted _ _ none_answers)
