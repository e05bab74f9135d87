-- What is known of a scan that is accepted, and of its reply. Assumes nothing.
--   Accepted            no line of the table answers
--   reply               the reply is the schedule's
--   right_size          a segment has a row
--   opens               the file opens
--   fits, sliced        every test fits the file, and its column has a slice
--   counted             so the reply's counts are the schedule's, slot by slot
use Prim.Native.Nat.{ℕ, ◌<◌}
use native.Mathlib.Omega.{arith}
use mathlib.Core.Path.{◌≡◌, ap, ◌∙◌}
use mathlib.Core.List.{List, map}
use mathlib.Core.Option.{none}
use lib.ListN.{length, get_or, length-map}
use Rattle.basis.specs.Refusals.{first_line}
use Rattle.basis.proofs.Lists.{mapped_in_place}
use Rattle.basis.proofs.Members.{◌∈◌}
use Rattle.basis.proofs.Refusals.{neither_answers}
use Rattle.codes.specs.Width.{slices_of}
use Rattle.codes.proofs.Width.{some_slice}
use Rattle.std.specs.Prelude.{Result, Ok}
use Rattle.refusals.specs.declared.Refusal.{Refusal}
use Rattle.answers.proofs.Replies.{answer_accepted}
use Rattle.directory.specs.File.{width_in}
use Rattle.register.specs.Opening.{shape_in, opened_of}
use Rattle.register.proofs.Fit.{width_as_opened}
use Rattle.query.specs.declared.Test.{Test}
use Rattle.query.specs.declared.Query.{Query}
use Rattle.limits.specs.Limits.{most_tests}
use Rattle.query.specs.Tests.{empty_slot, tests_of, test_at}
use Rattle.query.proofs.Slots.{filled_at}
use Rattle.schedule.specs.Schedule.{count}
use Rattle.schedule.specs.Comparisons.{ColumnTest, comparing}
use Rattle.scan.specs.declared.Scanned.{Scanned}
use Rattle.asking.specs.AtFile.{widened, tests_in, bytes_in, segments_in}
use Rattle.asking.specs.Refusals.{ask_lines}
use Rattle.asking.proofs.Sizes.{in_eighths}
use Rattle.asking.proofs.Judging.{FitTest}
use Rattle.asking.proofs.Asked as asked
use Rattle.scan.specs.Refusals.{scan_lines}
use Rattle.scan.specs.Answers.{accepted, scanned_of, numbers_in}

-- no line of the table answers
abbrev pub Accepted : List ℕ → ℕ → Query → ℕ → Type 0
Accepted file size query room = first_line (scan_lines file size query room) ≡ none

module _ (file : List ℕ) (size : ℕ) (query : Query) (room : ℕ) (yes : Accepted file size query room) where
  pub reply : scanned_of file size query room ≡ Ok (accepted file size query)
  unfolding scanned_of
  reply = answer_accepted _ _ yes

  -- no line of the query held to the file answers
  fitting : first_line (ask_lines file size query) ≡ none
  fitting = (neither_answers (ask_lines file size query) _ yes).0

  pub opens : opened_of file ≡ Ok (shape_in file)
  opens = asked.opens file size query fitting

  pub right_size : 0 < size
  right_size = (in_eighths size (asked.fit_size file size query fitting)).some

  pub fits : (test : Test) → test ∈ tests_of query → FitTest file test
  fits = asked.fits file size query fitting

  pub sliced : (test : Test) → test ∈ tests_of query → 0 < slices_of (width_in file test.column)
  sliced test m = some_slice (width_in file test.column) (width_as_opened file _ opens test.column (fits test m).column).0

  pub counted : (t : ℕ) → t < length (tests_of query) →
      get_or (numbers_in (scanned_of file size query room)).counts t 0 ≡
      count comparing (bytes_in file) (tests_in file query) (widened file (test_at (tests_of query) t)) (segments_in file size)
  unfolding accepted
  counted t h =
      let numbers = map (λ test. count comparing (bytes_in file) (tests_in file query) test (segments_in file size)) (tests_in file query) in
      let many : length (tests_in file query) ≡ length (tests_of query) = length-map (tests_of query) (widened file) in
      let long : length numbers ≡ length (tests_of query) = length-map (tests_in file query) _ ∙ many in
      ap (λ (r : Result Scanned Refusal). get_or (numbers_in r).counts t 0) reply
      ∙ filled_at 0 most_tests numbers t (omega arith) (omega (arith, asked.few_slots file size query fitting))
      ∙ mapped_in_place _ (tests_in file query) t (widened file empty_slot) 0 (omega arith)
      ∙ ap (λ (test : ColumnTest). count comparing (bytes_in file) (tests_in file query) test (segments_in file size))
      (mapped_in_place (widened file) (tests_of query) t empty_slot (widened file empty_slot) h)
