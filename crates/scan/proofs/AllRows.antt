-- When all rows are done, what was added up is the schedule's answer. Assumes nothing.
--   sum_by_number        the sum of a list, by its places
--   sum_bounded          is no more than a bound on each, so many times
--   slots_are            sixteen numbers, those of the tests and then zeros, are the slots of the reply
--   sum_of_slots         their sum is the sum over the tests
--   all_scanned          so the reply is the accepted one
--   all_put              and the result holds the bits of all rows
use Prim.Native.Nat.{ℕ, ◌*◌, ◌≤◌, ◌<◌}
use native.Mathlib.Omega.{arith}
use mathlib.Core.Path.{◌≡◌, refl, sym, ap, ◌∙◌}
use mathlib.Core.Logic.{◌⊎◌, inl, inr}
use mathlib.Core.List.{List, map}
use mathlib.Core.Bool.{cond}
use lib.ListN.{length, get_or, take, length-map}
use lib.Seq.{take-length, ext_get_or, get_or-take, length-take-le}
use Rattle.std.specs.List as std
use Rattle.std.proofs.lemmas.List.Recursion.{is_sum_by}
use Rattle.basis.specs.Lists.{sum, below}
use Rattle.basis.specs.Buffers.{laid}
use Rattle.basis.proofs.Lists.{mapped_in_place, sum_at_most}
use Rattle.basis.proofs.Members.{sum_each_same, sum_mapped}
use Rattle.basis.proofs.Runs.{within_or_past, in_below, sum_ends, taken_by_number}
use Rattle.directory.specs.File.{rows_in}
use Rattle.query.specs.declared.Test.{Test}
use Rattle.query.specs.declared.Query.{Query}
use Rattle.limits.specs.Limits.{most_tests}
use Rattle.query.specs.Tests.{empty_slot, test_at, slots_of}
use Rattle.query.proofs.Slots.{length_filled, filled_at, filled_after}
use Rattle.schedule.specs.Segments.{segments}
use Rattle.schedule.specs.Schedule.{count, total, matches}
use Rattle.schedule.specs.Comparisons.{ColumnTest, comparing}
use Rattle.scan.specs.declared.Scanned.{Scanned}
use Rattle.asking.specs.AtFile.{widened, tests_in, bytes_in, segments_in}
use Rattle.bits.specs.Bits.{bits_of}
use Rattle.scan.specs.Answers.{accepted, found_bits}
use Rattle.asking.proofs.Sizes.{Eighths}
use Rattle.scan.proofs.SegmentSums.{found_in, counted_in_all}
use Rattle.scan.proofs.RowsSoFar.{SoFar}

pub sum_by_number : (xs : List ℕ) (n : ℕ) → length xs ≡ n → std.sum xs ≡ sum (λ t. get_or xs t 0) (below n)
sum_by_number xs n long =
    sym (is_sum_by (sum (λ x. x)) (λ x. x) refl (λ x ys. refl) xs)
    ∙ ap (sum (λ x. x)) (sym (rw (← long) (take-length xs)) ∙ taken_by_number xs n 0 (omega arith))
    ∙ sum_mapped (λ x. x) (λ t. get_or xs t 0) (below n)

pub sum_bounded : (xs : List ℕ) (most n : ℕ) → length xs ≡ n → ((t : ℕ) → get_or xs t 0 ≤ most) → std.sum xs ≤ most * n
sum_bounded xs most n long each = rw (sum_by_number xs n long) (sum_at_most (λ t. get_or xs t 0) most n (λ t h. each t))

pub slots_are : (counts numbers : List ℕ) → length counts ≡ most_tests → length numbers ≤ most_tests →
    ((t : ℕ) → t < length numbers → get_or counts t 0 ≡ get_or numbers t 0) →
    ((t : ℕ) → length numbers ≤ t → get_or counts t 0 ≡ 0) → counts ≡ slots_of 0 numbers
slots_are counts numbers sixteen few each rest =
    ext_get_or 0 counts (slots_of 0 numbers) (sixteen ∙ sym (length_filled 0 most_tests numbers))
    (λ t h. go t (omega arith) (within_or_past t (length numbers)))
  where
    go : (t : ℕ) → t < most_tests → (t < length numbers) ⊎ (length numbers ≤ t) → get_or counts t 0 ≡ get_or (slots_of 0 numbers) t 0
    go t h (inl inside) = each t inside ∙ sym (filled_at 0 most_tests numbers t inside few)
    go t h (inr past) = rest t past ∙ sym (filled_after 0 most_tests numbers t past h)

sum_of_slots : (f : Test → ℕ) (tests : List Test) (many : ℕ) (counts : List ℕ) → many ≤ length tests → many ≤ most_tests →
    ((t : ℕ) → t < many → get_or counts t 0 ≡ f (test_at tests t)) → ((t : ℕ) → many ≤ t → get_or counts t 0 ≡ 0) →
    sum (λ t. get_or counts t 0) (below most_tests) ≡ sum f (take many tests)
sum_of_slots f tests many counts there few each rest =
    sum_ends (λ t. get_or counts t 0) few rest
    ∙ sum_each_same (λ t. get_or counts t 0) (λ t. f (test_at tests t)) (below many) (λ t m. each t (in_below many t m))
    ∙ sym (sum_mapped f (test_at tests) (below many))
    ∙ ap (sum f) (sym (taken_by_number tests many empty_slot there))

module _ (file : List ℕ) (query : Query) (size rows : ℕ) (same_rows : rows ≡ rows_in file) (sized : Eighths size)
    (few : query.count ≤ most_tests) (there : query.count ≤ length query.tests) (before result counts : List ℕ) (matched first : ℕ)
    (far : SoFar file query size rows before result counts matched first) (ended : rows ≤ first) where
  -- the first row that is left is past the last
  at_the_end : first ≡ rows_in file
  at_the_end = omega (arith, far.reached)

  -- what a test counts
  abbrev count_of : ColumnTest → ℕ
  count_of test = count comparing (bytes_in file) (tests_in file query) test (segments_in file size)

  each_count : (t : ℕ) → t < query.count → get_or counts t 0 ≡ count_of (widened file (test_at query.tests t))
  each_count t h =
      far.counted t h
      ∙ counted_in_all file query size rows sized.some t far.done (omega (arith, far.reached))
      ∙ ap
      (λ (n : ℕ). count comparing (bytes_in file) (tests_in file query) (widened file (test_at query.tests t)) (segments size n))
      same_rows

  length_tests : length (tests_in file query) ≡ query.count
  length_tests = length-map (take query.count query.tests) (widened file) ∙ length-take-le query.count query.tests there

  numbers_in_place : (t : ℕ) → t < query.count →
      get_or (map count_of (tests_in file query)) t 0 ≡ count_of (widened file (test_at query.tests t))
  numbers_in_place t h =
      mapped_in_place count_of (tests_in file query) t (widened file empty_slot) 0 (omega (arith, length_tests))
      ∙ ap count_of
      (mapped_in_place (widened file) (take query.count query.tests) t empty_slot (widened file empty_slot)
      (omega (arith, length-take-le query.count query.tests there))
      ∙ ap (widened file) (get_or-take query.count query.tests t empty_slot h))

  pub all_scanned : (sums : ℕ) → sums ≡ sum (λ t. get_or counts t 0) (below most_tests) → {r : Scanned} →
      r ≡ record { matches = matched; counts = counts; total = sums } →
      r ≡ accepted file size query
  unfolding accepted matches total
  all_scanned sums total-is e =
      let numbers = map count_of (tests_in file query) in
      let long : length numbers ≡ query.count = length-map (tests_in file query) count_of ∙ length_tests in
      let same_matches : matched ≡ matches comparing (bytes_in file) (tests_in file query) (rows_in file) =
      far.matched ∙ ap (λ (n : ℕ). sum (λ row. cond (found_in file query row) 1 0) (below n)) at_the_end in
      let same_counts : counts ≡ slots_of 0 numbers =
      slots_are counts numbers far.sixteen (omega (arith, long))
      (λ t h. each_count t (rw long at h) ∙ sym (numbers_in_place t (rw long at h)))
      (λ t h. far.after t (rw long at h)) in
      let same_total : sums ≡ sum count_of (tests_in file query) =
      total-is
      ∙ sum_of_slots (λ test. count_of (widened file test)) query.tests query.count counts there few each_count far.after
      ∙ sym (sum_mapped count_of (widened file) (take query.count query.tests)) in
      e ∙ rw (same_matches, same_counts, same_total)

  pub all_put : result ≡ laid before 0 (found_bits file query)
  unfolding found_bits
  all_put =
      far.filled.filled
      ∙ ap (λ (n : ℕ). laid before 0 (bits_of (found_in file query) n)) at_the_end
