-- Reordering the tests of a query changes neither rows nor counts: two accepted scans of one file, with one segment size, whose
-- queries have the same tests in another order, set the same bits, answer the same matches and the same total, and count the
-- same for each test. Assumes nothing.
--   same_bits       the same bits
--   same_matches    as many matches
--   same_total      the same total
--   same_counts     each test counts the same, in whichever slot it stands
--   same_result     so one result is left the same by both
use Prim.Native.Nat.{ℕ, ◌<◌}
use mathlib.Core.Path.{◌≡◌, sym, ap, ◌∙◌}
use mathlib.Core.List.Permᴰ
use mathlib.Core.List.{List, map}
use lib.ListN.{length, get_or}
use Rattle.basis.specs.Buffers.{laid}
use Rattle.basis.proofs.Members.{Reordered}
use Rattle.directory.specs.File.{rows_in}
use Rattle.query.specs.declared.Test.{Test}
use Rattle.query.specs.declared.Query.{Query}
use Rattle.query.specs.Tests.{tests_of, test_at}
use Rattle.schedule.specs.Schedule.{count, found}
use Rattle.schedule.specs.Comparisons.{comparing}
use Rattle.schedule.proofs.Reordered.{reordered_count, reordered_found, reordered_total, reordered_matches}
use Rattle.scan.specs.declared.Scanned.{Scanned}
use Rattle.asking.specs.AtFile.{widened, tests_in, bytes_in, segments_in}
use Rattle.std.specs.Prelude.{Result}
use Rattle.refusals.specs.declared.Refusal.{Refusal}
use Rattle.scan.specs.Answers.{accepted, found_bits, scanned_of, left_in, numbers_in}
use Rattle.bits.proofs.Packed.{bits_same}
use Rattle.scan.proofs.LeftBits.{left_is}
use Rattle.scan.proofs.Accepting.{Accepted, reply, counted}

-- what is made of each member of a list is reordered with it
reordered_mapped : {A B : Type 0} (f : A → B) {xs ys : List A} → Reordered xs ys → Reordered (map f xs) (map f ys)
reordered_mapped f Permᴰ.nil = Permᴰ.nil
reordered_mapped f (Permᴰ.cons e p) = Permᴰ.cons (ap f e) (reordered_mapped f p)
reordered_mapped f (Permᴰ.swap e d) = Permᴰ.swap (ap f e) (ap f d)
reordered_mapped f (Permᴰ.trans p q) = Permᴰ.trans (reordered_mapped f p) (reordered_mapped f q)

module _ (file : List ℕ) (size : ℕ) (query other : Query) (same_tests : Reordered (tests_of query) (tests_of other)) where
  widened_too : Reordered (tests_in file query) (tests_in file other)
  widened_too = reordered_mapped (widened file) same_tests

  pub same_bits : found_bits file query ≡ found_bits file other
  unfolding found_bits
  same_bits =
      bits_same (found comparing (bytes_in file) (tests_in file query)) (found comparing (bytes_in file) (tests_in file other)) (rows_in file)
      (λ row h. reordered_found comparing (bytes_in file) widened_too row)

  module _ (room room' : ℕ) (yes : Accepted file size query room) (yes' : Accepted file size other room') where
    pub same_matches : (numbers_in (scanned_of file size query room)).matches ≡ (numbers_in (scanned_of file size other room')).matches
    unfolding accepted
    same_matches =
        ap (λ (r : Result Scanned Refusal). (numbers_in r).matches) (reply file size query room yes)
        ∙ reordered_matches comparing (bytes_in file) widened_too (rows_in file)
        ∙ ap (λ (r : Result Scanned Refusal). (numbers_in r).matches) (sym (reply file size other room' yes'))

    pub same_total : (numbers_in (scanned_of file size query room)).total ≡ (numbers_in (scanned_of file size other room')).total
    unfolding accepted
    same_total =
        ap (λ (r : Result Scanned Refusal). (numbers_in r).total) (reply file size query room yes)
        ∙ reordered_total comparing (bytes_in file) widened_too (segments_in file size)
        ∙ ap (λ (r : Result Scanned Refusal). (numbers_in r).total) (sym (reply file size other room' yes'))

    pub same_counts : (t u : ℕ) → t < length (tests_of query) → u < length (tests_of other) →
        test_at (tests_of query) t ≡ test_at (tests_of other) u →
        get_or (numbers_in (scanned_of file size query room)).counts t 0 ≡ get_or (numbers_in (scanned_of file size other room')).counts u 0
    same_counts t u h k same =
        counted file size query room yes t h
        ∙ reordered_count comparing (bytes_in file) widened_too (widened file (test_at (tests_of query) t)) (segments_in file size)
        ∙ ap (λ (test : Test). count comparing (bytes_in file) (tests_in file other) (widened file test) (segments_in file size)) same
        ∙ sym (counted file size other room' yes' u k)

  pub same_result : (out : List ℕ) → Accepted file size query (length out) → Accepted file size other (length out) →
      left_in file size query out ≡ left_in file size other out
  same_result out first second =
      left_is file size query out first ∙ ap (laid out 0) same_bits ∙ sym (left_is file size other out second)
