-- One more test raises no earlier count and makes no row appear: of two accepted scans of one file, with one segment size, the
-- second having the tests of the first and then one more. Assumes nothing.
--   no_count_rises     each slot of the first scan's tests holds in the second at most what it holds in the first
--   no_row_appears     a row that the second finds is one that the first finds
--   no_more_matches    so the second has no more matches
--   no_bit_appears     and each bit that it sets is one that the first sets
use Prim.Native.Nat.{ℕ, ◌≤◌, ◌<◌}
use native.Mathlib.Omega.{arith}
use mathlib.Core.Path.{◌≡◌, ap, ◌∙◌}
use mathlib.Core.List.Memᴰ
use mathlib.Core.List.{List, [], ◌∷◌, ◌++◌, map, map-append}
use lib.Dec.{T}
use lib.ListN.{length, get_or, length-append, get_or-append}
use Rattle.basis.specs.Lists.{below}
use Rattle.basis.proofs.Members.{sum_each_at_most}
use Rattle.directory.specs.File.{rows_in}
use Rattle.query.specs.declared.Test.{Test}
use Rattle.query.specs.declared.Query.{Query}
use Rattle.query.specs.Tests.{empty_slot, tests_of, test_at}
use Rattle.schedule.specs.Schedule.{count, found, matches}
use Rattle.schedule.specs.Comparisons.{comparing}
use Rattle.schedule.proofs.Adding.{adds_no_more}
use Rattle.schedule.proofs.MoreTests.{more_tests_find_no_more, one_more_test}
use Rattle.asking.specs.AtFile.{widened, tests_in, bytes_in, segments_in}
use Rattle.bits.specs.Bits.{bit_in}
use Rattle.scan.specs.Answers.{accepted, scanned_of, left_in, numbers_in}
use Rattle.scan.proofs.LeftBits.{bit_left}
use Rattle.scan.proofs.Accepting.{Accepted, reply, counted}

module _ (file : List ℕ) (size : ℕ) (query longer : Query) (further : Test) (more : tests_of longer ≡ tests_of query ++ (further ∷ [])) where
  widened_too : tests_in file longer ≡ tests_in file query ++ (widened file further ∷ [])
  widened_too = ap (map (widened file)) more ∙ map-append (widened file) (tests_of query) (further ∷ [])

  pub no_row_appears : (row : ℕ) → T (found comparing (bytes_in file) (tests_in file longer) row) →
      T (found comparing (bytes_in file) (tests_in file query) row)
  no_row_appears row =
      more_tests_find_no_more comparing (bytes_in file) (tests_in file query) (tests_in file longer)
      (λ test m. rw widened_too (Memᴰ.append_left (widened file further ∷ []) m)) row

  module _ (room room' : ℕ) (yes : Accepted file size query room) (yes' : Accepted file size longer room') where
    pub no_count_rises : (t : ℕ) → t < length (tests_of query) →
        get_or (numbers_in (scanned_of file size longer room')).counts t 0 ≤ get_or (numbers_in (scanned_of file size query room)).counts t 0
    no_count_rises t h =
        let test = widened file (test_at (tests_of query) t) in
        let inside : t < length (tests_of longer) = rw (more, length-append (tests_of query) (further ∷ [])) (omega arith) in
        let same : test_at (tests_of longer) t ≡ test_at (tests_of query) t =
        ap (λ (tests : List Test). test_at tests t) more ∙ get_or-append (tests_of query) (further ∷ []) empty_slot t h in
        let now : get_or (numbers_in (scanned_of file size longer room')).counts t 0 ≡
        count comparing (bytes_in file) (tests_in file query ++ (widened file further ∷ [])) test (segments_in file size) =
        counted file size longer room' yes' t inside ∙ rw (same, widened_too) in
        rw (now, counted file size query room yes t h)
        (one_more_test comparing (bytes_in file) (tests_in file query) (widened file further) test (segments_in file size))

    pub no_more_matches : (numbers_in (scanned_of file size longer room')).matches ≤ (numbers_in (scanned_of file size query room)).matches
    unfolding accepted matches
    no_more_matches =
        rw (reply file size longer room' yes', reply file size query room yes)
        (sum_each_at_most _ _ (below (rows_in file))
        (λ row m.
        adds_no_more (found comparing (bytes_in file) (tests_in file longer) row) (found comparing (bytes_in file) (tests_in file query) row) 1
        (no_row_appears row)))

  pub no_bit_appears : (out out' : List ℕ) → Accepted file size query (length out) → Accepted file size longer (length out') →
      (row : ℕ) → row < rows_in file → bit_in (left_in file size longer out') row ≤ bit_in (left_in file size query out) row
  no_bit_appears out out' first second row h =
      rw (bit_left file size longer out' second row h, bit_left file size query out first row h)
      (adds_no_more (found comparing (bytes_in file) (tests_in file longer) row) (found comparing (bytes_in file) (tests_in file query) row) 1
      (no_row_appears row))
