-- No test counts more in a query than in the query of that test alone: of two accepted scans of one file, with one segment
-- size, the second having one test, which is a test of the first. Assumes nothing.
--   counts_most_alone     the slot of the test holds at most what the only test counts alone
use Prim.Native.Nat.{ℕ, ◌≤◌, ◌<◌}
use native.Mathlib.Omega.{arith}
use mathlib.Core.Path.{◌≡◌, ◌∙◌}
use mathlib.Core.List.Memᴰ
use mathlib.Core.List.{List, [], ◌∷◌}
use lib.ListN.{length, get_or}
use Rattle.basis.proofs.Lists.{at_is_member}
use Rattle.query.specs.declared.Query.{Query}
use Rattle.query.specs.Tests.{empty_slot, tests_of, test_at}
use Rattle.schedule.specs.Schedule.{count}
use Rattle.schedule.specs.Comparisons.{comparing}
use Rattle.schedule.proofs.MoreTests.{alone}
use Rattle.asking.specs.AtFile.{widened, tests_in, bytes_in, segments_in}
use Rattle.scan.specs.Answers.{scanned_of, numbers_in}
use Rattle.scan.proofs.Accepting.{Accepted, counted}

module _ (file : List ℕ) (size : ℕ) (query single : Query) (room room' : ℕ)
    (yes : Accepted file size query room) (yes' : Accepted file size single room') where
  pub counts_most_alone : (t : ℕ) → t < length (tests_of query) → tests_of single ≡ test_at (tests_of query) t ∷ [] →
      get_or (numbers_in (scanned_of file size query room)).counts t 0 ≤ get_or (numbers_in (scanned_of file size single room')).counts 0 0
  counts_most_alone t h only =
      let test = widened file (test_at (tests_of query) t) in
      let one : 0 < length (tests_of single) = rw only (omega arith) in
      let by_itself : get_or (numbers_in (scanned_of file size single room')).counts 0 0 ≡
      count comparing (bytes_in file) (test ∷ []) test (segments_in file size) =
      counted file size single room' yes' 0 one ∙ rw only in
      rw (counted file size query room yes t h, by_itself)
      (alone comparing (bytes_in file) (tests_in file query) test
      (Memᴰ.map (widened file) (at_is_member (tests_of query) t empty_slot h))
      (segments_in file size))
