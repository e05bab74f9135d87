-- The schedule's words for one segment, by the numbers of its tests and rows. Assumes nothing.
--   Work, FitWork              what the work on a segment hangs on, and what is known of it
--   test_of, query_of, rows_of    the schedule's tests and rows
--   standing_to, is_out, takes, counted_to    standing, ruled out, counts and the count so far
--   starts_equal, starts_in, counted_none  before the first slice
--   out_by_number              a row is out when some slot rules it out
--   out_next                   and stays so
--   takes_within               no test takes a slice past its last
--   left_as_is                 a test that does not take a slice leaves the rows that are in as they stand
--   stands_next                one that has it takes a row's byte against low and high
--   counted_one_more           what a slice adds to a count
--   counted_few                counts of a segment are small
use Prim.Native.Nat.{ℕ, ◌+◌, ◌*◌, ◌^◌, ◌≤◌, ◌<◌, Ordering}
use native.Mathlib.Omega.{arith}
use native.Mathlib.Numerals.{add-one}
use mathlib.Core.Path.{◌≡◌, refl, ap, ◌∙◌}
use mathlib.Core.List.{List}
use mathlib.Core.Bool.{Bool, true, false, cond}
use lib.ListN.{length}
use Rattle.basis.specs.Lists.{any, sum, run, below}
use Rattle.basis.proofs.Truth.{holds, passes, fails, refuted}
use Rattle.basis.proofs.Lists.{length_run, sum_one_more, sum_at_most}
use Rattle.basis.proofs.Runs.{run_holds}
use Rattle.limits.specs.Limits.{widest, most_tests, longest_segment}
use Rattle.codes.specs.Width.{slices_of}
use Rattle.codes.specs.Bytes.{byte_of}
use Rattle.codes.specs.Pad.{high_of}
use Rattle.codes.specs.Order.{and_then, against}
use Rattle.codes.proofs.Width.{some_slice}
use Rattle.codes.proofs.LowHigh.{cleared_is_against}
use Rattle.query.specs.declared.Query.{Query}
use Rattle.query.specs.Tests.{literal_of, test_at}
use Rattle.schedule.specs.Schedule.{standing, ruled_out, counts}
use Rattle.schedule.specs.Comparisons.{ColumnTest, ruled_out_when, comparing}
use Rattle.schedule.proofs.Adding.{adds_at_most}
use Rattle.schedule.proofs.Standing.{standing_next, ruled_out_next, none_ruled_out_at_first}
use Rattle.schedule.proofs.Earlier.{counts_only_within}
use Rattle.schedule.proofs.Unread.{unread_stays}
use Rattle.schedule.proofs.Six.{comparing_lawful}
use Rattle.asking.specs.AtFile.{widened, tests_in, bytes_in}
use Rattle.segment.proofs.ByNumber.{any_by_number, asked_has_slot}

-- n rows of a file from the first on, and a query
pub record Work : Type 0 where
  pub file : List ℕ
  pub query : Query
  pub first : ℕ
  pub n : ℕ

-- the test in a slot, and all of them
abbrev pub test_of : Work → ℕ → ColumnTest
test_of g t = widened g.file (test_at g.query.tests t)

abbrev pub query_of : Work → List ColumnTest
query_of g = tests_in g.file g.query

-- the segment's rows
abbrev pub rows_of : Work → List ℕ
rows_of g = run g.first g.n

-- how row k of the segment stands to test t after j slices
unfoldable pub standing_to : Work → ℕ → ℕ → ℕ → Ordering
standing_to g t j k = standing comparing (bytes_in g.file) (test_of g t) j (g.first + k)

-- row k is ruled out after j slices
unfoldable pub is_out : Work → ℕ → ℕ → Bool
is_out g j k = ruled_out comparing (bytes_in g.file) (query_of g) j (g.first + k)

-- slice j counts for test t
unfoldable pub takes : Work → ℕ → ℕ → Bool
takes g t j = counts comparing (bytes_in g.file) (query_of g) (test_of g t) j (rows_of g)

-- what the slices before j have added to test t's count
unfoldable pub counted_to : Work → ℕ → ℕ → ℕ
counted_to g t j = sum (λ i. cond (takes g t i) (length (rows_of g)) 0) (below j)

-- few tests and rows; columns with a width, and literals that fit them
pub record FitWork (g : Work) : Type 0 where
  pub few : g.query.count ≤ most_tests
  pub there : g.query.count ≤ length g.query.tests
  pub short : g.n ≤ longest_segment
  pub some : (t : ℕ) → t < g.query.count → 0 < (test_of g t).width
  pub narrow : (t : ℕ) → t < g.query.count → (test_of g t).width ≤ widest
  pub literals : (t : ℕ) → t < g.query.count → literal_of (test_of g t).comparison < 2 ^ (test_of g t).width

-- before the first slice every row is equal so far
pub starts_equal : (g : Work) (t k : ℕ) → standing_to g t 0 k ≡ Ordering.eq
unfolding standing_to standing
starts_equal g t k = refl

-- and in,
pub starts_in : (g : Work) → FitWork g → (k : ℕ) → is_out g 0 k ≡ false
unfolding is_out
starts_in g fit k =
    fails (is_out g 0 k)
    (none_ruled_out_at_first comparing comparing_lawful (bytes_in g.file) (query_of g)
    (λ test m.
    let slot = asked_has_slot g.file g.query fit.there test m in
    rw (← slot.2) (some_slice (test_of g slot.0).width (fit.some slot.0 slot.1)))
    (g.first + k))

-- and nothing is counted
pub counted_none : (g : Work) (t : ℕ) → counted_to g t 0 ≡ 0
unfolding counted_to
counted_none g t = refl

-- a row is out when some slot rules it out
pub out_by_number : (g : Work) → FitWork g → (j k : ℕ) →
    is_out g j k ≡ any (λ t. ruled_out_when (test_at g.query.tests t).comparison (standing_to g t j k)) (below g.query.count)
unfolding is_out standing_to ruled_out
out_by_number g fit j k = any_by_number g.file g.query fit.there _

module _ (g : Work) (j k : ℕ) where
  -- what is out stays so
  pub out_next : is_out g j k ≡ true → is_out g (j + 1) k ≡ true
  unfolding is_out
  out_next out =
      rw add-one
      (holds _ (ruled_out_next comparing comparing_lawful (bytes_in g.file) (query_of g) j (g.first + k) (passes (is_out g j k) out)))

  -- a test that does not take a slice leaves the rows that are in as they stand
  pub left_as_is : (t : ℕ) → k < g.n → takes g t j ≡ false → is_out g j k ≡ false → standing_to g t (j + 1) k ≡ standing_to g t j k
  unfolding is_out takes standing_to
  left_as_is t here closed still =
      rw add-one
      (unread_stays comparing (bytes_in g.file) (query_of g) (rows_of g) (g.first + k)
      (run_holds g.first g.n (g.first + k) (omega arith) (omega arith)) (test_of g t) j (refuted (takes g t j) closed)
      comparing_lawful (refuted (is_out g j k) still))

  -- a test that has the slice takes the row's byte against the low and the high of its literal
  pub stands_next : (t : ℕ) → literal_of (test_of g t).comparison < 2 ^ (test_of g t).width → j < slices_of (test_of g t).width →
      let low = byte_of (test_of g t).width (literal_of (test_of g t).comparison) j in
      standing_to g t (j + 1) k ≡
      and_then (standing_to g t j k) (against low (high_of (test_of g t).width j low) (bytes_in g.file (test_of g t) j (g.first + k)))
  unfolding standing_to
  stands_next t literal within =
      rw add-one
      (standing_next comparing (bytes_in g.file) (test_of g t) j (g.first + k) within
      ∙ ap (and_then (standing_to g t j k))
      (cleared_is_against (test_of g t).width (literal_of (test_of g t).comparison) j (bytes_in g.file (test_of g t) j (g.first + k))
      literal within))

-- no test takes a slice past its last
pub takes_within : (g : Work) (t j : ℕ) → slices_of (test_of g t).width ≤ j → takes g t j ≡ false
unfolding takes
takes_within g t j past =
    fails (takes g t j) (counts_only_within comparing (bytes_in g.file) (query_of g) (test_of g t) j (rows_of g) past)

-- what a slice adds to a count
pub counted_one_more : (g : Work) (t j : ℕ) → counted_to g t (j + 1) ≡ counted_to g t j + cond (takes g t j) g.n 0
unfolding counted_to
counted_one_more g t j =
    rw add-one
    (sum_one_more (λ i. cond (takes g t i) (length (rows_of g)) 0) j
    ∙ ap (λ (rows : ℕ). counted_to g t j + cond (takes g t j) rows 0) (length_run g.first g.n))

-- four slices at most of 64 rows at most
pub counted_few : (g : Work) (t j : ℕ) → g.n ≤ longest_segment → counted_to g t j ≤ longest_segment * j
unfolding counted_to
counted_few g t j short =
    sum_at_most (λ i. cond (takes g t i) (length (rows_of g)) 0) longest_segment j
    (λ i h. omega (arith, adds_at_most (takes g t i) (length (rows_of g)), length_run g.first g.n))
