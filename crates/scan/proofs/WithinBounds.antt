-- No sum of a scan is large, and the result has room for each segment's bits. Assumes nothing.
--   found_rows           a segment scanned holds 0 or 1 for each of its places
--   ones_at_most         so as many of its rows are found as it has, or fewer
--   counts_small         every count so far fits four bytes
--   sums_small           and does so when a segment's is added
--   matches_at_most      the matches so far are at most the rows done
--   room_for_segment     the segment's bits have room behind those before
use Prim.Native.Nat.{ℕ, suc, ◌+◌, ◌-◌, ◌*◌, ◌/◌, ◌≤◌, ◌<◌, min}
use native.Mathlib.Omega.{arith}
use mathlib.Core.Path.{◌≡◌}
use mathlib.Core.Logic.{◌⊎◌, inl, inr}
use mathlib.Core.List.{List}
use mathlib.Core.Bool.{cond}
use lib.ListN.{length, get_or}
use Rattle.basis.specs.Lists.{sum, below}
use Rattle.basis.proofs.Truth.{at_most_one}
use Rattle.basis.proofs.Lists.{sum_at_most}
use Rattle.basis.proofs.Runs.{within_or_past}
use Rattle.directory.specs.File.{width_in}
use Rattle.limits.specs.Limits.{most_rows, widest, most_slices, most_tests, longest_segment}
use Rattle.query.specs.declared.Query.{Query}
use Rattle.query.specs.Tests.{test_at}
use Rattle.segment.specs.declared.Segment.{Segment}
use Rattle.bits.specs.Bits.{bytes_for, FoundRows}
use Rattle.segment.specs.Steps.{SegmentScanned}
use Rattle.asking.proofs.Sizes.{Eighths}
use Rattle.scan.proofs.SegmentSums.{found_in, counted_in, few_counted}
use Rattle.scan.proofs.RowsSoFar.{SoFar, on_a_byte, next_counted}

pub found_rows : (file : List ℕ) (query : Query) (first n : ℕ) (segment : Segment) → n ≤ longest_segment →
    SegmentScanned file query first n segment → FoundRows segment.found n
found_rows file query first n segment few scanned =
    record { few = few; all = scanned.whole.0; each = λ k. go k (within_or_past k n); rest = scanned.rest }
  where
    go : (k : ℕ) → (k < n) ⊎ (n ≤ k) → get_or segment.found k 0 ≤ 1
    go k (inl h) = rw (scanned.rows_found k h) (at_most_one (found_in file query (first + k))).0
    go k (inr h) = rw (scanned.rest k h) (omega arith)

pub ones_at_most : (places : List ℕ) (n : ℕ) → FoundRows places n → sum (λ k. get_or places k 0) (below n) ≤ n
ones_at_most places n found = omega (arith, sum_at_most (λ k. get_or places k 0) 1 n (λ k h. found.each k))

module _ (file : List ℕ) (query : Query) (size rows : ℕ) (sized : Eighths size) (before result counts : List ℕ)
    (matches first : ℕ) (far : SoFar file query size rows before result counts matches first) where
  pub matches_at_most : matches ≤ first
  matches_at_most =
      let found = found_in file query in
      omega (arith, far.matched, sum_at_most (λ row. cond (found row) 1 0) 1 first (λ row h. (at_most_one (found row)).0))

  module _ (few_rows : rows ≤ most_rows) (narrow : (t : ℕ) → t < query.count → width_in file (test_at query.tests t).column ≤ widest) where
    -- what a test that is there counts, over so many segments
    few_in : (t : ℕ) → t < query.count → (done : ℕ) → sum (counted_in file query size rows t) (below done) ≤ most_rows * most_slices
    few_in t h = few_counted file query size rows sized.some t few_rows (narrow t h)

    pub counts_small : (t : ℕ) → get_or counts t 0 ≤ most_rows * most_slices
    counts_small t = go (within_or_past t query.count)
      where
        go : (t < query.count) ⊎ (query.count ≤ t) → get_or counts t 0 ≤ most_rows * most_slices
        go (inl h) = rw (far.counted t h) (omega (arith, few_in t h far.done))
        go (inr h) = rw (far.after t h) (omega arith)

    pub sums_small : query.count ≤ most_tests → first < rows → (n : ℕ) → n ≡ min size (rows - first) → (segment : Segment) →
        SegmentScanned file query first n segment → (t : ℕ) → get_or counts t 0 + get_or segment.counts t 0 ≤ most_rows * most_slices
    sums_small few going n so_many segment scanned t = go (within_or_past t query.count)
      where
        next : (h : t < query.count) → get_or counts t 0 + get_or segment.counts t 0 ≡
            sum (counted_in file query size rows t) (below (suc far.done))
        next =
            next_counted file query size rows sized few before result counts matches first far going n so_many segment scanned t

        go : (t < query.count) ⊎ (query.count ≤ t) → get_or counts t 0 + get_or segment.counts t 0 ≤ most_rows * most_slices
        go (inl h) = rw (next h) (omega (arith, few_in t h (suc far.done)))
        go (inr h) = rw (far.after t h, scanned.after t h) (omega arith)

  pub room_for_segment : query.count ≤ most_tests → first < rows → (n : ℕ) → n ≡ min size (rows - first) → bytes_for rows ≤ length before →
      first / 8 + bytes_for n ≤ length result
  unfolding bytes_for
  room_for_segment few going n so_many room =
      omega (
        arith,
        on_a_byte file query size rows sized few before result counts matches first far going,
        far.filled.same_length,
      )
