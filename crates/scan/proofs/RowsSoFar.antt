-- Scanning segment after segment: what is known when so many are done, and how one more goes on from there. Assumes nothing.
--   SoFar               the row that is next, each test's count, the matches and the bits of the rows before it
--   nothing_yet         before the first segment
--   one_more_segment    a segment scanned, its counts added, its bits put down
use Prim.Native.Nat.{ℕ, suc, ◌+◌, ◌-◌, ◌*◌, ◌/◌, ◌≤◌, ◌<◌, min}
use native.Mathlib.Omega.{arith}
use native.Mathlib.Nat.{zero-add, suc-mul}
use mathlib.Core.Path.{◌≡◌, refl, sym, ap, ap₂, subst, ◌∙◌}
use mathlib.Core.Logic.{◌⊎◌, inl, inr}
use mathlib.Core.List.{List, ◌++◌}
use mathlib.Core.Bool.{Bool, true, false, cond}
use lib.Dec.{eqb}
use lib.ListN.{length, get_or, replicate}
use Rattle.basis.specs.Lists.{sum, run, below}
use Rattle.basis.specs.Buffers.{laid}
use Rattle.basis.proofs.Lists.{sum_one_more, sum_continues}
use Rattle.basis.proofs.Members.{sum_each_same}
use Rattle.basis.proofs.Runs.{within_or_past, in_below}
use Rattle.basis.proofs.Buffers.{Filled, filled_nothing, filled_more}
use Rattle.query.specs.declared.Query.{Query}
use Rattle.limits.specs.Limits.{most_tests}
use Rattle.query.specs.Tests.{test_at}
use Rattle.schedule.specs.Schedule.{count_in}
use Rattle.schedule.specs.Comparisons.{comparing}
use Rattle.schedule.proofs.Numbered.{segment_is_run}
use Rattle.segment.specs.declared.Segment.{Segment}
use Rattle.asking.specs.AtFile.{widened, tests_in, bytes_in}
use Rattle.bits.specs.Bits.{bytes_for, bits_of}
use Rattle.basis.specs.Sweeps.{Swept}
use Rattle.segment.specs.Steps.{SegmentScanned}
use Rattle.basis.proofs.FrontSweeps.{all_zero}
use Rattle.bits.proofs.Packed.{bits_same, bits_joined, length_bits}
use Rattle.asking.proofs.Sizes.{Eighths, starts_on_a_byte}
use Rattle.scan.proofs.SegmentSums.{found_in, counted_in}

-- so many segments are done, and the rows before the first that is left
pub record SoFar (file : List ℕ) (query : Query) (size rows : ℕ) (before result counts : List ℕ) (matches first : ℕ) :
    Type 0 where
  pub done : ℕ
  pub reached : first ≡ min (done * size) rows
  pub counted : (t : ℕ) → t < query.count → get_or counts t 0 ≡ sum (counted_in file query size rows t) (below done)
  pub after : (t : ℕ) → query.count ≤ t → get_or counts t 0 ≡ 0
  pub sixteen : length counts ≡ most_tests
  pub matched : matches ≡ sum (λ row. cond (found_in file query row) 1 0) (below first)
  pub filled : Filled before 0 (bits_of (found_in file query) first) result

pub nothing_yet : (file : List ℕ) (query : Query) (size rows : ℕ) (before : List ℕ) →
    SoFar file query size rows before before (replicate most_tests 0) 0 0
unfolding bits_of bytes_for
nothing_yet file query size rows before =
    record {
      done = 0;
      reached = omega arith;
      counted = λ t h. all_zero most_tests t;
      after = λ t h. all_zero most_tests t;
      sixteen = refl;
      matched = refl;
      filled = filled_nothing before 0;
    }

-- 1 for found is found
one_is_found : (is : Bool) → eqb (cond is 1 0) 1 ≡ is
one_is_found true = refl
one_is_found false = refl

module _ (file : List ℕ) (query : Query) (size rows : ℕ) (sized : Eighths size) (few : query.count ≤ most_tests)
    (before result counts : List ℕ) (matches first : ℕ) (far : SoFar file query size rows before result counts matches first)
    (going : first < rows) where
  here : first ≡ far.done * size
  here = omega (arith, far.reached)

  pub on_a_byte : first ≡ 8 * (far.done * sized.eighths)
  on_a_byte = here ∙ starts_on_a_byte size sized far.done

  module _ (n : ℕ) (so_many : n ≡ min size (rows - first)) (segment : Segment)
      (scanned : SegmentScanned file query first n segment) where
    -- the bytes of the segment are the next
    continued : bits_of (found_in file query) (first + n) ≡
        bits_of (found_in file query) first ++ bits_of (λ k. eqb (get_or segment.found k 0) 1) n
    continued =
        let found = found_in file query in
        let joined : bits_of found (first + n) ≡ bits_of found first ++ bits_of (λ k. found (first + k)) n =
        subst (λ (from : ℕ). bits_of found (from + n) ≡ bits_of found from ++ bits_of (λ k. found (from + k)) n) (sym on_a_byte)
        (bits_joined found (far.done * sized.eighths) n) in
        joined
        ∙ ap (λ (rest : List ℕ). bits_of found first ++ rest)
        (bits_same (λ k. found (first + k)) (λ k. eqb (get_or segment.found k 0) 1) n
        (λ k h. sym (ap (λ (x : ℕ). eqb x 1) (scanned.rows_found k h) ∙ one_is_found (found (first + k)))))

    pub next_counted : (t : ℕ) → t < query.count →
        get_or counts t 0 + get_or segment.counts t 0 ≡ sum (counted_in file query size rows t) (below (suc far.done))
    next_counted t h =
        let same : run first n ≡ run (far.done * size) (min size (rows - far.done * size)) =
        ap₂ run here (so_many ∙ ap (λ (from : ℕ). min size (rows - from)) here) in
        let there : get_or segment.counts t 0 ≡ counted_in file query size rows t far.done =
        scanned.counted t h
        ∙ ap (count_in comparing (bytes_in file) (tests_in file query) (widened file (test_at query.tests t)))
        (same ∙ sym (segment_is_run size rows far.done)) in
        ap₂ ◌+◌ (far.counted t h) there ∙ sym (sum_one_more (counted_in file query size rows t) far.done)

    pub one_more_segment : (result' counts' : List ℕ) (more : ℕ) →
        Swept counts counts' 0 most_tests (λ t. get_or counts t 0 + get_or segment.counts t 0) →
        more ≡ sum (λ k. get_or segment.found k 0) (below n) →
        result' ≡ laid result (first / 8) (bits_of (λ k. eqb (get_or segment.found k 0) 1) n) → bytes_for rows ≤ length before →
        SoFar file query size rows before result' counts' (matches + more) (first + n)
    unfolding bytes_for
    one_more_segment result' counts' more added ones put room =
        let byte = on_a_byte in
        let bits = length_bits (λ k. eqb (get_or segment.found k 0) 1) n in
        record {
          done = suc far.done;
          reached = rw (suc-mul far.done size) (omega (arith, here));
          counted = λ t h. sums t (omega arith) ∙ next_counted t h;
          after = λ t h. none t h (within_or_past t most_tests);
          sixteen = added.same_length ∙ far.sixteen;
          matched =
              ap₂ ◌+◌ far.matched (ones ∙ found_here)
              ∙ sym (sum_continues (λ row. cond (found_in file query row) 1 0) first n);
          filled =
              rw continued
              (filled_more before 0 (bits_of (found_in file query) first) (first / 8) _ far.filled
              (rw (length_bits (found_in file query) first) (omega arith))
              (omega arith)
              put);
        }
      where
        sums : (t : ℕ) → t < most_tests → get_or counts' t 0 ≡ get_or counts t 0 + get_or segment.counts t 0
        sums t h = rw (zero-add t) at (added.inside t h)

        none : (t : ℕ) → query.count ≤ t → (t < most_tests) ⊎ (most_tests ≤ t) → get_or counts' t 0 ≡ 0
        none t past (inl h) = sums t h ∙ rw (far.after t past, scanned.after t past)
        none t past (inr h) = added.behind t (omega arith) ∙ far.after t past

        found_here : sum (λ k. get_or segment.found k 0) (below n) ≡
            sum (λ k. cond (found_in file query (first + k)) 1 0) (below n)
        found_here = sum_each_same _ _ (below n) (λ k m. scanned.rows_found k (in_below n k m))
