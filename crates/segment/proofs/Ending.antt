-- The slices of a segment end when no test counts one, or after four; what the buffers hold then is the answer. Assumes nothing.
--   Ended                  every test has taken the slices before some slice, and none counts that one
--   ended_closed           so it is when all tests are closed
--   ended_after_four       and after four slices
--   scanned                without the rows that fail at the end, the segment is scanned
use Prim.Native.Nat.{ℕ, ◌+◌, ◌*◌, ◌≤◌, ◌<◌}
use native.Mathlib.Omega.{arith}
use mathlib.Core.Path.{◌≡◌, refl, sym, ap, ◌∙◌}
use mathlib.Core.Logic.{◌⊎◌, inl, inr}
use mathlib.Core.List.{List}
use mathlib.Core.Bool.{Bool, true, false, not, ◌&&◌, cond}
use lib.Dec.{T}
use lib.ListN.{get_or}
use Rattle.limits.specs.Limits.{most_slices, longest_segment}
use Rattle.basis.specs.Lists.{any, all, below}
use Rattle.basis.proofs.Truth.{either, refuted}
use Rattle.basis.proofs.Passing.{fails_before}
use Rattle.basis.proofs.Members.{all_each_same, none_passes, any_from}
use Rattle.basis.proofs.Runs.{in_below, below_holds, run_holds}
use Rattle.codes.proofs.Width.{few_slices_of}
use Rattle.schedule.specs.Schedule.{standing, found}
use Rattle.schedule.specs.Comparisons.{ruled_out_when, true_when, comparing}
use Rattle.schedule.proofs.EarlyEnd.{NoneCounts, counted_so_far, found_so_far}
use Rattle.schedule.proofs.Six.{comparing_lawful}
use Rattle.standings.specs.Standings.{kept, left_row, fails_kept}
use Rattle.asking.specs.AtFile.{bytes_in}
use Rattle.query.specs.Tests.{test_at}
use Rattle.basis.specs.Sweeps.{Swept}
use Rattle.standings.specs.TakenOut.{taken_out_by_all}
use Rattle.segment.specs.Steps.{SegmentScanned}
use Rattle.basis.proofs.FrontSweeps.{swept_from_front}
use Rattle.segment.proofs.Kept.{kept_fails}
use Rattle.segment.proofs.ByNumber.{asked_has_slot, slot_is_asked, all_by_number}
use Rattle.segment.proofs.Work as work
use Rattle.segment.proofs.Work.{Work, FitWork, test_of, query_of, rows_of, standing_to, is_out, takes, counted_to}
use Rattle.segment.proofs.Progress.{Progress}

-- every test has taken the slices before one that none counts
pub record Ended (g : Work) (standings in_rows cs : List ℕ) : Type 0 where
  pub slice : ℕ
  pub reached : Progress g slice 0 standings in_rows cs true
  none_more : NoneCounts comparing (bytes_in g.file) (query_of g) (rows_of g) slice

-- no slot's test counts a slice, so no test of the query does
by_slot : (g : Work) → FitWork g → (j : ℕ) → ((t : ℕ) → t < g.query.count → takes g t j ≡ false) →
    NoneCounts comparing (bytes_in g.file) (query_of g) (rows_of g) j
unfolding takes
by_slot g fit j none test m =
    let slot = asked_has_slot g.file g.query fit.there test m in
    rw (← slot.2) (refuted (takes g slot.0 j) (none slot.0 slot.1))

-- all tests are closed: what they hold after slice j is what they held before it
pub ended_closed : {g : Work} {j t : ℕ} {standings in_rows cs : List ℕ} → FitWork g → t ≡ g.query.count →
    Progress g j t standings in_rows cs true → Ended g standings in_rows cs
ended_closed {g} {j} fit all-tests so_far =
    let none : (u : ℕ) → u < g.query.count → takes g u j ≡ false = λ u h. so_far.none_took refl u (omega arith) in
    record {
      slice = j;
      reached =
          record {
            all_standings = so_far.all_standings;
            all_rows = so_far.all_rows;
            all_counts = so_far.all_counts;
            in_still = so_far.in_still;
            past_rows = so_far.past_rows;
            done = λ u h. absurd (omega arith);
            to_do = λ u from h k l still. so_far.done u (omega arith) k l still ∙ ap kept (work.left_as_is g j k u l (none u h) still);
            counted = λ u h. absurd (omega arith);
            to_count = λ u from h. so_far.counted u (omega arith) ∙ work.counted_one_more g u j ∙ rw (none u h) (omega arith);
            after = so_far.after;
            none_took = λ e u h. absurd (omega arith);
          };
      none_more = by_slot g fit j none;
    }

-- after four slices every test has had its last
pub ended_after_four : {g : Work} {j : ℕ} {standings in_rows cs : List ℕ} → FitWork g → most_slices ≤ j →
    Progress g j 0 standings in_rows cs true → Ended g standings in_rows cs
ended_after_four {g} {j} fit four so_far =
    record {
      slice = j;
      reached = so_far;
      none_more =
          by_slot g fit j
          (λ t h. work.takes_within g t j (omega (arith, few_slices_of (test_of g t).width (fit.narrow t h))));
    }

-- a row that is out is not found
out_is_not_found : (any-fails all_true : Bool) → left_row any-fails 0 ≡ cond (not true && all_true) 1 0
out_is_not_found true all_true = refl
out_is_not_found false all_true = refl

-- a row that is in is found unless some test fails
in_unless_fails : (any-fails : Bool) → left_row any-fails 1 ≡ cond (not false && not any-fails) 1 0
in_unless_fails true = refl
in_unless_fails false = refl

module _ {g : Work} {standings in_rows left cs : List ℕ} (fit : FitWork g) (ended : Ended g standings in_rows cs)
    (swept : Swept in_rows left 0 g.n (taken_out_by_all fails_kept g.query.tests g.query.count standings in_rows)) where
  -- slot t fails row k at the end
  abbrev fails_at : ℕ → ℕ → Bool
  fails_at k t = fails_kept (test_at g.query.tests t).comparison (get_or standings (t * longest_segment + k) 0)

  -- every test is true of row k as it stands
  abbrev all_true : ℕ → Bool
  all_true k =
      all (λ test. true_when test.comparison (standing comparing (bytes_in g.file) test ended.slice (g.first + k))) (query_of g)

  -- every test is true of a row that is in unless some test fails it
  true_unless_fails : (k : ℕ) → k < g.n → is_out g ended.slice k ≡ false → all_true k ≡ not (any (fails_at k) (below g.query.count))
  unfolding standing_to
  true_unless_fails k h still =
      all_by_number g.file g.query fit.there _
      ∙ all_each_same _ (λ t. not (fails_at k t)) (below g.query.count)
      (λ t m.
      let slot = in_below g.query.count t m in
      let comparison = (test_at g.query.tests t).comparison in
      let s = standing_to g t ended.slice k in
      let in-by : T (not (ruled_out_when comparison s)) =
      fails_before (ruled_out_when comparison s) (is_out g ended.slice k)
      (λ out. rw (work.out_by_number g fit ended.slice k) (any_from _ (below_holds g.query.count t slot) out))
      (refuted (is_out g ended.slice k) still) in
      kept_fails comparison s in-by
      ∙ ap (λ (b : ℕ). not (fails_kept comparison b)) (sym (ended.reached.to_do t (omega arith) slot k h still)))
      ∙ none_passes (fails_at k) (below g.query.count)

  -- row k is found
  found_by_row : (k : ℕ) → k < g.n → get_or left k 0 ≡ cond (found comparing (bytes_in g.file) (query_of g) (g.first + k)) 1 0
  unfolding is_out
  found_by_row k h =
      swept_from_front swept k h
      ∙ by (either (is_out g ended.slice k))
      ∙ sym
      (ap (λ (is : Bool). cond is 1 0)
      (found_so_far comparing comparing_lawful (bytes_in g.file) (query_of g) (rows_of g) ended.slice ended.none_more (g.first + k)
      (run_holds g.first g.n (g.first + k) (omega arith) (omega arith))))
    where
      by : (is_out g ended.slice k ≡ true) ⊎ (is_out g ended.slice k ≡ false) →
          left_row (any (fails_at k) (below g.query.count)) (get_or in_rows k 0) ≡ cond (not (is_out g ended.slice k) && all_true k) 1 0
      by (inl out) =
          rw (ended.reached.in_still k h, out) (out_is_not_found (any (fails_at k) (below g.query.count)) (all_true k))
      by (inr still) =
          rw (ended.reached.in_still k h, still, true_unless_fails k h still) (in_unless_fails (any (fails_at k) (below g.query.count)))

  -- so the segment is scanned
  pub scanned : SegmentScanned g.file g.query g.first g.n (record { found = left; counts = cs })
  unfolding counted_to takes
  scanned =
      record {
        rows_found = found_by_row;
        rest = λ k h. swept.behind k (omega arith) ∙ ended.reached.past_rows k h;
        counted =
            λ t h.
            ended.reached.to_count t (omega arith) h
            ∙ counted_so_far comparing comparing_lawful (bytes_in g.file) (query_of g) (rows_of g) ended.slice ended.none_more
            (test_of g t) (slot_is_asked g.file g.query fit.there t h);
        after = ended.reached.after;
        whole = (swept.same_length ∙ ended.reached.all_rows, ended.reached.all_counts);
      }
