-- How far the work on a segment has come: every test has taken the slices before j, and those before t slice j too. Nothing
-- is said of the standings of rows that are out: they may be stale. Assumes nothing.
--   Progress          the buffers at that point
--   same_progress     the same of buffers that are equal
--   begun             before the first slice
--   passed_over       test t does not take slice j
--   taken             test t takes it
--   next_slice        after the last test the rows are ruled out
use Prim.Native.Nat.{ℕ, ◌+◌, ◌*◌, ◌≤◌, ◌<◌}
use native.Mathlib.Omega.{arith}
use mathlib.Core.Path.{◌≡◌, refl, sym, ap, ◌∙◌}
use mathlib.Core.Logic.{◌⊎◌, inl, inr}
use mathlib.Core.List.{List}
use mathlib.Core.Bool.{Bool, true, false, cond, true≢false}
use borrow.Author.Count.{below_more}
use lib.Dec.{ltb}
use borrow.Author.Tests.{lt-ltb, le-ltb}
use lib.ListN.{length, get_or, set, replicate, length-set, length-replicate}
use lib.Seq.{get_or-set_same, get_or-set_other}
use Rattle.limits.specs.Limits.{most_tests, longest_segment, standing_places}
use Rattle.basis.specs.Lists.{any, below}
use Rattle.basis.proofs.Truth.{either}
use Rattle.basis.proofs.Members.{any_each_same}
use Rattle.basis.proofs.Runs.{in_below}
use Rattle.schedule.specs.Comparisons.{ruled_out_when}
use Rattle.standings.specs.Standings.{kept, left_row, rules_out_kept}
use Rattle.query.specs.Tests.{test_at}
use Rattle.basis.specs.Sweeps.{Swept}
use Rattle.standings.specs.TakenOut.{taken_out_by_all}
use Rattle.basis.proofs.FrontSweeps.{swept_from_front, all_zero}
use Rattle.segment.proofs.Kept.{kept_rules_out}
use Rattle.segment.proofs.Work as work
use Rattle.segment.proofs.Work.{Work, FitWork, standing_to, is_out, takes, counted_to}

pub record Progress (g : Work) (j t : ℕ) (standings in_rows counts : List ℕ) (closed : Bool) : Type 0 where
  pub all_standings : length standings ≡ standing_places
  pub all_rows : length in_rows ≡ longest_segment
  pub all_counts : length counts ≡ most_tests
  -- a row that is not ruled out is 1, any other place 0
  pub in_still : (k : ℕ) → k < g.n → get_or in_rows k 0 ≡ cond (is_out g j k) 0 1
  pub past_rows : (k : ℕ) → g.n ≤ k → get_or in_rows k 0 ≡ 0
  -- the standings of such a row, to the tests before t after slice j and to the rest before it
  pub done : (u : ℕ) → u < t → (k : ℕ) → k < g.n → is_out g j k ≡ false →
      get_or standings (u * longest_segment + k) 0 ≡ kept (standing_to g u (j + 1) k)
  pub to_do : (u : ℕ) → t ≤ u → u < g.query.count → (k : ℕ) → k < g.n → is_out g j k ≡ false →
      get_or standings (u * longest_segment + k) 0 ≡ kept (standing_to g u j k)
  -- the counts likewise, and 0 after the last test
  pub counted : (u : ℕ) → u < t → get_or counts u 0 ≡ counted_to g u (j + 1)
  pub to_count : (u : ℕ) → t ≤ u → u < g.query.count → get_or counts u 0 ≡ counted_to g u j
  pub after : (u : ℕ) → g.query.count ≤ u → get_or counts u 0 ≡ 0
  -- closed: none of the tests before t has taken slice j
  pub none_took : closed ≡ true → (u : ℕ) → u < t → takes g u j ≡ false

-- equal buffers
pub same_progress : {g : Work} {j t : ℕ} {standings standings' in_rows counts counts' : List ℕ} {closed closed' : Bool} →
    standings' ≡ standings → counts' ≡ counts → closed' ≡ closed → Progress g j t standings in_rows counts closed →
    Progress g j t standings' in_rows counts' closed'
same_progress same-standings same_counts same-closed so_far = rw (same-standings, same_counts, same-closed) so_far

-- before the first slice
pub begun : {g : Work} {in_rows : List ℕ} → FitWork g → length in_rows ≡ longest_segment →
    ((k : ℕ) → get_or in_rows k 0 ≡ cond (ltb k g.n) 1 0) →
    Progress g 0 0 (replicate standing_places 0) in_rows (replicate most_tests 0) true
begun {g} fit whole ones =
    record {
      all_standings = length-replicate {A = ℕ} standing_places 0;
      all_rows = whole;
      all_counts = length-replicate {A = ℕ} most_tests 0;
      in_still = λ k h. ones k ∙ rw (lt-ltb k g.n h, work.starts_in g fit k);
      past_rows = λ k h. ones k ∙ rw (le-ltb k g.n h);
      done = λ u h. absurd (omega arith);
      to_do = λ u from h k l still. all_zero standing_places (u * longest_segment + k) ∙ rw (work.starts_equal g u k);
      counted = λ u h. absurd (omega arith);
      to_count = λ u from h. all_zero most_tests u ∙ sym (work.counted_none g u);
      after = λ u h. all_zero most_tests u;
      none_took = λ e u h. absurd (omega arith);
    }

module _ {g : Work} {j t : ℕ} {standings in_rows counts : List ℕ} {closed : Bool}
    (so_far : Progress g j t standings in_rows counts closed) (next : t < g.query.count) where
  -- test t does not take slice j, and its standings and its count stay
  pub passed_over : takes g t j ≡ false → Progress g j (t + 1) standings in_rows counts closed
  passed_over none =
      record {
        all_standings = so_far.all_standings;
        all_rows = so_far.all_rows;
        all_counts = so_far.all_counts;
        in_still = so_far.in_still;
        past_rows = so_far.past_rows;
        done =
            below_more _ t so_far.done
            (λ k h still. so_far.to_do t (omega arith) next k h still ∙ ap kept (sym (work.left_as_is g j k t h none still)));
        to_do = λ u from. so_far.to_do u (omega arith);
        counted =
            below_more _ t so_far.counted
            (so_far.to_count t (omega arith) next ∙ sym (work.counted_one_more g t j ∙ rw none (omega arith)));
        to_count = λ u from. so_far.to_count u (omega arith);
        after = so_far.after;
        none_took = λ e. below_more _ t (so_far.none_took e) none;
      }

  -- test t takes slice j, and its standings and its count go on
  pub taken : {stepped : List ℕ} {f : ℕ → ℕ} {long sum : ℕ} → FitWork g → takes g t j ≡ true →
      Swept standings stepped (t * longest_segment) long f → long ≡ g.n →
      ((k : ℕ) → k < g.n → get_or standings (t * longest_segment + k) 0 ≡ kept (standing_to g t j k) → f k ≡ kept (standing_to g t (j + 1) k)) →
      sum ≡ get_or counts t 0 + g.n → Progress g j (t + 1) stepped in_rows (set counts t sum) false
  taken {stepped} {f} {long} {sum} fit some part whole steps added =
      let swept : Swept standings stepped (t * longest_segment) g.n f = rw whole at part in
      let few = fit.few in
      let short = fit.short in
      record {
        all_standings = swept.same_length ∙ so_far.all_standings;
        all_rows = so_far.all_rows;
        all_counts = length-set counts t sum ∙ so_far.all_counts;
        in_still = so_far.in_still;
        past_rows = so_far.past_rows;
        done =
            below_more _ t
            (λ u h k l still. swept.before (u * longest_segment + k) (omega arith) ∙ so_far.done u h k l still)
            (λ k h still. swept.inside k h ∙ steps k h (so_far.to_do t (omega arith) next k h still));
        to_do = λ u from h k l still. swept.behind (u * longest_segment + k) (omega arith) ∙ so_far.to_do u (omega arith) h k l still;
        counted =
            below_more _ t
            (λ u h. get_or-set_other counts t u sum 0 (λ e. omega arith) ∙ so_far.counted u h)
            (get_or-set_same counts t sum 0 (omega (arith, so_far.all_counts)) ∙ added
            ∙ rw (so_far.to_count t (omega arith) next) (sym (work.counted_one_more g t j ∙ rw some)));
        to_count = λ u from h. get_or-set_other counts t u sum 0 (λ e. omega arith) ∙ so_far.to_count u (omega arith) h;
        after = λ u h. get_or-set_other counts t u sum 0 (λ e. omega arith) ∙ so_far.after u h;
        none_took = λ e. absurd (true≢false (sym e));
      }

-- a place that is out stays out, whatever says so
left_zero : (out : Bool) → left_row out 0 ≡ 0
left_zero true = refl
left_zero false = refl

-- after the last test the rows are ruled out by slice j
pub next_slice : {g : Work} {j t : ℕ} {standings in_rows left counts : List ℕ} {closed : Bool} → FitWork g → t ≡ g.query.count →
    Progress g j t standings in_rows counts closed →
    Swept in_rows left 0 g.n (taken_out_by_all rules_out_kept g.query.tests g.query.count standings in_rows) →
    Progress g (j + 1) 0 standings left counts true
next_slice {g} {j} {t} {standings} {in_rows} {left} {counts} fit all so_far swept =
    record {
      all_standings = so_far.all_standings;
      all_rows = swept.same_length ∙ so_far.all_rows;
      all_counts = so_far.all_counts;
      in_still = λ k h. swept_from_front swept k h ∙ ruled k h (either (is_out g j k));
      past_rows = λ k h. swept.behind k (omega arith) ∙ so_far.past_rows k h;
      done = λ u h. absurd (omega arith);
      to_do = λ u from h k l still. so_far.done u (omega arith) k l (was_in k still (either (is_out g j k)));
      counted = λ u h. absurd (omega arith);
      to_count = λ u from h. so_far.counted u (omega arith);
      after = so_far.after;
      none_took = λ e u h. absurd (omega arith);
    }
  where
    rules : ℕ → ℕ → Bool
    rules k t = rules_out_kept (test_at g.query.tests t).comparison (get_or standings (t * longest_segment + k) 0)

    was_in : (k : ℕ) → is_out g (j + 1) k ≡ false → (is_out g j k ≡ true) ⊎ (is_out g j k ≡ false) → is_out g j k ≡ false
    was_in k still (inl out) = absurd (true≢false (sym (work.out_next g j k out) ∙ still))
    was_in k still (inr in_then) = in_then

    ruled : (k : ℕ) → k < g.n → (is_out g j k ≡ true) ⊎ (is_out g j k ≡ false) →
        left_row (any (rules k) (below g.query.count)) (get_or in_rows k 0) ≡ cond (is_out g (j + 1) k) 0 1
    ruled k h (inl out) =
        rw (so_far.in_still k h, out, work.out_next g j k out) (left_zero (any (rules k) (below g.query.count)))
    ruled k h (inr still) =
        let same =
        any_each_same (rules k) (λ u. ruled_out_when (test_at g.query.tests u).comparison (standing_to g u (j + 1) k)) (below g.query.count)
        (λ u m.
        ap (rules_out_kept (test_at g.query.tests u).comparison) (so_far.done u (omega (arith, in_below g.query.count u m)) k h still)
        ∙ kept_rules_out (test_at g.query.tests u).comparison (standing_to g u (j + 1) k)) in
        rw (so_far.in_still k h, still, same, ← work.out_by_number g fit (j + 1) k)
