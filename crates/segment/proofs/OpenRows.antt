-- Whether some row of a segment keeps a test open, as a sum over its rows. Assumes nothing.
--   open_in              1 for a row that keeps a test open, by the buffers
--   open_at_most_one    it is never more, whatever the row's standing
--   none_open           a sum of 0: the test does not take the slice
--   some_open           a sum over 0: it does, where it has the slice
use Prim.Native.Nat.{ℕ, ◌+◌, ◌-◌, ◌*◌, ◌≤◌, ◌<◌}
use native.Mathlib.Omega.{arith}
use mathlib.Core.Path.{◌≡◌, ◌∙◌}
use mathlib.Core.Logic.{◌⊎◌, inl, inr}
use mathlib.Core.List.{List}
use mathlib.Core.Bool.{Bool, true, false, not, ◌&&◌, cond, and-true, and-false}
use lib.Dec.{T, eqb, ltb, lt→ltb, not_T}
use lib.ListN.{get_or}
use Rattle.limits.specs.Limits.{longest_segment}
use Rattle.basis.specs.Lists.{any, sum, below}
use Rattle.basis.proofs.Truth.{either, holds, fails, both, at_most_one}
use Rattle.basis.proofs.Passing.{both_pass}
use Rattle.basis.proofs.Members.{any_gives, any_from, sum_gives, sum_term}
use Rattle.basis.proofs.Runs.{in_run, run_holds, in_below, below_holds}
use Rattle.codes.specs.Width.{slices_of}
use Rattle.schedule.specs.Schedule.{keeps_open, counts}
use Rattle.schedule.specs.Comparisons.{equal, comparing}
use Rattle.standings.specs.Standings.{open_row}
use Rattle.asking.specs.AtFile.{bytes_in}
use Rattle.segment.proofs.Kept.{kept_equal}
use Rattle.segment.proofs.Work.{Work, test_of, query_of, rows_of, standing_to, is_out, takes}
use Rattle.segment.proofs.Progress.{Progress}

-- by a test's standings from a base on, and the rows that are in
abbrev pub open_in : List ℕ → ℕ → List ℕ → ℕ → ℕ
open_in standings base in_rows k = open_row (get_or standings (base + k) 0) (get_or in_rows k 0)

-- at most what says whether the row is in
at_most_in : (is : Bool) (in_still : ℕ) → cond is in_still 0 ≤ in_still
at_most_in true in_still = omega arith
at_most_in false in_still = omega arith

-- a row that is out keeps nothing open
out_is_not_open : (is was : Bool) → ◌≡◌ {A = ℕ} (cond is 0 0) (cond (was && not true) 1 0)
out_is_not_open true was = rw (and-false was)
out_is_not_open false was = rw (and-false was)

-- a 1 is there for a reason
some_is_true : (is : Bool) → 0 < cond is 1 0 → T is
some_is_true true some = tt
some_is_true false some = absurd (omega arith)

module _ {g : Work} {j t : ℕ} {standings in_rows cs : List ℕ} {closed : Bool}
    (so_far : Progress g j t standings in_rows cs closed) (next : t < g.query.count) where
  -- never more than one a row
  pub open_at_most_one : (s k : ℕ) → k < g.n → open_row s (get_or in_rows k 0) ≤ 1
  open_at_most_one s k h = omega (arith, at_most_in (eqb s 0) (get_or in_rows k 0), so_far.in_still k h, (at_most_one (is_out g j k)).1)

  -- row k of the segment keeps test t open
  abbrev keeps : ℕ → Bool
  keeps k = keeps_open comparing (bytes_in g.file) (query_of g) (test_of g t) j (g.first + k)

  -- the buffers say so
  open_is_kept : (k : ℕ) → k < g.n → open_in standings (t * longest_segment) in_rows k ≡ cond (keeps k) 1 0
  unfolding keeps_open is_out standing_to
  open_is_kept k h = by (either (is_out g j k))
    where
      by : (is_out g j k ≡ true) ⊎ (is_out g j k ≡ false) → open_in standings (t * longest_segment) in_rows k ≡ cond (keeps k) 1 0
      by (inl out) =
          rw (so_far.in_still k h, out)
          (out_is_not_open (eqb (get_or standings (t * longest_segment + k) 0) 0) (equal (standing_to g t j k)))
      by (inr still) =
          rw (so_far.in_still k h, so_far.to_do t (omega arith) next k h still, kept_equal (standing_to g t j k), still)
          (rw (and-true (equal (standing_to g t j k))))

  -- none is open
  pub none_open : (total r : ℕ) → total ≡ sum (open_in standings (t * longest_segment) in_rows) (below r) → r ≡ g.n → total ≤ 0 →
      takes g t j ≡ false
  unfolding takes counts
  none_open total r summed whole none =
      fails (takes g t j)
      (not_T (takes g t j)
      (λ counted.
      let parts = both (ltb j (slices_of (test_of g t).width)) (any _ (rows_of g)) counted in
      let row = any_gives _ (rows_of g) parts.1 in
      let bounds = in_run g.first g.n row.0 row.1 in
      let k : ℕ = row.0 - g.first in
      let place : g.first + k ≡ row.0 = omega arith in
      let within : k < g.n = omega arith in
      let open-there : T (keeps k) = rw place row.2 in
      let one : open_in standings (t * longest_segment) in_rows k ≡ 1 = open_is_kept k within ∙ rw (holds (keeps k) open-there) in
      omega (arith, one, sum_term (open_in standings (t * longest_segment) in_rows) (below_holds r k (omega arith)))))

  -- some is open
  pub some_open : (total r : ℕ) → total ≡ sum (open_in standings (t * longest_segment) in_rows) (below r) → r ≡ g.n → 0 < total →
      j < slices_of (test_of g t).width → takes g t j ≡ true
  unfolding takes counts
  some_open total r summed whole some within =
      let row = sum_gives (open_in standings (t * longest_segment) in_rows) (below r) (omega arith) in
      let k = row.0 in
      let here : k < g.n = omega (arith, in_below r k row.1) in
      let open-there : T (keeps k) = some_is_true (keeps k) (omega (arith, row.2, open_is_kept k here)) in
      holds (takes g t j)
      (both_pass (ltb j (slices_of (test_of g t).width)) (any _ (rows_of g)) (lt→ltb j (slices_of (test_of g t).width) within)
      (any_from _ (run_holds g.first g.n (g.first + k) (omega arith) (omega arith)) open-there))
