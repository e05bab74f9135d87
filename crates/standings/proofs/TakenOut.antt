-- Rows taken out by one test after the other: what the first tests leave, and one test more. Assumes nothing.
--   left_by_either       what two rules leave, one after the other, is what the two together leave
--   none_taken_out       no test takes out nothing
--   one_more_takes_out   the rows that one test more takes out
use Prim.Native.Nat.{ℕ, ◌+◌, ◌*◌}
use native.Mathlib.Numerals.{add-one}
use native.Mathlib.Nat.{zero-add}
use mathlib.Core.Path.{◌≡◌, refl}
use mathlib.Core.List.{List}
use mathlib.Core.Bool.{Bool, true, false, ◌||◌}
use lib.ListN.{get_or}
use Rattle.limits.specs.Limits.{longest_segment}
use Rattle.basis.specs.Lists.{any, below}
use Rattle.basis.proofs.Lists.{any_one_more}
use Rattle.query.specs.declared.Comparison.{Comparison}
use Rattle.query.specs.declared.Test.{Test}
use Rattle.standings.specs.Standings.{left_row}
use Rattle.query.specs.Tests.{test_at}
use Rattle.basis.specs.Sweeps.{Swept}
use Rattle.standings.specs.TakenOut.{taken_out, taken_out_by_all}
use Rattle.basis.proofs.FrontSweeps.{swept_from_front, swept_alike, swept_twice, swept_all_kept}

-- one rule after another
pub left_by_either : (first second : Bool) (in_still : ℕ) → left_row second (left_row first in_still) ≡ left_row (first || second) in_still
left_by_either true true in_still = refl
left_by_either true false in_still = refl
left_by_either false second in_still = refl

-- no test leaves all rows in
pub none_taken_out : (rule : Comparison → ℕ → Bool) (tests : List Test) (standings in_still : List ℕ) (n : ℕ) →
    Swept in_still in_still 0 n (taken_out_by_all rule tests 0 standings in_still)
none_taken_out rule tests standings in_still n =
    swept_alike (swept_all_kept in_still 0 n) (λ k h. rw (zero-add k))

module _ (rule : Comparison → ℕ → Bool) (tests : List Test) (standings old : List ℕ) (n : ℕ) where
  -- one test more takes out what it takes out of what the tests before it have left
  pub one_more_takes_out : {left next : List ℕ} (t : ℕ) → Swept old left 0 n (taken_out_by_all rule tests t standings old) →
      Swept left next 0 n (taken_out rule (test_at tests t).comparison standings (t * longest_segment) left) →
      Swept old next 0 n (taken_out_by_all rule tests (t + 1) standings old)
  one_more_takes_out t so_far more =
      swept_alike (swept_twice so_far more)
      (λ k h.
      let says : ℕ → Bool = λ u. rule (test_at tests u).comparison (get_or standings (u * longest_segment + k) 0) in
      rw (add-one t, any_one_more says t, swept_from_front so_far k h) (left_by_either (any says (below t)) (says t) (get_or old k 0)))
