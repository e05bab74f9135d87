-- Reordering tests changes neither rows nor counts. Of any kind of test. Assumes nothing.
--   reordered_count      each test counts the same
--   reordered_found      the same rows are found
--   reordered_total      the total is the same
--   reordered_matches    and the number of matches
use Prim.Native.Nat.{ℕ}
use native.Mathlib.Nat.{le_antisymm}
use mathlib.Core.Path.{◌≡◌, ap, ◌∙◌}
use mathlib.Core.List.Permᴰ
use mathlib.Core.List.{List}
use mathlib.Core.Bool.{Bool, cond}
use Rattle.basis.specs.Lists.{below}
use Rattle.basis.proofs.Passing.{same_outcome}
use Rattle.basis.proofs.Members.{Reordered, reordered_within, sum_reordered, sum_each_same}
use Rattle.schedule.specs.Machine.{Machine}
use Rattle.schedule.specs.Schedule.{Bytes, count, total, found, matches}
use Rattle.schedule.proofs.MoreTests.{more_tests_count_no_more, more_tests_find_no_more}

module _ {Test : Type 0} (M : Machine Test) (R : Bytes Test) {q q' : List Test} (p : Reordered q q') where
  -- Reordering the tests of a query changes no test's count, over any segments.
  pub reordered_count : (t : Test) (segs : List (List ℕ)) → count M R q t segs ≡ count M R q' t segs
  reordered_count t segs =
      le_antisymm (more_tests_count_no_more M R q' q (reordered_within (Permᴰ.symm p)) t segs)
      (more_tests_count_no_more M R q q' (reordered_within p) t segs)

  -- Reordering the tests of a query changes no row found.
  pub reordered_found : (row : ℕ) → found M R q row ≡ found M R q' row
  reordered_found row =
      same_outcome (found M R q row) (found M R q' row)
      (more_tests_find_no_more M R q' q (reordered_within (Permᴰ.symm p)) row)
      (more_tests_find_no_more M R q q' (reordered_within p) row)

  -- So the total is the same,
  pub reordered_total : (segs : List (List ℕ)) → total M R q segs ≡ total M R q' segs
  unfolding total
  reordered_total segs = sum_each_same _ _ q (λ t m. reordered_count t segs) ∙ sum_reordered _ p

  -- and so is the number of matches.
  pub reordered_matches : (rows : ℕ) → matches M R q rows ≡ matches M R q' rows
  unfolding matches
  reordered_matches rows =
      sum_each_same _ _ (below rows) (λ row m. ap (λ (is : Bool). cond is 1 0) (reordered_found row))
