-- With no tests every row matches and the total is 0. Of any kind of test. Assumes nothing.
--   no_tests_find_every_row, no_tests_match_every_row    every row
--   no_tests_count_nothing                               the total
use Prim.Native.Nat.{ℕ}
use mathlib.Core.Path.{◌≡◌, refl, ◌∙◌}
use mathlib.Core.List.{List, []}
use mathlib.Core.Bool.{true}
use Rattle.basis.specs.Lists.{below}
use Rattle.basis.proofs.Lists.{length_run}
use Rattle.basis.proofs.Members.{sum_of_ones}
use Rattle.schedule.specs.Machine.{Machine}
use Rattle.schedule.specs.Schedule.{Bytes, total, found, matches}

module _ {Test : Type 0} (M : Machine Test) (R : Bytes Test) where
  pub no_tests_find_every_row : (row : ℕ) → found M R [] row ≡ true
  unfolding found
  no_tests_find_every_row row = refl

  pub no_tests_match_every_row : (rows : ℕ) → matches M R [] rows ≡ rows
  unfolding matches found
  no_tests_match_every_row rows = sum_of_ones (below rows) ∙ length_run 0 rows

  pub no_tests_count_nothing : (segs : List (List ℕ)) → total M R [] segs ≡ 0
  unfolding total
  no_tests_count_nothing segs = refl
