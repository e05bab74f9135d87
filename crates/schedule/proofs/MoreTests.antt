-- One more test raises no earlier count and finds no further row. Of any kind of test. Assumes nothing.
--   more_tests_count_no_more    every test of q among those of q': no count of q' is greater
--   more_tests_find_no_more     and a row found by q' is found by q
--   one_more_test, one_more_test_first    a test put behind the others, and before them
--   alone                       no test counts more than alone
use Prim.Native.Nat.{ℕ, ◌≤◌}
use mathlib.Core.List.Memᴰ
use mathlib.Core.List.{List, [], ◌∷◌, ◌++◌}
use lib.Dec.{T}
use lib.ListN.{length}
use Rattle.basis.specs.Lists.{below}
use Rattle.basis.proofs.Members.{◌∈◌, Within, all_within, sum_each_at_most}
use Rattle.schedule.specs.Machine.{Machine}
use Rattle.schedule.specs.Schedule.{Bytes, counts, count_in, count, found}
use Rattle.schedule.proofs.Adding.{adds_no_more}
use Rattle.schedule.proofs.Fewer.{counts_by_fewer}

module _ {Test : Type 0} (M : Machine Test) (R : Bytes Test) where
  -- More tests raise no count: where every test of q is among those of q', each test counts under q' at most what it counts
  -- under q, over any segments.
  pub more_tests_count_no_more : (q q' : List Test) → Within q q' → (t : Test) (segs : List (List ℕ)) →
      count M R q' t segs ≤ count M R q t segs
  unfolding count count_in
  more_tests_count_no_more q q' within t segs = sum_each_at_most (count_in M R q' t) (count_in M R q t) segs (λ rows m. in_one rows)
    where
      in_one : (rows : List ℕ) → count_in M R q' t rows ≤ count_in M R q t rows
      in_one rows =
          sum_each_at_most _ _ (below (M.slices t))
          (λ j m. adds_no_more (counts M R q' t j rows) (counts M R q t j rows) (length rows) (counts_by_fewer M R q q' within t j rows))

  -- More tests find no further row.
  pub more_tests_find_no_more : (q q' : List Test) → Within q q' → (row : ℕ) → T (found M R q' row) → T (found M R q row)
  unfolding found
  more_tests_find_no_more q q' within row = all_within _ q q' within

  -- One more test, put behind the others, raises no earlier count.
  pub one_more_test : (q : List Test) (further t : Test) (segs : List (List ℕ)) →
      count M R (q ++ (further ∷ [])) t segs ≤ count M R q t segs
  one_more_test q further = more_tests_count_no_more q (q ++ (further ∷ [])) (λ t m. Memᴰ.append_left (further ∷ []) m)

  -- One more test, put before the others, raises no count of theirs.
  pub one_more_test_first : (q : List Test) (further t : Test) (segs : List (List ℕ)) →
      count M R (further ∷ q) t segs ≤ count M R q t segs
  one_more_test_first q further = more_tests_count_no_more q (further ∷ q) (λ t m. Memᴰ.tail m)

  -- No test of a query counts more than it counts alone.
  pub alone : (q : List Test) (t : Test) → t ∈ q → (segs : List (List ℕ)) → count M R q t segs ≤ count M R (t ∷ []) t segs
  alone q t m = more_tests_count_no_more (t ∷ []) q (λ u only. Memᴰ.cast (Memᴰ.eq_of_singleton only) m) t
