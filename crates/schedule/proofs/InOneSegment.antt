-- What a test counts in one segment: at least its rows, and at most its rows times the test's slices. Assumes nothing.
--   first_slice_counts    the first slice of a segment that has a row counts for every test that has a slice
--   counts_at_least       so a test with a slice counts at least the segment's rows
--   counts_at_most        and none counts more than the rows for each of its slices
use Prim.Native.Nat.{ℕ, ◌*◌, ◌≤◌, ◌<◌}
use native.Mathlib.Omega.{arith}
use mathlib.Core.Path.{refl}
use mathlib.Core.List.Memᴰ
use mathlib.Core.List.{List, [], ◌∷◌}
use mathlib.Core.Bool.{not, cond}
use lib.Dec.{T, ltb, lt→ltb}
use lib.ListN.{length}
use Rattle.basis.specs.Lists.{any}
use Rattle.basis.proofs.Lists.{sum_grows, sum_at_most}
use Rattle.basis.proofs.Passing.{both_pass}
use Rattle.basis.proofs.Members.{◌∈◌, any_from}
use Rattle.schedule.specs.Machine.{Machine, Lawful}
use Rattle.schedule.specs.Schedule.{Bytes, standing, ruled_out, keeps_open, counts, count_in}
use Rattle.schedule.proofs.Adding.{adds_at_most, adds_all}
use Rattle.schedule.proofs.Standing.{none_ruled_out_at_first}

module _ {Test : Type 0} (M : Machine Test) (R : Bytes Test) where
  pub counts_at_most : (q : List Test) (t : Test) (rows : List ℕ) → count_in M R q t rows ≤ length rows * M.slices t
  unfolding count_in
  counts_at_most q t rows =
      sum_at_most (λ j. cond (counts M R q t j rows) (length rows) 0) (length rows) (M.slices t)
      (λ j h. adds_at_most (counts M R q t j rows) (length rows))

  module _ (L : Lawful M) (q : List Test) (sliced : (t : Test) → t ∈ q → 0 < M.slices t) (t : Test) (has : 0 < M.slices t) where
    first_slice_counts : (row : ℕ) (rows : List ℕ) → T (counts M R q t 0 (row ∷ rows))
    unfolding counts keeps_open standing
    first_slice_counts row rows =
        both_pass (ltb 0 (M.slices t)) (any (keeps_open M R q t 0) (row ∷ rows)) (lt→ltb 0 (M.slices t) has)
        (any_from (keeps_open M R q t 0) {xs = row ∷ rows} (Memᴰ.head refl)
        (both_pass (M.equal t (M.start t)) (not (ruled_out M R q 0 row)) (L.starts_equal t)
        (none_ruled_out_at_first M L R q sliced row)))

    pub counts_at_least : (rows : List ℕ) → length rows ≤ count_in M R q t rows
    unfolding count_in
    counts_at_least [] = omega arith
    counts_at_least (row ∷ rows) =
        let long = length (row ∷ rows) in
        let adds : ℕ → ℕ = λ j. cond (counts M R q t j (row ∷ rows)) long 0 in
        omega (arith, adds_all (counts M R q t 0 (row ∷ rows)) long (first_slice_counts row rows), sum_grows adds {few = 1} has)
