-- Where a slice counts for a test, the slice before it counted. Of any lawful kind of test. Assumes nothing.
--   equal_before, keeps_open_before    a row that is equal so far was so a slice before, and kept the slice open
--   counts_before                      so the slice before one that counts has counted
--   counts_only_within                 no slice counts past the test's last
use Prim.Native.Nat.{ℕ, suc, ◌≤◌}
use native.Mathlib.Omega.{arith}
use mathlib.Core.Logic.{◌⊎◌, inl, inr}
use mathlib.Core.List.{List}
use mathlib.Core.Bool.{not}
use lib.Dec.{T, ltb, ltb→lt, lt→ltb, not_T}
use Rattle.basis.specs.Lists.{any}
use Rattle.basis.proofs.Truth.{both}
use Rattle.basis.proofs.Passing.{passed_or_failed, both_pass, fails_before}
use Rattle.basis.proofs.Members.{any_makes}
use Rattle.schedule.specs.Machine.{Machine, Lawful}
use Rattle.schedule.specs.Schedule.{Bytes, standing, ruled_out, keeps_open, counts}
use Rattle.schedule.proofs.Standing.{settled_next, ruled_out_next}

module _ {Test : Type 0} (M : Machine Test) (R : Bytes Test) (q : List Test) (t : Test) where
  pub counts_only_within : (j : ℕ) (rows : List ℕ) → M.slices t ≤ j → T (not (counts M R q t j rows))
  unfolding counts
  counts_only_within j rows past =
      not_T (counts M R q t j rows)
      (λ counted.
      let within = ltb→lt j (M.slices t) (both (ltb j (M.slices t)) (any (keeps_open M R q t j) rows) counted).0 in
      omega arith)

  module _ (L : Lawful M) where
    equal_before : (j row : ℕ) → T (M.equal t (standing M R t (suc j) row)) → T (M.equal t (standing M R t j row))
    equal_before j row equal = go (passed_or_failed (M.equal t (standing M R t j row)))
      where
        go : T (M.equal t (standing M R t j row)) ⊎ T (not (M.equal t (standing M R t j row))) →
            T (M.equal t (standing M R t j row))
        go (inl was) = was
        go (inr differs) = rw (settled_next M L R t j row differs) at equal

    keeps_open_before : (j row : ℕ) → T (keeps_open M R q t (suc j) row) → T (keeps_open M R q t j row)
    unfolding keeps_open
    keeps_open_before j row kept =
        let parts = both (M.equal t (standing M R t (suc j) row)) (not (ruled_out M R q (suc j) row)) kept in
        both_pass (M.equal t (standing M R t j row)) (not (ruled_out M R q j row)) (equal_before j row parts.0)
        (fails_before (ruled_out M R q j row) (ruled_out M R q (suc j) row) (ruled_out_next M L R q j row) parts.1)

    pub counts_before : (j : ℕ) (rows : List ℕ) → T (counts M R q t (suc j) rows) → T (counts M R q t j rows)
    unfolding counts
    counts_before j rows counted =
        let many = M.slices t in
        let parts = both (ltb (suc j) many) (any (keeps_open M R q t (suc j)) rows) counted in
        let within = ltb→lt (suc j) many parts.0 in
        both_pass (ltb j many) (any (keeps_open M R q t j) rows) (lt→ltb j many (omega arith))
        (any_makes (keeps_open M R q t (suc j)) (keeps_open M R q t j) rows (λ row m. keeps_open_before j row) parts.1)
