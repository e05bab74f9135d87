-- With fewer tests a row is ruled out no sooner, so that a slice counts where it counts with more. Assumes nothing.
--   ruled_out_by_more      what some tests rule out, more tests do
--   kept_open_by_fewer     what keeps a slice open under more tests keeps it open under fewer
--   counts_by_fewer        a slice that counts under more tests counts under fewer
use Prim.Native.Nat.{ℕ}
use mathlib.Core.List.{List}
use mathlib.Core.Bool.{not}
use lib.Dec.{T, ltb}
use Rattle.basis.specs.Lists.{any}
use Rattle.basis.proofs.Truth.{both}
use Rattle.basis.proofs.Passing.{both_pass, fails_before}
use Rattle.basis.proofs.Members.{Within, any_within, any_makes}
use Rattle.schedule.specs.Machine.{Machine}
use Rattle.schedule.specs.Schedule.{Bytes, standing, ruled_out, keeps_open, counts}

module _ {Test : Type 0} (M : Machine Test) (R : Bytes Test) (q more : List Test) (within : Within q more) where
  ruled_out_by_more : (j row : ℕ) → T (ruled_out M R q j row) → T (ruled_out M R more j row)
  unfolding ruled_out
  ruled_out_by_more j row = any_within _ q more within

  kept_open_by_fewer : (t : Test) (j row : ℕ) → T (keeps_open M R more t j row) → T (keeps_open M R q t j row)
  unfolding keeps_open
  kept_open_by_fewer t j row kept =
      let parts = both (M.equal t (standing M R t j row)) (not (ruled_out M R more j row)) kept in
      both_pass (M.equal t (standing M R t j row)) (not (ruled_out M R q j row)) parts.0
      (fails_before (ruled_out M R q j row) (ruled_out M R more j row) (ruled_out_by_more j row) parts.1)

  pub counts_by_fewer : (t : Test) (j : ℕ) (rows : List ℕ) → T (counts M R more t j rows) → T (counts M R q t j rows)
  unfolding counts
  counts_by_fewer t j rows counted =
      let parts = both (ltb j (M.slices t)) (any (keeps_open M R more t j) rows) counted in
      both_pass (ltb j (M.slices t)) (any (keeps_open M R q t j) rows) parts.0
      (any_makes (keeps_open M R more t j) (keeps_open M R q t j) rows (λ row m. kept_open_by_fewer t j row) parts.1)
