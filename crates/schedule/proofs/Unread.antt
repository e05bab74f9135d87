-- A slice that does not count for a test need not be read: no row of the segment that is still in changes its standing by it.
-- Of any lawful kind of test. Assumes nothing.
--   equal_is_ruled_out    a row that is equal so far on a test with that slice is ruled out
--   unread_stays          a row that is not ruled out stands after the slice as before it
--   unread_settled        and so it does at the test's end
use Prim.Native.Nat.{ℕ, suc, ◌≤◌, ◌<◌}
use native.Mathlib.Nat.{le_of_lt}
use mathlib.Core.Path.{◌≡◌, sym}
use mathlib.Core.Logic.{◌⊎◌, inl, inr}
use mathlib.Core.List.{List}
use mathlib.Core.Bool.{not}
use lib.Dec.{T, ltb, lt→ltb, T_not}
use Rattle.basis.specs.Lists.{any}
use Rattle.basis.proofs.Passing.{passed_or_failed, both_pass, fails_before}
use Rattle.basis.proofs.Members.{◌∈◌, any_from}
use Rattle.basis.proofs.Runs.{within_or_past}
use Rattle.schedule.specs.Machine.{Machine, Lawful}
use Rattle.schedule.specs.Schedule.{Bytes, standing, ruled_out, keeps_open, counts}
use Rattle.schedule.proofs.Standing.{standing_past, standing_at_end, settled_next, settled_stays}

module _ {Test : Type 0} (M : Machine Test) (R : Bytes Test) (q : List Test) (rows : List ℕ) (row : ℕ) (here : row ∈ rows)
    (t : Test) (j : ℕ) (unread : T (not (counts M R q t j rows))) where
  pub equal_is_ruled_out : j < M.slices t → T (M.equal t (standing M R t j row)) → T (ruled_out M R q j row)
  unfolding counts keeps_open
  equal_is_ruled_out within equal = go (passed_or_failed (ruled_out M R q j row))
    where
      go : T (ruled_out M R q j row) ⊎ T (not (ruled_out M R q j row)) → T (ruled_out M R q j row)
      go (inl out) = out
      go (inr kept) =
          absurd
          (T_not (counts M R q t j rows) unread
          (both_pass (ltb j (M.slices t)) (any (keeps_open M R q t j) rows) (lt→ltb j (M.slices t) within)
          (any_from (keeps_open M R q t j) here
          (both_pass (M.equal t (standing M R t j row)) (not (ruled_out M R q j row)) equal kept))))

  module _ (L : Lawful M) (kept : T (not (ruled_out M R q j row))) where
    -- a row that is in has settled, where the test has the slice
    differs : j < M.slices t → T (not (M.equal t (standing M R t j row)))
    differs within = fails_before (M.equal t (standing M R t j row)) (ruled_out M R q j row) (equal_is_ruled_out within) kept

    pub unread_stays : standing M R t (suc j) row ≡ standing M R t j row
    unread_stays = go (within_or_past j (M.slices t))
      where
        go : (j < M.slices t) ⊎ (M.slices t ≤ j) → standing M R t (suc j) row ≡ standing M R t j row
        go (inl within) = settled_next M L R t j row (differs within)
        go (inr past) = standing_past M R t j row past

    pub unread_settled : standing M R t (M.slices t) row ≡ standing M R t j row
    unread_settled = go (within_or_past j (M.slices t))
      where
        go : (j < M.slices t) ⊎ (M.slices t ≤ j) → standing M R t (M.slices t) row ≡ standing M R t j row
        go (inl within) = settled_stays M L R t (le_of_lt within) row (differs within)
        go (inr past) = sym (standing_at_end M R t j row past)
