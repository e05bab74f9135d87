-- The slices of a segment end as soon as no test counts one: no later slice counts, the counts are complete, and which rows
-- are found can be read off. Of any lawful kind of test. Assumes nothing.
--   NoneCounts             no test of the query counts slice j of the segment
--   none_counts_later      then none counts a later slice
--   counted_so_far         the slices before j are all that count
--   found_so_far           a row is found if it is not ruled out and every test is true of it as it stands
--   settled_so_far         a row that is not ruled out stands to every test as it will at the end
--   not_found_so_far       one that is equal so far on a test with slices left is not found
--   none_counts_past       no test counts a slice when all have had their last
use Prim.Native.Nat.{ℕ, ◌≤◌, ◌<◌}
use native.Mathlib.Nat.{le_of_lt}
use mathlib.Core.Path.{◌≡◌, sym}
use mathlib.Core.Logic.{◌⊎◌, inl, inr}
use mathlib.Core.List.{List}
use mathlib.Core.Bool.{Bool, not, ◌&&◌, cond}
use lib.Dec.{T, T_not, not_T}
use lib.ListN.{length}
use Rattle.basis.specs.Lists.{all, sum, below}
use Rattle.basis.proofs.Truth.{both}
use Rattle.basis.proofs.Passing.{both_pass, fails_before, same_outcome}
use Rattle.basis.proofs.Members.{◌∈◌, all_gives, all_from}
use Rattle.basis.proofs.Runs.{within_or_past, onwards, sum_ends}
use Rattle.schedule.specs.Machine.{Machine, Lawful}
use Rattle.schedule.specs.Schedule.{Bytes, standing, ruled_out, counts, count_in, found}
use Rattle.schedule.proofs.Adding.{adds_none}
use Rattle.schedule.proofs.Standing.{ruled_out_is_not_found}
use Rattle.schedule.proofs.Earlier.{counts_only_within, counts_before}
use Rattle.schedule.proofs.Unread.{equal_is_ruled_out, unread_settled}

module _ {Test : Type 0} (M : Machine Test) (R : Bytes Test) (q : List Test) (rows : List ℕ) where
  abbrev pub NoneCounts : ℕ → Type 0
  NoneCounts j = (t : Test) → t ∈ q → T (not (counts M R q t j rows))

module _ {Test : Type 0} (M : Machine Test) (L : Lawful M) (R : Bytes Test) (q : List Test) (rows : List ℕ) where
  -- If no test counts a slice of a segment, none counts a later one.
  none_counts_later : {j k : ℕ} → j ≤ k → NoneCounts M R q rows j → NoneCounts M R q rows k
  none_counts_later later none t m =
      onwards (λ i. T (not (counts M R q t i rows))) later
      (λ i over. fails_before (counts M R q t _ rows) (counts M R q t i rows) (counts_before M R q t L i rows))
      (none t m)

  module _ (j : ℕ) (none : NoneCounts M R q rows j) where
    -- Then each test's count in the segment is what the slices before added,
    pub counted_so_far : (t : Test) → t ∈ q →
        sum (λ i. cond (counts M R q t i rows) (length rows) 0) (below j) ≡ count_in M R q t rows
    unfolding count_in
    counted_so_far t m = go (within_or_past j (M.slices t))
      where
        adds : ℕ → ℕ
        adds i = cond (counts M R q t i rows) (length rows) 0

        nothing : (i : ℕ) → T (not (counts M R q t i rows)) → adds i ≡ 0
        nothing i unread = adds_none (counts M R q t i rows) (length rows) unread

        go : (j < M.slices t) ⊎ (M.slices t ≤ j) → sum adds (below j) ≡ sum adds (below (M.slices t))
        go (inl within) = sym (sum_ends adds (le_of_lt within) (λ i over. nothing i (none_counts_later over none t m)))
        go (inr past) = sum_ends adds past (λ i over. nothing i (counts_only_within M R q t i rows over))

    module _ (row : ℕ) (here : row ∈ rows) where
      -- a row that is not ruled out stands to every test as it will at the end,
      settled_so_far : (t : Test) → t ∈ q → T (not (ruled_out M R q j row)) →
          standing M R t (M.slices t) row ≡ standing M R t j row
      settled_so_far t m = unread_settled M R q rows row here t j (none t m) L

      -- one that is equal so far on a test with slices left is not found,
      pub not_found_so_far : (t : Test) → t ∈ q → j < M.slices t → T (M.equal t (standing M R t j row)) →
          T (not (found M R q row))
      not_found_so_far t m within equal =
          ruled_out_is_not_found M L R q j row (equal_is_ruled_out M R q rows row here t j (none t m) within equal)

      -- and a row of the segment is found exactly when it is not ruled out and every test is true of it as it stands.
      pub found_so_far : found M R q row ≡ (not (ruled_out M R q j row) && all (λ t. M.holds t (standing M R t j row)) q)
      unfolding found
      found_so_far = same_outcome (found M R q row) (not out && all true_now q) there back
        where
          out : Bool
          out = ruled_out M R q j row

          true_now : Test → Bool
          true_now t = M.holds t (standing M R t j row)

          there : T (found M R q row) → T (not out && all true_now q)
          there every =
              let kept = not_T out (λ is. T_not (found M R q row) (ruled_out_is_not_found M L R q j row is) every) in
              both_pass (not out) (all true_now q) kept
              (all_from true_now q (λ t m. rw (settled_so_far t m kept) at (all_gives _ m every)))

          back : T (not out && all true_now q) → T (found M R q row)
          back h =
              let parts = both (not out) (all true_now q) h in
              all_from _ q (λ t m. rw (settled_so_far t m parts.0) (all_gives true_now m parts.1))

-- so it ends too when every test has had its last slice
pub none_counts_past : {Test : Type 0} (M : Machine Test) (R : Bytes Test) (q : List Test) (rows : List ℕ) (j : ℕ) →
    ((t : Test) → t ∈ q → M.slices t ≤ j) → NoneCounts M R q rows j
none_counts_past M R q rows j past t m = counts_only_within M R q t j rows (past t m)
