-- A kind of test as a small machine that is fed a row's bytes in its column, slice by slice. The schedule is said of any
-- machine; a new kind of test is a new machine. Slices are counted from 0. Assumes nothing.
use Rattle.std.specs.Prelude.{ℕ, suc, ◌≤◌, ◌<◌, ◌≡◌, Bool, not, T}

pub record Machine (Test : Type 0) : Type 1 where
  -- how a row stands to the test by the bytes it has been fed
  pub Standing : Type 0
  -- B: the number of slices of the test's column
  pub slices : Test → ℕ
  -- the standing before the first slice
  pub start : Test → Standing
  -- the standing after a slice, from the standing before it and the row's byte in it
  pub next : Test → ℕ → Standing → ℕ → Standing
  -- equal so far, so that the next byte may matter
  pub equal : Test → Standing → Bool
  -- the test rules out a row that stands so after so many slices
  pub rules_out : Test → ℕ → Standing → Bool
  -- the test is true of a row that stands so at the end
  pub holds : Test → Standing → Bool

-- what the laws of the schedule ask of a machine
pub record Lawful {Test : Type 0} (M : Machine Test) : Type 0 where
  -- a standing that is not equal so far never changes
  pub settled : (t : Test) (slice : ℕ) (s : M.Standing) (b : ℕ) → T (not (M.equal t s)) → M.next t slice s b ≡ s
  -- what is ruled out stays so, by a further slice and when none is left
  pub stays_out : (t : Test) (slice : ℕ) (s : M.Standing) (b : ℕ) → slice < M.slices t → T (M.rules_out t slice s) →
      T (M.rules_out t (suc slice) (M.next t slice s b))
  pub stays_out_past : (t : Test) (after : ℕ) (s : M.Standing) → M.slices t ≤ after → T (M.rules_out t after s) →
      T (M.rules_out t (suc after) s)
  -- of what is ruled out when no slice is left the test is not true
  pub out_is_not_found : (t : Test) (after : ℕ) (s : M.Standing) → M.slices t ≤ after → T (M.rules_out t after s) →
      T (not (M.holds t s))
  -- before the first slice every row is equal so far, and none is ruled out
  pub starts_equal : (t : Test) → T (M.equal t (M.start t))
  pub starts_in : (t : Test) → 0 < M.slices t → T (not (M.rules_out t 0 (M.start t)))
