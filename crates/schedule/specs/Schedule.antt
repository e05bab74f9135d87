-- The schedule of a scan, over any kind of test. Slices and rows are counted from 0, so that slice j is the one that is taken
-- after j slices. Nothing here depends on the order in which tests are tried within a slice: all of them take slice j, and
-- what they have found by then rules rows out before slice j + 1. Assumes nothing.
use Rattle.std.specs.Prelude.{ℕ, zero, suc, List, Bool, not, ◌&&◌, cond, ltb, length}
use Rattle.basis.specs.Lists.{any, all, sum, below}
use Rattle.schedule.specs.Machine.{Machine}

-- a register, as tests see it: the byte of a row in a slice of the test's column
abbrev pub Bytes : Type 0 → Type 0
Bytes Test = Test → ℕ → ℕ → ℕ

module _ {Test : Type 0} (M : Machine Test) (register : Bytes Test) where
  -- how a row stands to a test after so many slices, all of the test's own where that is more than it has
  unfoldable pub standing : Test → ℕ → ℕ → M.Standing
  standing t zero row = M.start t
  standing t (suc j) row =
      cond (ltb j (M.slices t)) (M.next t j (standing t j row) (register t j row)) (standing t j row)

  -- a row is ruled out after j slices if some test does so
  unfoldable pub ruled_out : List Test → ℕ → ℕ → Bool
  ruled_out q j row = any (λ t. M.rules_out t j (standing t j row)) q

  -- a row is equal so far on the test, and not ruled out
  unfoldable pub keeps_open : List Test → Test → ℕ → ℕ → Bool
  keeps_open q t j row = M.equal t (standing t j row) && not (ruled_out q j row)

  -- slice j of a segment counts for a test that has it, when some row of the segment keeps it open
  unfoldable pub counts : List Test → Test → ℕ → List ℕ → Bool
  counts q t j rows = ltb j (M.slices t) && any (keeps_open q t j) rows

  -- each slice that counts adds the segment's number of rows
  unfoldable pub count_in : List Test → Test → List ℕ → ℕ
  count_in q t rows = sum (λ j. cond (counts q t j rows) (length rows) 0) (below (M.slices t))

  -- a test's count, over all segments
  unfoldable pub count : List Test → Test → List (List ℕ) → ℕ
  count q t segs = sum (count_in q t) segs

  -- the total of all counts
  unfoldable pub total : List Test → List (List ℕ) → ℕ
  total q segs = sum (λ t. count q t segs) q

  -- a row is found when every test is true of it at its end
  unfoldable pub found : List Test → ℕ → Bool
  found q row = all (λ t. M.holds t (standing t (M.slices t) row)) q

  -- how many of the rows below a number are found
  unfoldable pub matches : List Test → ℕ → ℕ
  matches q rows = sum (λ row. cond (found q row) 1 0) (below rows)
