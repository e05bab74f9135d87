-- Two registers that agree on the bytes counted for one give the same rows and counts, whatever the other bytes are. Of any
-- lawful kind of test. Assumes nothing.
--   AgreeOn, Agree          the registers agree on the bytes counted for the first, in a segment and in all
--   agreement_counts        each slice of a segment counts in both or in neither
--   agreement_count, agreement_total    each test's count is the same, and the total
--   agreement_found         the same rows of the segments are found
--   agreement_rows, agreement_matches   so for all rows, cut into segments: the same rows found, as many matches
use Prim.Native.Nat.{ℕ, ◌<◌}
use mathlib.Core.Path.{◌≡◌, ap}
use mathlib.Core.List.{List}
use mathlib.Core.Bool.{Bool, cond}
use lib.Dec.{T}
use lib.ListN.{length}
use Rattle.basis.specs.Lists.{below}
use Rattle.basis.proofs.Members.{◌∈◌, sum_each_same}
use Rattle.basis.proofs.Runs.{in_below}
use Rattle.schedule.specs.Machine.{Machine, Lawful}
use Rattle.schedule.specs.Segments.{segments}
use Rattle.schedule.specs.Schedule.{Bytes, counts, count_in, count, total, found, matches}
use Rattle.schedule.proofs.Alike.{counts_alike, found_alike}
use Rattle.schedule.proofs.Segments.{row_in_segments}

module _ {Test : Type 0} (M : Machine Test) (R R' : Bytes Test) (q : List Test) where
  -- where a slice of the segment counts for a test in R, each row of the segment has the same byte there in R'
  abbrev pub AgreeOn : List ℕ → Type 0
  AgreeOn rows = (t : Test) → t ∈ q → (j : ℕ) → T (counts M R q t j rows) → (row : ℕ) → row ∈ rows → R t j row ≡ R' t j row

  abbrev pub Agree : List (List ℕ) → Type 0
  Agree segs = (rows : List ℕ) → rows ∈ segs → AgreeOn rows

module _ {Test : Type 0} (M : Machine Test) (L : Lawful M) (R R' : Bytes Test) (q : List Test) where
  module _ (segs : List (List ℕ)) (agree : Agree M R R' q segs) where
    -- Two registers that agree on the bytes counted for one give each test the same count,
    pub agreement_count : (t : Test) → t ∈ q → count M R q t segs ≡ count M R' q t segs
    unfolding count count_in
    agreement_count t m =
        sum_each_same (count_in M R q t) (count_in M R' q t) segs
        (λ rows i.
        sum_each_same _ _ (below (M.slices t))
        (λ j k. ap (λ (is : Bool). cond is (length rows) 0) (counts_alike M q L R R' rows (agree rows i) t m j)))

    -- so the same total,
    pub agreement_total : total M R q segs ≡ total M R' q segs
    unfolding total
    agreement_total = sum_each_same _ _ q agreement_count

    -- and find the same rows of the segments.
    pub agreement_found : (rows : List ℕ) → rows ∈ segs → (row : ℕ) → row ∈ rows → found M R q row ≡ found M R' q row
    agreement_found rows i = found_alike M q L R R' rows (agree rows i)

    -- Slice by slice: each counts in both or in neither.
    pub agreement_counts : (rows : List ℕ) → rows ∈ segs → (t : Test) → t ∈ q → (j : ℕ) →
        counts M R q t j rows ≡ counts M R' q t j rows
    agreement_counts rows i = counts_alike M q L R R' rows (agree rows i)

  module _ (size rows : ℕ) (some : 0 < size) (agree : Agree M R R' q (segments size rows)) where
    -- Over all rows, cut into segments: the same rows are found,
    pub agreement_rows : (row : ℕ) → row < rows → found M R q row ≡ found M R' q row
    agreement_rows row h =
        let there = row_in_segments size rows some row h in
        agreement_found (segments size rows) agree there.0 there.1 row there.2

    -- and as many of them.
    pub agreement_matches : matches M R q rows ≡ matches M R' q rows
    unfolding matches
    agreement_matches =
        sum_each_same _ _ (below rows)
        (λ row m. ap (λ (is : Bool). cond is 1 0) (agreement_rows row (in_below rows row m)))
