-- Rows cut into segments of one size from row 0; the last may be short. Assumes nothing.
use Rattle.std.specs.Prelude.{ℕ, ◌+◌, ◌-◌, ◌*◌, ◌/◌, min, List, map}
use Rattle.basis.specs.Lists.{run, below}

-- how many segments: rows/size rounded up
unfoldable pub segment_count : ℕ → ℕ → ℕ
segment_count size rows = (rows + (size - 1)) / size

-- a segment's rows: `size` of them, or as many as are left
unfoldable pub segment : ℕ → ℕ → ℕ → List ℕ
segment size rows i = run (i * size) (min size (rows - i * size))

unfoldable pub segments : ℕ → ℕ → List (List ℕ)
segments size rows = map (segment size rows) (below (segment_count size rows))
