-- The body: the slices of column 0, then of column 1, and so on, each of as many bytes as there are rows. Assumes nothing.
use Rattle.std.specs.Prelude.{ℕ, ◌*◌}
use Rattle.basis.specs.Lists.{sum, below}
use Rattle.codes.specs.Width.{slices_of}

-- how many slices all columns before this one have, by their widths
unfoldable pub slices_before : (ℕ → ℕ) → ℕ → ℕ
slices_before width column = sum (λ earlier. slices_of (width earlier)) (below column)

-- how many bytes those slices take: where the column's slice 1 is to start
abbrev pub bytes_before : ℕ → (ℕ → ℕ) → ℕ → ℕ
bytes_before rows width column = rows * slices_before width column
