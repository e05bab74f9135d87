-- A column's width in bits, and what follows from it. Assumes nothing.
use Rattle.std.specs.Prelude.{ℕ, ◌+◌, ◌-◌, ◌*◌, ◌/◌, ◌^◌, Bool, not, ◌||◌, ltb, eqb}
use Rattle.limits.specs.Limits.{widest}

-- a width of 0, or over the widest, fits no column
unfoldable pub unfit_width : ℕ → Bool
unfit_width width = eqb width 0 || ltb widest width

-- B: an eighth of the width, rounded up
unfoldable pub slices_of : ℕ → ℕ
slices_of width = (width + 7) / 8

-- p: what the slices have over the width
unfoldable pub pad_of : ℕ → ℕ
pad_of width = 8 * slices_of width - width

-- a code is too large for its column when it is not below 2^k
unfoldable pub too_large : ℕ → ℕ → Bool
too_large width code = not (ltb code (2 ^ width))
