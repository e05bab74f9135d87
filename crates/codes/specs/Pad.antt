-- The low p bits of the last byte are pad: they carry nothing. Assumes nothing.
use Rattle.std.specs.Prelude.{ℕ, suc, ◌+◌, ◌-◌, ◌*◌, ◌/◌, ◌^◌, List, [], ◌∷◌, Bool, cond, eqb}
use Rattle.codes.specs.Width.{slices_of, pad_of}

-- the last slice of a column, slices counted from 0
unfoldable pub last_slice : ℕ → ℕ → Bool
last_slice width slice = eqb (suc slice) (slices_of width)

-- a byte with its pad cleared, in the last slice; as it is, in the others
unfoldable pub cleared_byte : ℕ → ℕ → ℕ → ℕ
cleared_byte width slice b = cond (last_slice width slice) (b / 2 ^ pad_of width * 2 ^ pad_of width) b

-- the bytes of a row from a slice on, pads cleared
unfoldable pub cleared_from : ℕ → ℕ → List ℕ → List ℕ
cleared_from width slice [] = []
cleared_from width slice (b ∷ bytes) = cleared_byte width slice b ∷ cleared_from width (suc slice) bytes

-- the bytes of a row, pads cleared
abbrev pub cleared : ℕ → List ℕ → List ℕ
cleared width bytes = cleared_from width 0 bytes

-- the greatest byte that is c when its pad is cleared, c being a byte of a code in that slice
unfoldable pub high_of : ℕ → ℕ → ℕ → ℕ
high_of width slice c = cond (last_slice width slice) (c + (2 ^ pad_of width - 1)) c
