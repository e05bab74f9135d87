-- The rows that the bits of a result mark. Assumes nothing.
use Rattle.std.specs.Prelude.{ℕ, ◌-◌, ◌*◌, List, Bool, not, ◌||◌, eqb, length}
use Rattle.basis.specs.Lists.{any, those, run, below}
use Rattle.bits.specs.Bits.{bytes_for, bit_in}

-- a row's bit is set
abbrev pub marked : List ℕ → ℕ → Bool
marked bits row = eqb (bit_in bits row) 1

-- the rows below a number whose bit is set, rising
unfoldable pub marked_below : ℕ → List ℕ → List ℕ
marked_below rows bits = those (marked bits) (below rows)

-- a bit past the last row is set, up to the end of the last byte
unfoldable pub marked_past : ℕ → List ℕ → Bool
marked_past rows bits = any (marked bits) (run rows (8 * bytes_for rows - rows))

-- the bytes are not rows/8 rounded up, or a bit past the last row is set
unfoldable pub unfit_bits : ℕ → List ℕ → Bool
unfit_bits rows bits = not (eqb (length bits) (bytes_for rows)) || marked_past rows bits
