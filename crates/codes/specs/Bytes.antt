-- The bytes of a code, one to a slice, and the code of such bytes. Assumes nothing.
use Rattle.std.specs.Prelude.{ℕ, zero, suc, ◌+◌, ◌*◌, ◌/◌, ◌%◌, ◌^◌, List, [], ◌∷◌, length, get_or}
use Rattle.codes.specs.Width.{slices_of, pad_of}

-- the number that bytes make, the most significant first
unfoldable pub big : List ℕ → ℕ
big [] = 0
big (b ∷ bytes) = b * 256 ^ length bytes + big bytes

-- a number in n bytes, the most significant first
unfoldable pub to_big : ℕ → ℕ → List ℕ
to_big zero number = []
to_big (suc n) number = number / 256 ^ n % 256 ∷ to_big n number

-- the number that is stored for a code: the code times 2^p
unfoldable pub stored_of : ℕ → ℕ → ℕ
stored_of width code = code * 2 ^ pad_of width

-- the bytes of a code: its stored number in B bytes, the most significant first
unfoldable pub bytes_of : ℕ → ℕ → List ℕ
bytes_of width code = to_big (slices_of width) (stored_of width code)

-- the byte of a code in a slice, counted from 0
unfoldable pub byte_of : ℕ → ℕ → ℕ → ℕ
byte_of width code slice = get_or (bytes_of width code) slice 0

-- looking up: the bytes joined, divided by 2^p, rounded down
unfoldable pub joined : ℕ → List ℕ → ℕ
joined width bytes = big bytes / 2 ^ pad_of width
