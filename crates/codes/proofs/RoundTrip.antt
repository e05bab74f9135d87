-- A code cut into bytes and joined again is the code. Assumes nothing.
--     stored_below                    the stored number of a code fits the slices
--     length_bytes_of, bytes_of_bytes   a code has a byte for each slice
--     byte_of_digit, byte_of_below      the byte in a slice is a digit of the stored number, and a byte
--     big_bytes_of                     the bytes of a code make its stored number
--     cut_then_joined                 joining what was cut gives the code back
--     joined_below                    what is joined is a code of the width
use Prim.Native.Nat.{ℕ, ◌-◌, ◌/◌, ◌%◌, ◌^◌, ◌<◌}
use mathlib.Core.Path.{◌≡◌}
use mathlib.Core.List.{List}
use native.Mathlib.Nat.{mod-lt, mul-lt-mul_of_pos_right, div-lt_iff_lt-mul}
use lib.Dec.{T, lit<}
use lib.ListN.{length}
use lib.Pow.{pow_pos, shl-shr}
use Rattle.basis.specs.Numbers.{are_bytes}
use Rattle.codes.specs.Width.{slices_of, pad_of}
use Rattle.codes.specs.Bytes.{big, stored_of, bytes_of, byte_of, joined}
use Rattle.codes.proofs.Width.{two_eighths}
use Rattle.codes.proofs.Big.{big_bound, length_to_big, to_big_bytes, to_big_digit, big_to_big}

-- the stored number of a code fits the slices
pub stored_below : (width code : ℕ) → code < 2 ^ width → stored_of width code < 256 ^ slices_of width
unfolding stored_of
stored_below width code fits = rw (← (two_eighths width)) (mul-lt-mul_of_pos_right fits (pow_pos (pad_of width)))

-- a code has as many bytes as the column has slices
pub length_bytes_of : (width code : ℕ) → length (bytes_of width code) ≡ slices_of width
unfolding bytes_of
length_bytes_of width code = length_to_big (slices_of width) (stored_of width code)

-- the bytes of a code are bytes
pub bytes_of_bytes : (width code : ℕ) → T (are_bytes (bytes_of width code))
unfolding bytes_of
bytes_of_bytes width code = to_big_bytes (slices_of width) (stored_of width code)

-- the byte in a slice is the digit of the stored number with as many digits after it as slices follow
pub byte_of_digit : (width code slice : ℕ) → slice < slices_of width
    → byte_of width code slice ≡ stored_of width code / 256 ^ (slices_of width - 1 - slice) % 256
unfolding byte_of bytes_of
byte_of_digit width code slice h = to_big_digit (slices_of width) (stored_of width code) slice h

-- the byte in a slice is a byte
pub byte_of_below : (width code slice : ℕ) → slice < slices_of width → byte_of width code slice < 256
byte_of_below width code slice h = rw (byte_of_digit width code slice h) (mod-lt _ (lit< tt))

-- the bytes of a code make its stored number
pub big_bytes_of : (width code : ℕ) → code < 2 ^ width → big (bytes_of width code) ≡ stored_of width code
unfolding bytes_of
big_bytes_of width code fits = big_to_big (slices_of width) (stored_of width code) (stored_below width code fits)

-- joining what was cut gives the code back
pub cut_then_joined : (width code : ℕ) → code < 2 ^ width → joined width (bytes_of width code) ≡ code
unfolding joined stored_of
cut_then_joined width code fits = rw (big_bytes_of width code fits) (shl-shr code (pad_of width))

-- what is joined is a code of the width
pub joined_below : (width : ℕ) (bytes : List ℕ) → T (are_bytes bytes) → length bytes ≡ slices_of width → joined width bytes < 2 ^ width
unfolding joined
joined_below width bytes are long =
    (div-lt_iff_lt-mul (pow_pos (pad_of width))).1 (rw (two_eighths width, ← long) (big_bound bytes are))
