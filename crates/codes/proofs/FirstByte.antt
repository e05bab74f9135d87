-- The first byte that differs decides how two codes compare. Assumes nothing.
--     order_is_compare               byte lists of one length compare as the numbers that they make
--     first_byte_decides             the bytes of two codes compare as the codes
--     first_byte_decides_in_a_file   a row's bytes, pads cleared, compare with a literal's as the row's code with it
use Prim.Native.Nat.{ℕ, ◌^◌, ◌<◌, compare}
use mathlib.Core.Path.{◌≡◌, sym, ap, ap₂, ◌∙◌}
use mathlib.Core.List.{List, [], ◌∷◌}
use native.Mathlib.Omega.{arith}
use native.Mathlib.Nat.{suc_inj}
use lib.Dec.{T}
use lib.ListN.{length}
use lib.Pow.{pow_pos}
use Rattle.basis.specs.Numbers.{are_bytes}
use Rattle.basis.proofs.Numbers.{byte_and_bytes}
use Rattle.codes.specs.Width.{slices_of, pad_of}
use Rattle.codes.specs.Bytes.{big, stored_of, bytes_of, joined}
use Rattle.codes.specs.Pad.{cleared}
use Rattle.codes.specs.Order.{order, and_then}
use Rattle.codes.proofs.Big.{big_bound}
use Rattle.codes.proofs.Compare.{compare_same, compare_digits, compare_scaled}
use Rattle.codes.proofs.RoundTrip.{length_bytes_of, bytes_of_bytes, big_bytes_of}
use Rattle.codes.proofs.Pads.{length_cleared, cleared_bytes, big_cleared}

-- Take two lists of bytes of one length. Go through both from the front to the first place where they differ: the list
-- with the lesser byte there makes the lesser number, whatever follows, and where they differ nowhere the numbers are equal.
pub order_is_compare : (xs ys : List ℕ) → T (are_bytes xs) → T (are_bytes ys) → length xs ≡ length ys
    → order xs ys ≡ compare (big xs) (big ys)
unfolding order big
order_is_compare [] [] xs-bytes ys-bytes long = sym (compare_same 0)
order_is_compare [] (y ∷ ys) xs-bytes ys-bytes long = absurd (omega arith)
order_is_compare (x ∷ xs) [] xs-bytes ys-bytes long = absurd (omega arith)
order_is_compare (x ∷ xs) (y ∷ ys) xs-bytes ys-bytes long =
    let xs-parts = byte_and_bytes x xs xs-bytes in
    let ys-parts = byte_and_bytes y ys ys-bytes in
    let same : length xs ≡ length ys = suc_inj long in
    ap (and_then (compare x y)) (order_is_compare xs ys xs-parts.1 ys-parts.1 same)
    ∙ rw same
    (sym
    (compare_digits (256 ^ length ys) x y (big xs) (big ys)
    (rw same at (big_bound xs xs-parts.1))
    (big_bound ys ys-parts.1)))

-- the bytes of two codes compare as the codes
pub first_byte_decides : (width a b : ℕ) → a < 2 ^ width → b < 2 ^ width
    → order (bytes_of width a) (bytes_of width b) ≡ compare a b
unfolding stored_of
first_byte_decides width a b a-fits b-fits =
    order_is_compare (bytes_of width a) (bytes_of width b) (bytes_of_bytes width a) (bytes_of_bytes width b)
    (length_bytes_of width a ∙ sym (length_bytes_of width b))
    ∙ ap₂ compare (big_bytes_of width a a-fits) (big_bytes_of width b b-fits)
    ∙ compare_scaled (2 ^ pad_of width) a b (pow_pos (pad_of width))

-- a row's bytes as they stand in a file, their pads cleared, compare with the bytes of a literal as the row's code with it
pub first_byte_decides_in_a_file : (width literal : ℕ) (bytes : List ℕ) → T (are_bytes bytes)
    → length bytes ≡ slices_of width → literal < 2 ^ width
    → order (cleared width bytes) (bytes_of width literal) ≡ compare (joined width bytes) literal
unfolding stored_of
first_byte_decides_in_a_file width literal bytes are long fits =
    order_is_compare (cleared width bytes) (bytes_of width literal) (cleared_bytes width bytes are) (bytes_of_bytes width literal)
    (length_cleared width bytes ∙ long ∙ sym (length_bytes_of width literal))
    ∙ ap₂ compare (big_cleared width bytes long) (big_bytes_of width literal fits)
    ∙ compare_scaled (2 ^ pad_of width) (joined width bytes) literal (pow_pos (pad_of width))
