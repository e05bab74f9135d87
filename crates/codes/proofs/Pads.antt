-- Clearing the pads of a row's bytes: what it keeps, and that the code does not see it. Assumes nothing.
--     length_cleared, cleared_at, cleared_bytes   the bytes with their pads cleared, one by one
--     cleared_byte_below              clearing does not raise a byte
--     cleared_last, cleared_before   what it does in the last slice, and in the slices before
--     pads_in_a_byte                 a whole number of pads makes a byte
--     big_cleared                    cleared bytes make the stored number of their code
--     joined_ignores_pad             clearing the pads does not change the code
--     same_but_for_pads              rows that differ in pads alone hold the same code
--     bytes_of_cleared                the bytes of a code have clear pads
--     byte_of_cleared                 and so has each of them
use Prim.Native.Nat.{ℕ, zero, suc, ◌+◌, ◌-◌, ◌*◌, ◌/◌, ◌^◌, ◌≤◌, ◌<◌}
use mathlib.Core.Path.{◌≡◌, refl, sym, ap, ap₂, ◌∙◌}
use mathlib.Core.List.{List, [], ◌∷◌}
use mathlib.Core.Bool.{Bool, true, false, cond}
use native.Mathlib.Omega.{arith}
use native.Mathlib.Nat.{div-mul-le_self, mul-add-div_right, pow-suc, zero-div, zero-mul, mul-one, add-zero, le_refl}
use lib.Dec.{T}
use lib.ListN.{length, get_or}
use lib.Pow.{pow_pos, pow-add, shl-shr}
use borrow.Author.Tests.{eq-eqb, ne_eqb}
use Rattle.basis.specs.Numbers.{are_bytes}
use Rattle.basis.proofs.Numbers.{byte_first, byte_and_bytes}
use Rattle.codes.specs.Width.{slices_of, pad_of}
use Rattle.codes.specs.Bytes.{big, to_big, stored_of, bytes_of, byte_of, joined}
use Rattle.codes.specs.Pad.{last_slice, cleared_byte, cleared_from, cleared}
use Rattle.codes.proofs.Width.{pad_below_eight}
use Rattle.codes.proofs.Big.{to_big_big}
use Rattle.codes.proofs.RoundTrip.{length_bytes_of, bytes_of_bytes, cut_then_joined}

-- clearing keeps the number of bytes, from any slice on
length_cleared_from : (width slice : ℕ) (bytes : List ℕ) → length (cleared_from width slice bytes) ≡ length bytes
unfolding cleared_from
length_cleared_from width slice [] = refl
length_cleared_from width slice (b ∷ bytes) = ap suc (length_cleared_from width (suc slice) bytes)

-- clearing keeps the number of bytes
pub length_cleared : (width : ℕ) (bytes : List ℕ) → length (cleared width bytes) ≡ length bytes
length_cleared width bytes = length_cleared_from width 0 bytes

-- each byte is cleared by itself, from any slice on
cleared_from_at : (width slice : ℕ) (bytes : List ℕ) (i : ℕ) → i < length bytes
    → get_or (cleared_from width slice bytes) i 0 ≡ cleared_byte width (slice + i) (get_or bytes i 0)
unfolding cleared_from
cleared_from_at width slice [] i h = omega arith
cleared_from_at width slice (b ∷ bytes) zero h = ap (λ (at : ℕ). cleared_byte width at b) (omega arith)
cleared_from_at width slice (b ∷ bytes) (suc i) h =
    cleared_from_at width (suc slice) bytes i (omega arith) ∙ ap (λ (at : ℕ). cleared_byte width at (get_or bytes i 0)) (omega arith)

-- each byte is cleared by itself
pub cleared_at : (width : ℕ) (bytes : List ℕ) (slice : ℕ) → slice < length bytes
    → get_or (cleared width bytes) slice 0 ≡ cleared_byte width slice (get_or bytes slice 0)
cleared_at width bytes slice h =
    cleared_from_at width 0 bytes slice h ∙ ap (λ (at : ℕ). cleared_byte width at (get_or bytes slice 0)) (omega arith)

-- clearing a pad does not raise a byte
cleared_byte_below : (width slice b : ℕ) → cleared_byte width slice b ≤ b
unfolding cleared_byte
cleared_byte_below width slice b = either (last_slice width slice)
  where
    either : (last : Bool) → cond last (b / 2 ^ pad_of width * 2 ^ pad_of width) b ≤ b
    either true = div-mul-le_self b (2 ^ pad_of width)
    either false = le_refl b

-- bytes are left bytes, from any slice on
cleared_from_bytes : (width slice : ℕ) (bytes : List ℕ) → T (are_bytes bytes) → T (are_bytes (cleared_from width slice bytes))
unfolding cleared_from
cleared_from_bytes width slice [] t = tt
cleared_from_bytes width slice (b ∷ bytes) t =
    let parts = byte_and_bytes b bytes t in
    byte_first (cleared_byte width slice b) (cleared_from width (suc slice) bytes)
    (omega (arith, cleared_byte_below width slice b))
    (cleared_from_bytes width (suc slice) bytes parts.1)

-- bytes are left bytes
pub cleared_bytes : (width : ℕ) (bytes : List ℕ) → T (are_bytes bytes) → T (are_bytes (cleared width bytes))
cleared_bytes width bytes t = cleared_from_bytes width 0 bytes t

-- in the last slice a byte is cleared of its pad
pub cleared_last : (width slice b : ℕ) → suc slice ≡ slices_of width → cleared_byte width slice b ≡ b / 2 ^ pad_of width * 2 ^ pad_of width
unfolding cleared_byte last_slice
cleared_last width slice b last = rw (eq-eqb (suc slice) (slices_of width) last)

-- in the slices before it a byte stays as it is
pub cleared_before : (width slice b : ℕ) → suc slice < slices_of width → cleared_byte width slice b ≡ b
unfolding cleared_byte last_slice
cleared_before width slice b before = rw (ne_eqb (suc slice) (slices_of width) (omega arith))

-- a whole number of pads makes a byte
pub pads_in_a_byte : (width : ℕ) → 2 ^ (8 - pad_of width) * 2 ^ pad_of width ≡ 256
pads_in_a_byte width =
    let eight : 8 - pad_of width + pad_of width ≡ 8 = omega (arith, pad_below_eight width) in
    sym (pow-add 2 (8 - pad_of width) (pad_of width)) ∙ ap (λ (n : ℕ). 2 ^ n) eight

-- bytes in front of others are a whole number of pads, which clearing leaves
clear_behind : (width b n rest : ℕ)
    → b * 256 ^ suc n + rest / 2 ^ pad_of width * 2 ^ pad_of width
    ≡ (b * 256 ^ suc n + rest) / 2 ^ pad_of width * 2 ^ pad_of width
clear_behind width b n rest =
    let unit = 2 ^ pad_of width in
    let many = b * (256 ^ n * 2 ^ (8 - pad_of width)) in
    let whole : b * 256 ^ suc n ≡ many * unit =
    rw (pow-suc 256 n) (ap (λ (byte : ℕ). b * (256 ^ n * byte)) (sym (pads_in_a_byte width)) ∙ omega arith) in
    rw (whole, mul-add-div_right (pow_pos (pad_of width)) many rest) (omega arith)

-- cleared bytes make the number cleared of its pad, from any slice on
big_cleared_from : (width slice : ℕ) (bytes : List ℕ) → slice + length bytes ≡ slices_of width
    → big (cleared_from width slice bytes) ≡ big bytes / 2 ^ pad_of width * 2 ^ pad_of width
unfolding big cleared_from
big_cleared_from width slice [] long = rw (zero-div, zero-mul)
big_cleared_from width slice (b ∷ []) long = simp (cleared_last width slice b (omega arith), mul-one, add-zero)
big_cleared_from width slice (b ∷ next ∷ bytes) long =
    let front : cleared_byte width slice b ≡ b = cleared_before width slice b (omega arith) in
    ap₂ ◌+◌
    (ap₂ (λ (x n : ℕ). x * 256 ^ n) front (length_cleared_from width (suc slice) (next ∷ bytes)))
    (big_cleared_from width (suc slice) (next ∷ bytes) (omega arith))
    ∙ clear_behind width b (length bytes) (big (next ∷ bytes))

-- cleared bytes make the stored number of their code
pub big_cleared : (width : ℕ) (bytes : List ℕ) → length bytes ≡ slices_of width
    → big (cleared width bytes) ≡ joined width bytes * 2 ^ pad_of width
unfolding joined
big_cleared width bytes long = big_cleared_from width 0 bytes (omega arith)

-- clearing the pads does not change the code
pub joined_ignores_pad : (width : ℕ) (bytes : List ℕ) → length bytes ≡ slices_of width
    → joined width (cleared width bytes) ≡ joined width bytes
unfolding joined
joined_ignores_pad width bytes long = rw (big_cleared width bytes long) (shl-shr (joined width bytes) (pad_of width))

-- rows that differ in pads alone hold the same code
pub same_but_for_pads : (width : ℕ) (xs ys : List ℕ) → length xs ≡ slices_of width → length ys ≡ slices_of width
    → cleared width xs ≡ cleared width ys → joined width xs ≡ joined width ys
same_but_for_pads width xs ys xs-long ys-long same =
    sym (joined_ignores_pad width xs xs-long) ∙ ap (joined width) same ∙ joined_ignores_pad width ys ys-long

-- the bytes of a code have clear pads
pub bytes_of_cleared : (width code : ℕ) → code < 2 ^ width → cleared width (bytes_of width code) ≡ bytes_of width code
unfolding stored_of bytes_of joined
bytes_of_cleared width code fits =
    let bytes = bytes_of width code in
    let long = length_bytes_of width code in
    sym (to_big_big (cleared width bytes) (cleared_bytes width bytes (bytes_of_bytes width code)))
    ∙ ap₂ to_big (length_cleared width bytes ∙ long)
    (big_cleared width bytes long ∙ ap (λ (number : ℕ). number * 2 ^ pad_of width) (cut_then_joined width code fits))

-- and so has each of them
pub byte_of_cleared : (width code slice : ℕ) → code < 2 ^ width → slice < slices_of width
    → cleared_byte width slice (byte_of width code slice) ≡ byte_of width code slice
unfolding byte_of
byte_of_cleared width code slice fits h =
    sym (cleared_at width (bytes_of width code) slice (omega (arith, length_bytes_of width code)))
    ∙ ap (λ (bytes : List ℕ). get_or bytes slice 0) (bytes_of_cleared width code fits)
