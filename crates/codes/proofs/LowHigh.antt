-- A byte of a row against a literal's byte: clearing the pad and comparing is comparing with a low and a high. Assumes nothing.
--     compare_is_against       numbers in the order of a byte and a run compare as the byte against the run
--     high_last, high_before   the high in the last slice, and in the slices before it
--     cleared_is_against       cleared and compared is compared with low and high
--     high_is_a_byte           the high is a byte
use Prim.Native.Nat.{Ordering}
use Prim.Native.Nat.{ℕ, suc, ◌+◌, ◌-◌, ◌*◌, ◌/◌, ◌^◌, ◌≤◌, ◌<◌, compare}
use mathlib.Core.Path.{◌≡◌, refl, sym, ap, ◌∙◌}
use mathlib.Core.Bool.{Bool, true, false, cond}
use mathlib.Core.Logic.{⊎_elim}
use native.Mathlib.Omega.{arith}
use native.Mathlib.Nat.{eq-or-lt_of_le, div-add-mod', mod-lt, div-mul-le_self, div-eq_of_lt-le, mul-le-mul_right, lt_of_mul-lt-mul_right}
use lib.Dec.{ltb}
use lib.Pow.{pow_pos}
use borrow.Author.Tests.{ltb-true, ltb-false, eq-eqb, ne_eqb}
use Rattle.codes.specs.Width.{slices_of, pad_of}
use Rattle.codes.specs.Bytes.{byte_of}
use Rattle.codes.specs.Pad.{last_slice, cleared_byte, high_of}
use Rattle.codes.specs.Order.{against}
use Rattle.codes.proofs.Compare.{compare_less, compare_same, compare_more}
use Rattle.codes.proofs.RoundTrip.{byte_of_below}
use Rattle.codes.proofs.Pads.{cleared_last, cleared_before, pads_in_a_byte, byte_of_cleared}

-- a pair of numbers in the order of a byte and a run compares as the byte against the run
pub compare_is_against : (low high b c d : ℕ) → (b < low → c < d) → (low ≤ b → b ≤ high → c ≡ d) → (high < b → d < c)
    → compare c d ≡ against low high b
unfolding against
compare_is_against low high b c d less same more = by (ltb b low) (ltb high b) refl refl
  where
    by : (under over : Bool) → ltb b low ≡ under → ltb high b ≡ over
        → compare c d ≡ cond under Ordering.lt (cond over Ordering.gt Ordering.eq)
    by true over e f = compare_less c d (less (ltb-true b low e))
    by false true e f = compare_more c d (more (ltb-true high b f))
    by false false e f = rw (same (ltb-false b low e) (ltb-false high b f)) (compare_same d)

-- in the last slice the high has a full pad
pub high_last : (width slice c : ℕ) → suc slice ≡ slices_of width → high_of width slice c ≡ c + (2 ^ pad_of width - 1)
unfolding high_of last_slice
high_last width slice c last = rw (eq-eqb (suc slice) (slices_of width) last)

-- in the slices before it the high is the byte itself
pub high_before : (width slice c : ℕ) → suc slice < slices_of width → high_of width slice c ≡ c
unfolding high_of last_slice
high_before width slice c before = rw (ne_eqb (suc slice) (slices_of width) (omega arith))

-- a number cleared below a unit, against a multiple of the unit, is the number against the run from there to the next
cleared_against_multiple : (unit m b : ℕ) → 0 < unit
    → compare (b / unit * unit) (m * unit) ≡ against (m * unit) (m * unit + (unit - 1)) b
cleared_against_multiple unit m b some =
    compare_is_against (m * unit) (m * unit + (unit - 1)) b (b / unit * unit) (m * unit)
    (λ less. omega (arith, div-mul-le_self b unit))
    (λ from to. ap (λ (x : ℕ). x * unit) (div-eq_of_lt-le unit from (omega arith)))
    (λ more. omega (arith, div-add-mod' b unit, mod-lt b some))

-- so a cleared byte against a byte with a clear pad is the byte against low and high
cleared_is_against_clear : (width slice low b : ℕ) → slice < slices_of width → cleared_byte width slice low ≡ low
    → compare (cleared_byte width slice b) low ≡ against low (high_of width slice low) b
cleared_is_against_clear width slice low b h clear = ⊎_elim in_the_last before_it (eq-or-lt_of_le h)
  where
    in_the_last : suc slice ≡ slices_of width → compare (cleared_byte width slice b) low ≡ against low (high_of width slice low) b
    in_the_last last =
        let low-is = sym (cleared_last width slice low last) ∙ clear in
        rw (cleared_last width slice b last, high_last width slice low last)
        (rw low-is at (cleared_against_multiple (2 ^ pad_of width) (low / 2 ^ pad_of width) b (pow_pos (pad_of width))))

    before_it : suc slice < slices_of width → compare (cleared_byte width slice b) low ≡ against low (high_of width slice low) b
    before_it before =
        rw (cleared_before width slice b before, high_before width slice low before)
        (compare_is_against low low b b low (λ less. less) (omega arith) (λ more. more))

-- clearing a row's byte and comparing it with a literal's is comparing it with the literal's low and high
pub cleared_is_against : (width literal slice b : ℕ) → literal < 2 ^ width → slice < slices_of width
    → compare (cleared_byte width slice b) (byte_of width literal slice)
    ≡ against (byte_of width literal slice) (high_of width slice (byte_of width literal slice)) b
cleared_is_against width literal slice b fits h =
    cleared_is_against_clear width slice (byte_of width literal slice) b h (byte_of_cleared width literal slice fits h)

-- the high of a literal's byte is a byte
pub high_is_a_byte : (width literal slice : ℕ) → literal < 2 ^ width → slice < slices_of width
    → high_of width slice (byte_of width literal slice) < 256
high_is_a_byte width literal slice fits h = ⊎_elim in_the_last before_it (eq-or-lt_of_le h)
  where
    low : ℕ
    low = byte_of width literal slice

    in_the_last : suc slice ≡ slices_of width → high_of width slice low < 256
    in_the_last last =
        let unit = 2 ^ pad_of width in
        let clear : low / unit * unit ≡ low = sym (cleared_last width slice low last) ∙ byte_of_cleared width literal slice fits h in
        let whole = pads_in_a_byte width in
        let under : low / unit * unit < 2 ^ (8 - pad_of width) * unit = omega (arith, byte_of_below width literal slice h) in
        rw (high_last width slice low last)
        (omega (arith, pow_pos (pad_of width), mul-le-mul_right unit (lt_of_mul-lt-mul_right unit under)))

    before_it : suc slice < slices_of width → high_of width slice low < 256
    before_it before = rw (high_before width slice low before) (byte_of_below width literal slice h)
