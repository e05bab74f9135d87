-- What follows from a column's width: how many slices it has, how much pad, and which widths fit. Assumes nothing.
--     pad_below_eight         the pad is less than a byte
--     width_and_pad           width and pad fill the slices
--     some_slice              a column has a slice
--     few_slices_of           and no more than the most
--     earlier_slices          the slices before any one of them hold a number of one slice less than the most
--     bytes_of_bits           a power of 2 to a multiple of 8 is a power of 256
--     two_eighths             codes times pads are as many as the slices' numbers
--     unfit_false, fit_width  a width that is not unfit is between 1 and the widest, and back
--     below_the_limit         a code that is not too large is below 2^width
use Prim.Native.Nat.{ℕ, zero, suc, ◌+◌, ◌-◌, ◌*◌, ◌^◌, ◌≤◌, ◌<◌}
use mathlib.Core.Path.{◌≡◌, refl, sym, ap, ◌∙◌}
use mathlib.Core.Bool.{false}
use native.Mathlib.Nat.{mul-suc, pow-suc, pow-le-pow_right}
use native.Mathlib.Omega.{arith}
use lib.Dec.{ltb, eqb, lit<}
use lib.Pow.{pow-add}
use borrow.Author.Tests.{ltb-true, ltb-false, eqb-false, le-ltb, ne_eqb, not-false}
use Rattle.basis.proofs.Truth.{neither}
use Rattle.limits.specs.Limits.{widest, most_slices}
use Rattle.codes.specs.Width.{unfit_width, slices_of, pad_of, too_large}

-- a pad is less than a byte
pub pad_below_eight : (width : ℕ) → pad_of width < 8
unfolding pad_of slices_of
pad_below_eight width = omega arith

-- width and pad together are the bits of the slices
pub width_and_pad : (width : ℕ) → width + pad_of width ≡ 8 * slices_of width
unfolding pad_of slices_of
width_and_pad width = omega arith

-- a column of any bits has a slice
pub some_slice : (width : ℕ) → 0 < width → 0 < slices_of width
unfolding slices_of
some_slice width some = omega arith

-- no column has more slices than the most
pub few_slices_of : (width : ℕ) → width ≤ widest → slices_of width ≤ most_slices
unfolding slices_of
few_slices_of width fits = omega arith

-- so the numbers of the slices before any one of them fit one slice less
pub earlier_slices : (width slice : ℕ) → width ≤ widest → slice < slices_of width → 256 ^ slice ≤ 256 ^ (most_slices - 1)
earlier_slices width slice fits h =
    let few = few_slices_of width fits in
    pow-le-pow_right {n = 256} (lit< tt) {j = most_slices - 1} (omega arith)

-- a power of 2 to a multiple of 8 is a power of 256
pub bytes_of_bits : (n : ℕ) → 2 ^ (8 * n) ≡ 256 ^ n
bytes_of_bits zero = refl
bytes_of_bits (suc n) = rw (mul-suc, pow-add, bytes_of_bits n, pow-suc 256 n)

-- codes times pads are as many as the slices have numbers
pub two_eighths : (width : ℕ) → 2 ^ width * 2 ^ pad_of width ≡ 256 ^ slices_of width
two_eighths width = sym (pow-add 2 width (pad_of width)) ∙ ap (λ (n : ℕ). 2 ^ n) (width_and_pad width) ∙ bytes_of_bits (slices_of width)

-- a width that is not unfit is between 1 and the widest
pub unfit_false : (width : ℕ) → unfit_width width ≡ false → (0 < width) × (width ≤ widest)
unfolding unfit_width
unfit_false width e =
    let both = neither (eqb width 0) (ltb widest width) e in
    omega (arith, eqb-false width 0 both.0, ltb-false widest width both.1)

-- a width between 1 and the widest is not unfit
pub fit_width : (width : ℕ) → 0 < width → width ≤ widest → unfit_width width ≡ false
unfolding unfit_width
fit_width width some fits = rw (ne_eqb width 0 (omega arith), le-ltb widest width fits)

-- a code that is not too large is below 2^width
pub below_the_limit : (width code : ℕ) → too_large width code ≡ false → code < 2 ^ width
unfolding too_large
below_the_limit width code fits = ltb-true code (2 ^ width) (not-false _ fits)
