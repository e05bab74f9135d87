-- The set bits of a number: counted, and those of two numbers that are joined into one. Assumes nothing.
--   bits_counted     a number that fits a width has as many set bits as it has places of set bits there
--   zeros_below      a number is a multiple of the weight of any place up to its lowest set bit
--   none_in_zero     0 has none
--   low_then_high    those of a number above another: the lower number's, then the higher one's, moved
use Prim.Native.Nat.{ℕ, zero, suc, ◌+◌, ◌*◌, ◌/◌, ◌%◌, ◌^◌, ◌≤◌, ◌<◌}
use native.Mathlib.Omega.{arith}
use native.Mathlib.Nat.{pow-succ', mul_assoc, zero-add, zero-div, div-div-eq-div-mul}
use mathlib.Core.Path.{◌≡◌, refl, sym, ap, ap₂, ◌∙◌}
use mathlib.Core.Logic.{◌⊎◌, inl, inr}
use mathlib.Core.List.{List, [], ◌∷◌, ◌++◌, map}
use lib.Dec.{eqb}
use lib.ListN.{length, length-map}
use lib.Count.{ones, ones_step, count_trailing_zeros}
use Rattle.basis.specs.Lists.{those, run, below}
use Rattle.basis.proofs.Lists.{mapped_same}
use Rattle.basis.proofs.Runs.{in_below, run_joined}
use Rattle.basis.proofs.Those.{those_joined, those_mapped, those_same, those_none}
use Rattle.bits.specs.SetBits.{is_set, places_in}
use Rattle.bits.proofs.ByteByByte.{run_moved}

-- a number is even or odd
low_bit : (number : ℕ) → (number % 2 ≡ 0) ⊎ (number % 2 ≡ 1)
low_bit number = go (number % 2) refl
  where
    go : (bit : ℕ) → number % 2 ≡ bit → (number % 2 ≡ 0) ⊎ (number % 2 ≡ 1)
    go zero e = inl e
    go (suc more) e = inr (omega arith)

-- bit k + 1 of a number is bit k of its half
halved : (number k : ℕ) → number / 2 ^ suc k ≡ number / 2 / 2 ^ k
halved number k = ap (λ (n : ℕ). number / n) (pow-succ' 2 k) ∙ sym (div-div-eq-div-mul number 2 (2 ^ k))

-- the places above the lowest are those of the half, one further
of_half : (width number : ℕ) → those (is_set number) (run 1 width) ≡ map suc (places_in width (number / 2))
unfolding places_in
of_half width number =
    ap (those (is_set number)) (run_moved 1 0 width ∙ mapped_same (λ k. 1 + k) suc width (λ k h. omega arith))
    ∙ those_mapped (is_set number) suc (below width)
    ∙ ap (map suc) (those_same (λ k. is_set number (suc k)) (is_set (number / 2)) (below width)
    (λ k m. ap (λ (n : ℕ). eqb (n % 2) 1) (halved number k)))

even : (width number : ℕ) → number % 2 ≡ 0 → places_in (suc width) number ≡ map suc (places_in width (number / 2))
unfolding places_in
even width number h =
    let bit : number / 2 ^ 0 % 2 ≡ 0 = omega arith in
    rw bit (of_half width number)

odd : (width number : ℕ) → number % 2 ≡ 1 → places_in (suc width) number ≡ 0 ∷ map suc (places_in width (number / 2))
unfolding places_in
odd width number h =
    let bit : number / 2 ^ 0 % 2 ≡ 1 = omega arith in
    rw bit (ap (λ (rest : List ℕ). 0 ∷ rest) (of_half width number))

-- a number of one bit more than a width has a half that fits the width
half_fits : (width number : ℕ) → number < 2 ^ suc width → number / 2 < 2 ^ width
half_fits width number h = omega (arith, pow-succ' 2 width)

pub bits_counted : (width number : ℕ) → number < 2 ^ width → ones number ≡ length (places_in width number)
unfolding places_in ones
bits_counted zero number h =
    let none : number ≡ 0 = omega arith in
    ap ones none
bits_counted (suc width) number h = go (low_bit number) (bits_counted width (number / 2) (half_fits width number h))
  where
    go : (number % 2 ≡ 0) ⊎ (number % 2 ≡ 1) → ones (number / 2) ≡ length (places_in width (number / 2)) →
        ones number ≡ length (places_in (suc width) number)
    go (inl e) rest =
        rw (even width number e) (omega (arith, ones_step number, rest, length-map (places_in width (number / 2)) suc))
    go (inr e) rest =
        rw (odd width number e) (omega (arith, ones_step number, rest, length-map (places_in width (number / 2)) suc))

pub zeros_below : (zeros width number : ℕ) → zeros ≤ count_trailing_zeros width number → number ≡ 2 ^ zeros * (number / 2 ^ zeros)
unfolding count_trailing_zeros
zeros_below zero width number h = omega arith
zeros_below (suc zeros) zero number h = absurd (omega arith)
zeros_below (suc zeros) (suc width) number h = go (low_bit number) h (zeros_below zeros width (number / 2))
  where
    go : (number % 2 ≡ 0) ⊎ (number % 2 ≡ 1) → suc zeros ≤ count_trailing_zeros (suc width) number →
        (zeros ≤ count_trailing_zeros width (number / 2) → number / 2 ≡ 2 ^ zeros * (number / 2 / 2 ^ zeros)) →
        number ≡ 2 ^ suc zeros * (number / 2 ^ suc zeros)
    go (inl e) enough rest =
        let twice : number ≡ 2 * (number / 2) = omega arith in
        twice
        ∙ ap (λ (n : ℕ). 2 * n) (rest (let more = rw e at enough in omega arith))
        ∙ sym (mul_assoc 2 (2 ^ zeros) (number / 2 / 2 ^ zeros))
        ∙ ap₂ (λ (m n : ℕ). m * n) (sym (pow-succ' 2 zeros)) (sym (halved number zeros))
    go (inr e) enough rest = absurd (let none = rw e at enough in omega arith)

pub none_in_zero : (width : ℕ) → places_in width 0 ≡ []
unfolding places_in
none_in_zero width = those_none (is_set 0) (below width) (λ k m. rw (zero-div (2 ^ k)))

-- the half of a number above another
half_joined : (width low high : ℕ) → (low + 2 ^ suc width * high) / 2 ≡ low / 2 + 2 ^ width * high
half_joined width low high =
    let twice : 2 ^ suc width * high ≡ 2 * (2 ^ width * high) = rw (pow-succ' 2 width) (mul_assoc 2 (2 ^ width) high) in
    rw twice (omega arith)

-- its lower bits, and its higher ones
low_bits : (width low high k : ℕ) → k < width → is_set (low + 2 ^ width * high) k ≡ is_set low k
low_bits zero low high k h = absurd (omega arith)
low_bits (suc width) low high zero h =
    let twice : 2 ^ suc width * high ≡ 2 * (2 ^ width * high) = rw (pow-succ' 2 width) (mul_assoc 2 (2 ^ width) high) in
    let bit : (low + 2 ^ suc width * high) / 2 ^ 0 % 2 ≡ low / 2 ^ 0 % 2 = rw twice (omega arith) in
    ap (λ (n : ℕ). eqb n 1) bit
low_bits (suc width) low high (suc k) h =
    ap (λ (n : ℕ). eqb (n % 2) 1) (halved (low + 2 ^ suc width * high) k)
    ∙ ap (λ (n : ℕ). is_set n k) (half_joined width low high)
    ∙ low_bits width (low / 2) high k (omega arith)
    ∙ ap (λ (n : ℕ). eqb (n % 2) 1) (sym (halved low k))

high_bits : (width low high k : ℕ) → low < 2 ^ width → is_set (low + 2 ^ width * high) (width + k) ≡ is_set high k
high_bits zero low high k h =
    let none : low + 2 ^ 0 * high ≡ high = omega arith in
    rw (none, zero-add k)
high_bits (suc width) low high k h =
    let next : suc width + k ≡ suc (width + k) = omega arith in
    ap (is_set (low + 2 ^ suc width * high)) next
    ∙ ap (λ (n : ℕ). eqb (n % 2) 1) (halved (low + 2 ^ suc width * high) (width + k))
    ∙ ap (λ (n : ℕ). is_set n (width + k)) (half_joined width low high)
    ∙ high_bits width (low / 2) high k (half_fits width low h)

pub low_then_high : (width more low high : ℕ) → low < 2 ^ width →
    places_in (width + more) (low + 2 ^ width * high) ≡ places_in width low ++ map (λ p. width + p) (places_in more high)
unfolding places_in
low_then_high width more low high h =
    let number = low + 2 ^ width * high in
    let first : 0 + width ≡ width + 0 = omega arith in
    ap (those (is_set number)) (sym (run_joined 0 width more))
    ∙ those_joined (is_set number) (below width) (run (0 + width) more)
    ∙ ap₂ (λ (a b : List ℕ). a ++ b)
    (those_same (is_set number) (is_set low) (below width) (λ k m. low_bits width low high k (in_below width k m)))
    (ap (λ (n : ℕ). those (is_set number) (run n more)) first
    ∙ ap (those (is_set number)) (run_moved width 0 more)
    ∙ those_mapped (is_set number) (λ k. width + k) (below more)
    ∙ ap (map (λ p. width + p))
    (those_same (λ k. is_set number (width + k)) (is_set high) (below more) (λ k m. high_bits width low high k h)))
