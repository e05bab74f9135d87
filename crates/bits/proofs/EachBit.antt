-- The result bit by bit: bit i is bit i mod 8, from the least significant, of byte i/8, and is set exactly when row i is found; a
-- bit past the last row is 0. Assumes nothing.
--   bit_is_found    the bit of a row that is found is 1, and that of every other is 0
use Prim.Native.Nat.{ℕ, zero, suc, ◌+◌, ◌*◌, ◌/◌, ◌%◌, ◌^◌, ◌≤◌, ◌<◌}
use native.Mathlib.Omega.{arith}
use native.Mathlib.Nat.{zero-div}
use mathlib.Core.Path.{◌≡◌, ap, ◌∙◌}
use mathlib.Core.Logic.{◌⊎◌, inl, inr}
use mathlib.Core.Bool.{Bool, true, false, ◌&&◌, cond}
use borrow.Author.Tests.{le-ltb}
use lib.Dec.{ltb}
use lib.ListN.{get_or, get_or-eq_default}
use Rattle.basis.proofs.Truth.{at_most_one}
use Rattle.basis.proofs.Runs.{within_or_past, mapped_at}
use Rattle.bits.specs.Bits.{bytes_for, bits_at, bits_of, bit_in}
use Rattle.bits.proofs.Packed.{length_bits}

-- a weight with 0 or 1
weight_of : (is : Bool) (weight : ℕ) → cond is weight 0 ≡ weight * cond is 1 0
weight_of true weight = omega arith
weight_of false weight = omega arith

-- eight bits with their weights, as a number
abbrev eight : (ℕ → ℕ) → ℕ
eight bit = bit 0 + 2 * bit 1 + 4 * bit 2 + 8 * bit 3 + 16 * bit 4 + 32 * bit 5 + 64 * bit 6 + 128 * bit 7

-- each is read off by a division
read_off : (bit : ℕ → ℕ) → ((k : ℕ) → bit k ≤ 1) → (j : ℕ) → j < 8 → eight bit / 2 ^ j % 2 ≡ bit j
read_off bit few j h = go (few 0) (few 1) (few 2) (few 3) (few 4) (few 5) (few 6) (few 7) j h
  where
    go : bit 0 ≤ 1 → bit 1 ≤ 1 → bit 2 ≤ 1 → bit 3 ≤ 1 → bit 4 ≤ 1 → bit 5 ≤ 1 → bit 6 ≤ 1 → bit 7 ≤ 1 → (j : ℕ) → j < 8 →
        eight bit / 2 ^ j % 2 ≡ bit j
    go a b c d e f g h zero k = omega arith
    go a b c d e f g h (suc zero) k = omega arith
    go a b c d e f g h (suc (suc zero)) k = omega arith
    go a b c d e f g h (suc (suc (suc zero))) k = omega arith
    go a b c d e f g h (suc (suc (suc (suc zero)))) k = omega arith
    go a b c d e f g h (suc (suc (suc (suc (suc zero))))) k = omega arith
    go a b c d e f g h (suc (suc (suc (suc (suc (suc zero)))))) k = omega arith
    go a b c d e f g h (suc (suc (suc (suc (suc (suc (suc zero))))))) k = omega arith
    go a b c d e f g h (suc (suc (suc (suc (suc (suc (suc (suc j)))))))) k = absurd (omega arith)

-- the bits of a byte
byte_is_eight : (found : ℕ → Bool) (rows i : ℕ) → bits_at found rows i ≡ eight (λ k. cond (ltb (8 * i + k) rows && found (8 * i + k)) 1 0)
unfolding bits_at
byte_is_eight found rows i =
    let is : ℕ → Bool = λ k. ltb (8 * i + k) rows && found (8 * i + k) in
    omega (
      arith,
      weight_of (is 0) 1,
      weight_of (is 1) 2,
      weight_of (is 2) 4,
      weight_of (is 3) 8,
      weight_of (is 4) 16,
      weight_of (is 5) 32,
      weight_of (is 6) 64,
      weight_of (is 7) 128,
    )

pub bit_is_found : (found : ℕ → Bool) (rows row : ℕ) → bit_in (bits_of found rows) row ≡ cond (ltb row rows && found row) 1 0
unfolding bit_in bits_of bytes_for
bit_is_found found rows row = go (within_or_past (row / 8) (bytes_for rows))
  where
    is : ℕ → Bool
    is i = ltb i rows && found i

    go : (row / 8 < bytes_for rows) ⊎ (bytes_for rows ≤ row / 8) →
        get_or (bits_of found rows) (row / 8) 0 / 2 ^ (row % 8) % 2 ≡ cond (ltb row rows && found row) 1 0
    go (inl inside) =
        let place : 8 * (row / 8) + row % 8 ≡ row = omega arith in
        let byte : get_or (bits_of found rows) (row / 8) 0 ≡ eight (λ k. cond (is (8 * (row / 8) + k)) 1 0) =
        mapped_at (bits_at found rows) (bytes_for rows) (row / 8) 0 inside ∙ byte_is_eight found rows (row / 8) in
        ap (λ (b : ℕ). b / 2 ^ (row % 8) % 2) byte
        ∙ read_off (λ k. cond (is (8 * (row / 8) + k)) 1 0) (λ k. (at_most_one (is (8 * (row / 8) + k))).0) (row % 8) (omega arith)
        ∙ ap (λ (i : ℕ). cond (is i) 1 0) place
    go (inr past) =
        let none : get_or (bits_of found rows) (row / 8) 0 ≡ 0 =
        get_or-eq_default (bits_of found rows) 0 (rw (length_bits found rows) past) in
        rw (none, zero-div (2 ^ (row % 8)), le-ltb row rows (omega arith))
