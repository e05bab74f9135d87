-- Numbers as bytes, the most significant first, there and back. Assumes nothing.
--     some_power                  a power of 256 is not 0
--     big_append_one              one byte more: 256 times the number, and the byte
--     big_bound                   n bytes make a number below 256^n
--     length_to_big, to_big_bytes   to_big n makes n bytes
--     to_big_digit                 the byte at a place of to_big
--     big_to_big, to_big_big        each undoes the other
use Prim.Native.Nat.{ℕ, zero, suc, ◌+◌, ◌-◌, ◌*◌, ◌/◌, ◌%◌, ◌^◌, ◌<◌}
use mathlib.Core.Path.{◌≡◌, refl, sym, ap, ap₂, ◌∙◌}
use mathlib.Core.List.{List, [], ◌∷◌, ◌++◌}
use native.Mathlib.Omega.{arith}
use native.Mathlib.Nat.{mod-lt, mod-eq_of_lt, mod-one, mul_assoc, pow-succ', one-le-pow, mul-add-div_right, mul-add-mod_self_right}
use native.Mathlib.Numerals.{add-one}
use lib.Arith.{digits_lt, digits_div, mod-mul}
use lib.Dec.{T, lit<}
use lib.ListN.{length, get_or, length-append}
use Rattle.basis.specs.Numbers.{are_bytes}
use Rattle.basis.proofs.Numbers.{byte_first, byte_and_bytes}
use Rattle.codes.specs.Bytes.{big, to_big}

-- a power of 256 is not 0
some_power : (n : ℕ) → 0 < 256 ^ n
some_power n = one-le-pow n 256 (lit< tt)

-- one byte more at the end: 256 times the number, and the byte
pub big_append_one : (bytes : List ℕ) (b : ℕ) → big (bytes ++ (b ∷ [])) ≡ big bytes * 256 + b
unfolding big
big_append_one [] b = omega arith
big_append_one (x ∷ bytes) b =
    let longer : 256 ^ length (bytes ++ (b ∷ [])) ≡ 256 * 256 ^ length bytes =
    rw (length-append, add-one) (pow-succ' 256 (length bytes)) in
    omega (arith, ap (λ (power : ℕ). x * power) longer, big_append_one bytes b)

-- n bytes make a number below 256^n
pub big_bound : (bytes : List ℕ) → T (are_bytes bytes) → big bytes < 256 ^ length bytes
unfolding big
big_bound [] t = lit< tt
big_bound (b ∷ bytes) t =
    let parts = byte_and_bytes b bytes t in
    rw (pow-succ' 256 (length bytes)) (digits_lt parts.0 (big_bound bytes parts.1))

-- to_big n makes n bytes
pub length_to_big : (n x : ℕ) → length (to_big n x) ≡ n
unfolding to_big
length_to_big zero x = refl
length_to_big (suc n) x = ap suc (length_to_big n x)

-- what to_big makes are bytes
pub to_big_bytes : (n x : ℕ) → T (are_bytes (to_big n x))
unfolding to_big
to_big_bytes zero x = tt
to_big_bytes (suc n) x = byte_first (x / 256 ^ n % 256) (to_big n x) (mod-lt _ (lit< tt)) (to_big_bytes n x)

-- the byte at a place, counted from 0, is the digit with as many digits after it
pub to_big_digit : (n x place : ℕ) → place < n → get_or (to_big n x) place 0 ≡ x / 256 ^ (n - 1 - place) % 256
unfolding to_big
to_big_digit zero x place h = omega arith
to_big_digit (suc n) x zero h = ap (λ (m : ℕ). x / 256 ^ m % 256) (omega arith)
to_big_digit (suc n) x (suc place) h =
    to_big_digit n x place (omega arith) ∙ ap (λ (m : ℕ). x / 256 ^ m % 256) (omega arith)

-- the bytes of a number make it, but for what n bytes cannot hold
big_to_big_rest : (n x : ℕ) → big (to_big n x) ≡ x % 256 ^ n
unfolding big to_big
big_to_big_rest zero x = sym (mod-one x)
big_to_big_rest (suc n) x =
    rw (length_to_big n x, big_to_big_rest n x, pow-succ' 256 n) (sym (mod-mul x (lit< tt) (some_power n)))

-- a number that n bytes hold is made by its bytes
pub big_to_big : (n x : ℕ) → x < 256 ^ n → big (to_big n x) ≡ x
big_to_big n x h = big_to_big_rest n x ∙ mod-eq_of_lt h

-- n bytes of a number say nothing of what stands above them
to_big_low : (n q x : ℕ) → to_big n (q * 256 ^ n + x) ≡ to_big n x
unfolding to_big
to_big_low zero q x = refl
to_big_low (suc n) q x =
    rw (pow-succ' 256 n, ← (mul_assoc q 256 (256 ^ n)))
    (ap₂ ◌∷◌ (rw (mul-add-div_right (some_power n) (q * 256) x, mul-add-mod_self_right)) (to_big_low n (q * 256) x))

-- bytes are what to_big makes of their number
pub to_big_big : (bytes : List ℕ) → T (are_bytes bytes) → to_big (length bytes) (big bytes) ≡ bytes
unfolding to_big big
to_big_big [] t = refl
to_big_big (b ∷ bytes) t =
    let parts = byte_and_bytes b bytes t in
    let below = big_bound bytes parts.1 in
    ap₂ ◌∷◌ (ap (λ (x : ℕ). x % 256) (digits_div b below) ∙ mod-eq_of_lt parts.0)
    (to_big_low (length bytes) b (big bytes) ∙ to_big_big bytes parts.1)
