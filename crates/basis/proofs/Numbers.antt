-- Numbers as bytes, least significant first: each way undoes the other. Assumes nothing.
--   byte_first, byte_and_bytes   a list of bytes put together, and taken apart
--   length_to_little     as many bytes as were asked for
--   to_little_bytes      each of them a byte
--   little_bound        n bytes make a number below 256^n
--   little_to_little     a number that fits is read back
--   to_little_little     bytes are written back
--   little_from         from a place on: the byte there, and the rest 256 times
--   one_more_byte       a further byte makes a number below 256 times the bound
--   four_bytes_lem          at most four bytes make a number below 2^32
use Prim.Native.Nat.{ℕ, zero, suc, ◌+◌, ◌*◌, ◌/◌, ◌%◌, ◌^◌, ◌≤◌, ◌<◌}
use native.Mathlib.Omega.{arith}
use native.Mathlib.Nat.{pow-suc, pow-le-pow_right, lt_of_lt_of_le}
use mathlib.Core.Path.{◌≡◌, refl, ap}
use mathlib.Core.List.{List, [], ◌∷◌}
use lib.Dec.{T, ltb, ltb→lt}
use borrow.Author.Tests.{lt-ltb}
use lib.ListN.{length, get_or, drop}
use lib.Seq.{drop-cons}
use Rattle.basis.specs.Numbers.{are_bytes, little, to_little}
use Rattle.basis.proofs.Truth.{both}

pub length_to_little : (n number : ℕ) → length (to_little n number) ≡ n
unfolding to_little
length_to_little zero number = refl
length_to_little (suc n) number = ap suc (length_to_little n (number / 256))

pub byte_first : (b : ℕ) (bytes : List ℕ) → b < 256 → T (are_bytes bytes) → T (are_bytes (b ∷ bytes))
byte_first b bytes h rest = rw (lt-ltb b 256 h) rest

pub byte_and_bytes : (b : ℕ) (bytes : List ℕ) → T (are_bytes (b ∷ bytes)) → (b < 256) × T (are_bytes bytes)
byte_and_bytes b bytes t =
    let parts = both (ltb b 256) (are_bytes bytes) t in
    (ltb→lt b 256 parts.0, parts.1)

to_little_bytes : (n number : ℕ) → T (are_bytes (to_little n number))
unfolding to_little
to_little_bytes zero number = tt
to_little_bytes (suc n) number =
    byte_first (number % 256) (to_little n (number / 256)) (omega arith) (to_little_bytes n (number / 256))

little_bound : (bytes : List ℕ) → T (are_bytes bytes) → little bytes < 256 ^ length bytes
unfolding little
little_bound [] h = omega arith
little_bound (b ∷ bytes) h =
    let parts = byte_and_bytes b bytes h in
    rw pow-suc (omega (arith, little_bound bytes parts.1))

pub little_to_little : (n number : ℕ) → number < 256 ^ n → little (to_little n number) ≡ number
unfolding little to_little
little_to_little zero number h = omega arith
little_to_little (suc n) number h =
    let fits : number / 256 < 256 ^ n = omega (arith, rw pow-suc at h) in
    rw (little_to_little n (number / 256) fits) (omega arith)

pub to_little_little : (bytes : List ℕ) → T (are_bytes bytes) → to_little (length bytes) (little bytes) ≡ bytes
unfolding little to_little
to_little_little [] h = refl
to_little_little (b ∷ bytes) h =
    let parts = byte_and_bytes b bytes h in
    let low : (b + 256 * little bytes) % 256 ≡ b = omega arith in
    let high : (b + 256 * little bytes) / 256 ≡ little bytes = omega arith in
    rw (low, high) (ap (λ rest. b ∷ rest) (to_little_little bytes parts.1))

pub little_from : (bytes : List ℕ) (i : ℕ) → i < length bytes → little (drop i bytes) ≡ get_or bytes i 0 + 256 * little (drop (suc i) bytes)
unfolding little
little_from bytes i h = rw (drop-cons bytes i 0 h)

-- n bytes and one more
pub one_more_byte : (n number b : ℕ) → number < 256 ^ n → b < 256 → number * 256 + b < 256 ^ suc n
one_more_byte n number b h byte = rw pow-suc (omega arith)

pub four_bytes_lem : (n number : ℕ) → n ≤ 4 → number < 256 ^ n → number < 256 ^ 4
four_bytes_lem n number h fits = lt_of_lt_of_le fits (pow-le-pow_right {n = 256} (omega arith) h)
