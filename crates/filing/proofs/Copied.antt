-- Bytes copied into a part of a buffer, and the bytes of a number as the library std gives them. Assumes nothing.
--   copied       a list copied into a part of a buffer is laid there
--   low_bytes    the first few of the eight bytes of a number are its least significant ones
use Prim.Native.Nat.{ℕ, zero, suc, ◌+◌, ◌-◌, ◌/◌, ◌%◌, ◌^◌, ◌≤◌}
use native.Mathlib.Omega.{arith}
use native.Mathlib.Nat.{div-one, div-div-eq-div-mul, pow-suc}
use mathlib.Core.Path.{◌≡◌, refl, ap, ap₂, ◌∙◌}
use mathlib.Core.List.{List, ◌∷◌}
use lib.ListN.{length, take}
use lib.Seq.{drop-drop}
use borrow.Rule.Slice.PartMut.{put_mid}
use Rattle.std.specs.Int.{w64, byte_at, bytes_low_first, to_le_bytes}
use Rattle.basis.specs.Buffers.{laid}
use Rattle.basis.specs.Numbers.{to_little}

pub copied : (out : List ℕ) (at n : ℕ) {part : List ℕ} (list : List ℕ) → part ≡ list → length list ≡ n →
    put_mid at (at + n - at) out part ≡ laid out at list
copied out at n list same long =
    let many : at + n - at ≡ length list = omega arith in
    rw (same, many, drop-drop (length list) at out)

-- one byte of a number
its_byte : (i number : ℕ) → byte_at i number ≡ number / 256 ^ i % 256
its_byte zero number = rw div-one
its_byte (suc i) number = refl

-- so many bytes of a number, from one on
bytes_from : (i n number : ℕ) → bytes_low_first i n number ≡ to_little n (number / 256 ^ i)
unfolding to_little
bytes_from i zero number = refl
bytes_from i (suc n) number =
    let rest : number / 256 ^ suc i ≡ number / 256 ^ i / 256 = rw (div-div-eq-div-mul, pow-suc 256 i) in
    ap₂ (λ (byte : ℕ) (bytes : List ℕ). byte ∷ bytes) (its_byte i number) (bytes_from (suc i) n number ∙ ap (to_little n) rest)

-- the first few of them
first_bytes : (few n number : ℕ) → few ≤ n → take few (to_little n number) ≡ to_little few number
unfolding to_little
first_bytes zero n number h = refl
first_bytes (suc few) zero number h = absurd (omega arith)
first_bytes (suc few) (suc n) number h =
    ap (λ (bytes : List ℕ). number % 256 ∷ bytes) (first_bytes few n (number / 256) (omega arith))

pub low_bytes : (few number : ℕ) → few ≤ 8 → take few (to_le_bytes w64 number) ≡ to_little few number
low_bytes few number h = ap (take few) (bytes_from 0 8 number ∙ ap (to_little 8) (div-one number)) ∙ first_bytes few 8 number h
