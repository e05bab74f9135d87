-- Decimals as they are written: of any number of 64 bits. Assumes nothing.
--   short_decimal     at most twenty digits
--   digit_decimal     below 10, one digit
--   longer_decimal    otherwise the decimal of the tenth, and then the last digit
use Prim.Native.Nat.{ℕ, zero, suc, ◌+◌, ◌*◌, ◌/◌, ◌%◌, ◌^◌, ◌≤◌, ◌<◌}
use native.Mathlib.Omega.{arith}
use mathlib.Core.Path.{◌≡◌, ap, ◌∙◌}
use mathlib.Core.List.{List, [], ◌∷◌, ◌++◌}
use mathlib.Core.Bool.{Bool, true, false}
use lib.Dec.{ltb}
use lib.ListN.{length, length-append}
use Rattle.decimals.specs.Decimals.{digit, decimal_in, decimal}
use Rattle.decimals.proofs.Decimals.{decimal_of_digit, decimal_one_more}

short_in : (more n : ℕ) → length (decimal_in more n) ≤ more
unfolding decimal_in
short_in zero n = omega arith
short_in (suc more) n = go (ltb n 10) (short_in more (n / 10))
  where
    go : (small : Bool) → length (decimal_in more (n / 10)) ≤ more →
        length {A = ℕ}
        (elim small as (λ small. List ℕ) [ true ↦ digit n ∷ [] | false ↦ decimal_in more (n / 10) ++ (digit (n % 10) ∷ []) ]) ≤
        suc more
    go true front = omega arith
    go false front = rw length-append (omega arith)

pub short_decimal : (n : ℕ) → length (decimal n) ≤ 20
unfolding decimal
short_decimal n = short_in 20 n

pub digit_decimal : (n : ℕ) → n < 10 → decimal n ≡ digit n ∷ []
digit_decimal n small = decimal_of_digit n small

pub longer_decimal : (n : ℕ) → 10 ≤ n → n < 2 ^ 64 → decimal n ≡ decimal (n / 10) ++ (digit (n % 10) ∷ [])
longer_decimal n large fits =
    let whole : n ≡ n / 10 * 10 + n % 10 = omega arith in
    ap decimal whole ∙ decimal_one_more (n / 10) (n % 10) (omega arith) (omega arith) (omega arith)
