-- Decimals without leading zeros, and the bytes that stand between words and after lines. Assumes nothing.
use Rattle.std.specs.Prelude.{ℕ, zero, suc, ◌+◌, ◌/◌, ◌%◌, List, [], ◌∷◌, ◌++◌, true, false, ltb}
use Rattle.limits.specs.Limits.{longest_decimal}

-- a space and a line feed
abbrev pub space : ℕ
space = 32

abbrev pub line_feed : ℕ
line_feed = 10

-- the byte of a digit
abbrev pub digit : ℕ → ℕ
digit n = 48 + n

-- a number in at most so many digits
unfoldable pub decimal_in : ℕ → ℕ → List ℕ
decimal_in zero n = []
decimal_in (suc more) n =
    elim (ltb n 10) as (λ small. List ℕ) [ true ↦ digit n ∷ [] | false ↦ decimal_in more (n / 10) ++ (digit (n % 10) ∷ []) ]

-- a number in decimal: one digit, or the decimal of its tenth and then its last digit. Twenty digits are more than enough
unfoldable pub decimal : ℕ → List ℕ
decimal n = decimal_in longest_decimal n
