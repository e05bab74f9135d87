-- Whole numbers as bytes, least significant first, both ways: directory and trailer hold them so. Assumes nothing.
use Rattle.std.specs.Prelude.{ℕ, zero, suc, ◌+◌, ◌*◌, ◌/◌, ◌%◌, List, [], ◌∷◌, Bool, ltb, take, drop}
use Rattle.basis.specs.Lists.{all}

-- each is a byte
abbrev pub are_bytes : List ℕ → Bool
are_bytes bytes = all (λ b. ltb b 256) bytes

-- the number that bytes make, the least significant first
unfoldable pub little : List ℕ → ℕ
little [] = 0
little (b ∷ bytes) = b + 256 * little bytes

-- a number in n bytes, the least significant first
unfoldable pub to_little : ℕ → ℕ → List ℕ
to_little zero number = []
to_little (suc n) number = number % 256 ∷ to_little n (number / 256)

-- the number of n bytes that stands at a place of a file
unfoldable pub number_at : List ℕ → ℕ → ℕ → ℕ
number_at file at n = little (take n (drop at file))
