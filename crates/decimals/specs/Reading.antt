-- What reading a decimal at a place of a text answers: a decimal has no leading zeros, stays below a limit and ends with the byte
-- that must follow it. Assumes nothing.
use Rattle.std.specs.Prelude.{ℕ, ◌<◌, ◌≤◌, ◌≡◌, List, ◌∷◌, ◌++◌, cond, eqb, length, get_or, drop, Option, Some, None}
use Rattle.decimals.specs.declared.After.{After}
use Rattle.decimals.specs.declared.After.TheVariants.{Space, LineFeed}
use Rattle.decimals.specs.Decimals.{space, line_feed, digit, decimal}

-- the byte that must follow a decimal
abbrev pub after_byte : After → ℕ
after_byte Space = space
after_byte LineFeed = line_feed

-- a number whose digits have been read and the place behind, if that byte follows
abbrev pub ended_by : After → ℕ → ℕ → ℕ → Option (ℕ × ℕ)
ended_by after byte number next = cond (eqb byte (after_byte after)) (Some (number, next)) None

-- a decimal below the limit and the byte that must follow: the number and the place behind, or there is none
abbrev pub NumberAt : ℕ → List ℕ → ℕ → After → Option (ℕ × ℕ) → Type 0
NumberAt limit text at after (Some (number, next)) =
    (number < limit) × (at < next) × (next ≤ length text)
    × (drop at text ≡ decimal number ++ (after_byte after ∷ drop next text))
NumberAt limit text at after None =
    (number : ℕ) (rest : List ℕ) → number < limit → drop at text ≡ decimal number ++ (after_byte after ∷ rest) → ⊥

-- a number stands at a place as a single digit that begins a decimal, which is at most the greatest
pub record FirstDigit (text : List ℕ) (from begun most : ℕ) : Type 0 where
  pub stands : get_or text from 0 ≡ digit begun
  pub some : 0 < begun
  pub single : begun < 10
  pub within : begun ≤ most
