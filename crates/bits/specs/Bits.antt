-- A result: a bit a row. Assumes nothing.
use Rattle.std.specs.Prelude.{ℕ, ◌+◌, ◌*◌, ◌/◌, ◌%◌, ◌^◌, ◌≤◌, ◌≡◌, List, map, Bool, ◌&&◌, cond, ltb, eqb, length, get_or}
use Rattle.limits.specs.Limits.{longest_segment}
use Rattle.basis.specs.Lists.{sum, below}
use Rattle.basis.specs.Buffers.{laid}

-- rows/8 rounded up
unfoldable pub bytes_for : ℕ → ℕ
bytes_for rows = (rows + 7) / 8

-- byte i: bit k, from the least significant, is that of row 8 x i + k; a bit past the last row is 0
unfoldable pub bits_at : (ℕ → Bool) → ℕ → ℕ → ℕ
bits_at found rows i = sum (λ k. cond (ltb (8 * i + k) rows && found (8 * i + k)) (2 ^ k) 0) (below 8)

-- all bytes
unfoldable pub bits_of : (ℕ → Bool) → ℕ → List ℕ
bits_of found rows = map (bits_at found rows) (below (bytes_for rows))

-- the bit of a row: bit i mod 8, from the least significant, of byte i/8
unfoldable pub bit_in : List ℕ → ℕ → ℕ
bit_in bytes i = get_or bytes (i / 8) 0 / 2 ^ (i % 8) % 2

-- 1 for rows found among the first n places, 0 for those not found and for all places after
pub record FoundRows (places : List ℕ) (n : ℕ) : Type 0 where
  pub few : n ≤ longest_segment
  pub all : length places ≡ longest_segment
  pub each : (k : ℕ) → get_or places k 0 ≤ 1
  pub rest : (k : ℕ) → n ≤ k → get_or places k 0 ≡ 0

-- eight rows from a place on are among those of a segment
pub record EightRows (places : List ℕ) (at : ℕ) : Type 0 where
  pub found : FoundRows places longest_segment
  pub inside : at + 8 ≤ longest_segment

-- so many of these eight rows are found
pub record OnesOfRows (places : List ℕ) (at ones : ℕ) : Type 0 where
  pub counted : ones ≡ sum (λ k. get_or places (at + k) 0) (below 8)
  pub few : ones ≤ 8

-- the bits of a segment's n rows fit into a result from a byte on
pub record BitsFit (places : List ℕ) (n at : ℕ) (result : List ℕ) : Type 0 where
  pub found : FoundRows places n
  pub room : at + bytes_for n ≤ length result

-- they stand there, and so many of them are set
pub record BitsPut (places : List ℕ) (n at : ℕ) (before after : List ℕ) (matches : ℕ) : Type 0 where
  pub counted : matches ≡ sum (λ k. get_or places k 0) (below n)
  pub left : after ≡ laid before at (bits_of (λ k. eqb (get_or places k 0) 1) n)
