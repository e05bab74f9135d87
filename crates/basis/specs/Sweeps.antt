-- What a loop does to a buffer that it goes over, one store a turn. Assumes nothing.
use Rattle.std.specs.Prelude.{ℕ, ◌+◌, ◌≤◌, ◌<◌, ◌≡◌, List, length, get_or}

-- a sweep: n elements from a base on are f 0, f 1, .., and the others are as they were
pub record Swept (old new : List ℕ) (base n : ℕ) (f : ℕ → ℕ) : Type 0 where
  pub same_length : length new ≡ length old
  pub inside : (k : ℕ) → k < n → get_or new (base + k) 0 ≡ f k
  pub before : (k : ℕ) → k < base → get_or new k 0 ≡ get_or old k 0
  pub behind : (k : ℕ) → base + n ≤ k → get_or new k 0 ≡ get_or old k 0
