-- What is known of a number that was made of bytes: which it is, and that it is small. Assumes nothing.
use Rattle.std.specs.Prelude.{ℕ, ◌^◌, ◌<◌, ◌≡◌, List, length}
use Rattle.basis.specs.Numbers.{little}

-- the number that bytes make, the least significant first
pub record OfBytes (bytes : List ℕ) (number : ℕ) : Type 0 where
  pub made : number ≡ little bytes
  pub small : number < 256 ^ length bytes
