-- What is known where a row is written. Assumes nothing.
use Rattle.std.specs.Prelude.{ℕ, ◌<◌}
use Rattle.register.specs.declared.Register.{Register}

-- the place is before a limit, and the register has the row
pub record RowAt (limit at : ℕ) (register : Register) (row : ℕ) : Type 0 where
  pub early : at < limit
  pub there : row < register.shape.rows
