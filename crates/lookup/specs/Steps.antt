-- What the steps of the lookup know and say of the numbers of a list. Assumes nothing.
use Rattle.std.specs.Prelude.{ℕ, ◌<◌, ◌≤◌, List, length, get_or}
use Rattle.register.specs.declared.Register.{Register}

-- every listed number is below a bound
abbrev pub AllBelow : ℕ → List ℕ → Type 0
AllBelow bound list = (i : ℕ) → i < length list → get_or list i 0 < bound

-- the first index at which the list has a number that is not below a bound
pub record IsFirstMissing (bound : ℕ) (list : List ℕ) (i : ℕ) : Type 0 where
  pub inside : i < length list
  pub above : bound ≤ get_or list i 0
  pub before : (k : ℕ) → k < i → get_or list k 0 < bound

-- no listed number is above a bound
abbrev pub NoneAbove : ℕ → List ℕ → Type 0
NoneAbove bound list = (i : ℕ) → i < length list → get_or list i 0 ≤ bound

-- the register has the column and every listed row, and the output has room for their codes
pub record ToLookUp (register : Register) (column : ℕ) (list out : List ℕ) : Type 0 where
  pub column_there : column < register.shape.columns
  pub rows_there : AllBelow register.shape.rows list
  pub room : length list ≤ length out
