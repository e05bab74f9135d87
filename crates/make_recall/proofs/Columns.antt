-- The code of a pickup, column by column. Assumes nothing.
--   last_column    past the first three there is the site
use Prim.Native.Nat.{ℕ, zero, suc}
use mathlib.Core.Path.{◌≡◌, refl}
use Rattle.make_recall.specs.Pickups.{site_of, code_of}

pub last_column : (row column : ℕ) → (column ≡ 0 → ⊥) → (column ≡ 1 → ⊥) → (column ≡ 2 → ⊥) → site_of row ≡ code_of row column
last_column row zero a b c = absurd (a refl)
last_column row (suc zero) a b c = absurd (b refl)
last_column row (suc (suc zero)) a b c = absurd (c refl)
last_column row (suc (suc (suc column))) a b c = refl
