-- The sizes that a segment may have. Assumes nothing.
use Rattle.std.specs.Prelude.{ℕ, List, [], ◌∷◌, Bool, not, eqb}
use Rattle.limits.specs.Limits.{longest_segment}
use Rattle.basis.specs.Lists.{any}

-- 8, 16, 32 or 64 rows
abbrev pub sizes : List ℕ
sizes = 8 ∷ 16 ∷ 32 ∷ longest_segment ∷ []

-- a segment may not have so many
unfoldable pub unfit_size : ℕ → Bool
unfit_size size = not (any (eqb size) sizes)
