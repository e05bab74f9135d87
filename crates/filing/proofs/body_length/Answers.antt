-- `filing::body_length` meets its contract: the slices are few, and so are their bytes. Assumes nothing.
use Prim.Native.Nat.{ℕ, ◌*◌, ◌≤◌}
use native.Mathlib.Omega.{arith}
use mathlib.Core.Path.{ap}
use Rattle.limits.specs.Limits.{most_rows, most_columns, most_slices}
use Rattle.directory.proofs.Entries.{few_bytes}
use Rattle.filing.proofs.body_length.Goals as goal
use Rattle.filing.proofs.body_length.Goals.{After-slices_in}

-- the bytes are few
few : (c : After-slices_in) → c.args.rows * c.slices_in.result ≤ most_rows * (most_slices * most_columns)
few c =
    few_bytes _ c.slices_in.result most_columns c.requires.few_rows (omega (arith, c.slices_in.ensures.few))
    (omega arith)

pub returns : goal.returns
returns c =
    record { counted = ap (λ (slices : ℕ). c.args.rows * slices) c.slices_in.ensures.counted; few = few c }
