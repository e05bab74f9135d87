-- `table::rows_below` meets its contract: what is joined at every place passed is below the limit of the place's column.
-- Assumes nothing.
use Prim.Native.Nat.{◌*◌, ◌/◌, ◌≤◌}
use native.Mathlib.Omega.{arith}
use native.Mathlib.Nat.{mul-le-mul_right}
use mathlib.Core.Path.{◌≡◌}
use Rattle.table.proofs.AtOnce.{below_covered}
use Rattle.table.proofs.rows_below.Goals as goal

pub joined_codes-joined-requires : goal.joined_codes-joined-requires
joined_codes-joined-requires c =
    let args = c.args in
    let pre = c.requires in
    let most : 8 * (args.rows / 8) ≤ args.rows = omega arith in
    record { short = omega arith; inside = omega (arith, mul-le-mul_right args.columns most, pre.full) }

pub returns : goal.returns
returns c =
    let turn = c.loop-place in
    let columns = c.args.columns in
    let end : turn.place ≡ 8 * columns = omega arith in
    let low = rw end at turn.invariant in
    record {
      within = omega arith;
      below = below_covered _ _ columns _ _ c.joined_codes-joined.ensures low c.requires.some;
    }
