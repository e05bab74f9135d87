-- `table::limits_of` meets its contract: every column passed has its limit, and no limit is shifted out. Assumes nothing.
use Prim.Native.Nat.{◌≤◌}
use native.Mathlib.Omega.{arith}
use native.Mathlib.Nat.{one-mul}
use mathlib.Core.Path.{◌∙◌}
use lib.Dec.{lit<}
use lib.Pow.{shl_exact}
use lib.ListN.{length-set}
use Rattle.limits.specs.Limits.{widest}
use Rattle.table.specs.Table.{width_of}
use Rattle.table.proofs.Columns.{narrow}
use Rattle.table.proofs.Holding.{holds_one_more}
use Rattle.table.proofs.limits_of.Goals as goal
use Rattle.table.proofs.limits_of.Goals.{In-loop-column}

-- the turn's width is at most the widest
narrow_turn : (c : In-loop-column) →
    width_of c.args.widths.now c.loop-column.column ≤ widest
narrow_turn c = narrow _ c.requires _ (omega arith)

pub overflow_cast-limits : goal.overflow_cast-limits
overflow_cast-limits c = omega (arith, narrow_turn (goal.at.overflow_cast-limits c).In-loop-column)

pub overflow_shl-limits : goal.overflow_shl-limits
overflow_shl-limits c = omega (arith, narrow_turn (goal.at.overflow_shl-limits c).In-loop-column)

pub loop-column-preserved : goal.loop-column-preserved
loop-column-preserved c =
    let turn = c.loop-column in
    let width = width_of c.args.widths.now turn.column in
    let few = c.requires.few in
    let limit = shl_exact 1 width 64 (lit< tt) (omega (arith, narrow_turn (goal.at.loop-column-preserved c).In-loop-column)) ∙ one-mul _ in
    (simp length-set turn.invariant.0, holds_one_more _ _ _ _ turn.invariant.1 (omega (arith, turn.invariant.0)) limit)
