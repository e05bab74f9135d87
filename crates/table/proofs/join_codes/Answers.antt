-- `table::join_codes` meets its contract: every code passed is joined to what is held for its place. Assumes nothing.
use native.Mathlib.Omega.{arith}
use Rattle.table.proofs.AtOnce.{raised_one_more}
use Rattle.table.proofs.join_codes.Goals as goal

pub loop-k-preserved : goal.loop-k-preserved
loop-k-preserved c =
    let turn = c.loop-k in
    let pre = c.requires in
    raised_one_more _ _ turn.k turn.joined turn.invariant (omega (arith, turn.invariant.same_length, pre.whole))
