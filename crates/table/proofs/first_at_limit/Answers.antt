-- `table::first_at_limit` meets its contract: every code passed is below its limit. Assumes nothing.
use native.Mathlib.Omega.{arith}
use mathlib.Core.Path.{sym, ap}
use mathlib.Core.Bool.{not}
use borrow.Author.Tests.{le-ltb}
use Rattle.basis.proofs.Places.{found_is, found_none_is}
use Rattle.table.proofs.first_at_limit.Goals as goal

pub returns-then-limits-column : goal.returns-then-limits-column
returns-then-limits-column c =
    let turn = c.loop-column in
    sym (found_is _ _ turn.column (omega arith) (ap not (le-ltb _ _ c.if-limits-column.true)) turn.invariant)

pub returns : goal.returns
returns c =
    let turn = c.loop-column in
    sym (found_none_is _ _ (λ k h. turn.invariant k (omega arith)))
