-- `segment::plan_of` meets its contract: the plan of the tests passed stands, and each turn puts the next test's behind it.
-- Assumes nothing.
use native.Mathlib.Omega.{arith}
use lib.ListN.{length-set}
use Rattle.segment.proofs.Planning.{fit_literal, planned_one_more}
use Rattle.segment.proofs.plan_of.Goals as goal

pub plan_column-requires : goal.plan_column-requires
plan_column-requires c =
    rw (c.width-width.ensures, c.literal_of.ensures) (fit_literal _ _ _ c.requires _ c.loop-t-test.true)

pub loop-t-preserved : goal.loop-t-preserved
loop-t-preserved c =
    let (long, planned) = c.loop-t.invariant in
    let next = rw (c.width-width.ensures, c.offset-offset.ensures, c.literal_of.ensures) at c.plan_column.ensures in
    (rw length-set long, planned_one_more _ _ (omega (arith, c.requires.few, c.loop-t-test.true)) planned next)
