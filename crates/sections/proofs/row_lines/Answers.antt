-- `sections::row_lines` meets its contract: the lines of the rows passed are written. Assumes nothing.
use native.Mathlib.Omega.{arith}
use mathlib.Core.List.{flatten}
use Rattle.bits.specs.Marked.{marked_below}
use Rattle.sections.specs.Sections.{row_lines}
use Rattle.pieces.proofs.Writing.{wrote_nothing, written_then}
use Rattle.sections.proofs.OneMore.{row_more}
use Rattle.sections.proofs.row_lines.Goals as goal

pub loop-row-init : goal.loop-row-init
unfolding marked_below row_lines flatten
loop-row-init c = (omega arith, wrote_nothing _)

pub loop-row-preserved : goal.loop-row-preserved
loop-row-preserved c =
    let put = c.put_row.ensures in
    let turn = c.loop-row in
    let a = c.args in (
      omega arith,
      rw (row_more a.register.now.file.now a.bits.now turn.row) (written_then turn.invariant.1 put.wrote),
    )
