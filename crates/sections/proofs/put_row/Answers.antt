-- `sections::put_row` meets its contract: a marked row is listed alone, and one that is not leaves nothing. Assumes nothing.
use native.Mathlib.Omega.{arith}
use mathlib.Core.Path.{sym, ◌∙◌}
use Rattle.sections.proofs.OneMore.{marked_line, unmarked_line}
use Rattle.pieces.proofs.Writing.{wrote_nothing}
use Rattle.sections.proofs.put_row.Goals as goal

pub returns-then-is_marked : goal.returns-then-is_marked
returns-then-is_marked c =
    let a = c.args in
    let is = sym c.is_marked.ensures ∙ c.if-is_marked.true in
    record {
      wrote = rw (marked_line a.register.now.file.now a.bits.now a.row is) c.row_line.ensures.wrote;
      within = c.row_line.ensures.within;
    }

pub returns-else-is_marked : goal.returns-else-is_marked
returns-else-is_marked c =
    let a = c.args in
    let is = sym c.is_marked.ensures ∙ c.if-is_marked.false in
    record { wrote = rw (unmarked_line a.register.now.file.now a.bits.now a.row is) (wrote_nothing _); within = omega arith }
