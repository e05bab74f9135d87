-- `standings::step_row` meets its contract: its tests are those of the definitions, in their order. Assumes nothing.
use borrow.Author.Tests.{lt-ltb, le-ltb, eq-eqb, ne_eqb}
use Rattle.codes.specs.Order.{against}
use Rattle.standings.proofs.step_row.Goals as goal

pub returns-then-byte-low : goal.returns-then-byte-low
unfolding against
returns-then-byte-low c = simp (eq-eqb _ _ c.if-standing-eq0.true, lt-ltb _ _ c.if-byte-low.true)

pub returns-then-high-byte : goal.returns-then-high-byte
unfolding against
returns-then-high-byte c = simp (eq-eqb _ _ c.if-standing-eq0.true, le-ltb _ _ c.if-byte-low.false, lt-ltb _ _ c.if-high-byte.true)

pub returns-else-high-byte : goal.returns-else-high-byte
unfolding against
returns-else-high-byte c = simp (eq-eqb _ _ c.if-standing-eq0.true, le-ltb _ _ c.if-byte-low.false, le-ltb _ _ c.if-high-byte.false)

pub returns-else-standing-eq0 : goal.returns-else-standing-eq0
returns-else-standing-eq0 c = simp (ne_eqb _ _ c.if-standing-eq0.false)
