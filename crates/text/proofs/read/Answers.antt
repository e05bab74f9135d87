-- `text::read` meets its contract: at each turn the text up to the place is that of the size and the tests so far. Assumes
-- nothing.
use native.Mathlib.Omega.{arith}
use Rattle.text.specs.Reading.{Reads}
use Rattle.text.proofs.ReadTexts.{first_line_lem, kept_line, counted_line, malformed_line, whole_text, too_many_lines}
use Rattle.text.proofs.read.Goals as goal
use Rattle.text.proofs.read.Goals.{then-count-lt-MOST_TESTS, else-count-lt-MOST_TESTS}

pub returns-in_default : goal.returns-in_default
returns-in_default c = Reads.no_segment c.args.text.now c.in_default.ensures

pub loop-at-init : goal.loop-at-init
loop-at-init c = first_line_lem _ _ c.in-Some.ensures (rw c.empty_slot-tests.ensures)

pub returns-in_default-read_line : goal.returns-in_default-read_line
returns-in_default-read_line c =
    malformed_line c.loop-at.invariant c.loop-at-test.true c.in_default-read_line.ensures

pub loop-at-preserved : goal.loop-at-preserved
loop-at-preserved c =
    let line = c.in-Some-read_line.ensures in
    elim c.if-count-lt-MOST_TESTS.branch [
      | then-count-lt-MOST_TESTS w ↦ rw w.tests-is (kept_line c.loop-at.invariant _ line (omega arith))
      | else-count-lt-MOST_TESTS w ↦ rw w.tests-is (counted_line c.loop-at.invariant _ line (omega arith))
    ]

pub returns-then-count-gt-MOST_TESTS : goal.returns-then-count-gt-MOST_TESTS
returns-then-count-gt-MOST_TESTS c =
    too_many_lines c.loop-at.invariant c.loop-at-test.false (omega arith)

pub returns : goal.returns
returns c = whole_text c.loop-at.invariant c.loop-at-test.false (omega arith)
