-- `segment::scan_segment` meets its contract: the buffers hold what the schedule says after each slice and each test, and the
-- slices end when no test counts one. Assumes nothing.
--   work_at, fit   the work on the segment, which is fit
--   room           where some row is open, the segment's bytes of the slice lie in the file
--   ended          where the loop over the slices is left, they have ended
use Prim.Native.Nat.{◌+◌, ◌*◌, ◌≤◌, ◌<◌}
use native.Mathlib.Omega.{arith}
use native.Mathlib.Numerals.{add-one}
use mathlib.Core.Path.{◌≡◌, refl, sym}
use lib.ListN.{length}
use Rattle.limits.specs.Limits.{longest_segment}
use Rattle.basis.specs.Lists.{sum, below}
use Rattle.basis.proofs.Lists.{sum_one_more}
use Rattle.segment.specs.Steps.{column_at}
use Rattle.segment.proofs.Work.{Work, FitWork, counted_few, takes_within}
use Rattle.segment.proofs.Progress.{same_progress, begun, passed_over, taken, next_slice}
use Rattle.segment.proofs.OpenRows.{open_in, open_at_most_one, some_open, none_open}
use Rattle.segment.proofs.Ending.{Ended, scanned, ended_closed, ended_after_four}
use Rattle.segment.proofs.Parts.{segment_fits, part_long}
use Rattle.segment.proofs.Stepping.{has_slice, bytes_within, steps_right}
use Rattle.segment.proofs.scan_segment.Invariants.{work_of}
use Rattle.segment.proofs.scan_segment.Goals as goal
use Rattle.segment.proofs.scan_segment.Goals.{Start, Then-open-gt0, Left-slices}
use Rattle.segment.proofs.scan_segment.Goals.{then-j-column+else-rows-test+then-open-gt0, then-j-column+else-rows-test+else-open-gt0}
use Rattle.segment.proofs.scan_segment.Goals.{else-j-column, else-slices-test, then-slices-test+else-tests-test+then-closed}

-- the work on the segment, which is fit
abbrev work_at : Start → Work
work_at c = work_of c.args.register.now.file.now c.args.first c.args.n c.args.query.now

fit : (c : Start) → FitWork (work_at c)
fit c = segment_fits c.requires.fit c.requires.slots

-- where some row is open, the segment's bytes of the slice lie in the file
room : (c : Then-open-gt0) →
    (column_at c.args.plan.now c.tests.t).offset + c.slices.j * c.args.register.now.shape.rows + c.args.first + c.args.n ≤
    length c.args.register.now.file.now
room c = bytes_within c.requires.fit c.requires.planned c.tests.t c.slices.j c.tests-test.true c.if-j-column.true (omega arith)

pub slices-init : goal.slices-init
slices-init c = begun (fit (goal.at.slices-init c).Start) c.in_rows-inside.ensures.0 c.in_rows-inside.ensures.1

pub rows-preserved : goal.rows-preserved
rows-preserved c =
    let opened = open_in c.tests.standings (c.tests.t * longest_segment) c.slices.inside in
    let more : sum opened (below (c.rows.r + 1)) ≡ sum opened (below c.rows.r) + opened c.rows.r =
    rw add-one (sum_one_more opened c.rows.r) in
    let one : c.open_row-open.result ≤ 1 =
    rw c.open_row-open.ensures (search (open_at_most_one c.tests.invariant c.tests-test.true, c.rows-test.true)) in
    (omega arith, omega (arith, more, c.open_row-open.ensures))

pub overflow_mul-from : goal.overflow_mul-from
overflow_mul-from c = omega (arith, room (goal.at.overflow_mul-from c).Then-open-gt0)

pub overflow_add-from : goal.overflow_add-from
overflow_add-from c = omega (arith, room (goal.at.overflow_add-from c).Then-open-gt0)

pub overflow_add-from-then-open-gt0 : goal.overflow_add-from-then-open-gt0
overflow_add-from-then-open-gt0 c = omega (arith, room (goal.at.overflow_add-from-then-open-gt0 c).Then-open-gt0)

pub overflow_add-from-then-open-gt0-2 : goal.overflow_add-from-then-open-gt0-2
overflow_add-from-then-open-gt0-2 c = omega (arith, room (goal.at.overflow_add-from-then-open-gt0-2 c).Then-open-gt0)

pub slice_bounds-step-end : goal.slice_bounds-step-end
slice_bounds-step-end c = omega (arith, room (goal.at.slice_bounds-step-end c).Then-open-gt0)

pub overflow_add-counts : goal.overflow_add-counts
overflow_add-counts c =
    omega (
      arith,
      c.tests.invariant.to_count c.tests.t (omega arith) c.tests-test.true,
      counted_few (work_at (goal.at.overflow_add-counts c).Start) c.tests.t c.slices.j c.requires.fit.short,
    )

pub tests-preserved : goal.tests-preserved
tests-preserved c =
    let start = (goal.at.tests-preserved c).Start in
    let so_far = c.tests.invariant in
    let next = c.tests-test.true in
    elim c.if-j-column.branch [
      | then-j-column+else-rows-test+then-open-gt0 w ↦
          let some : 0 < c.args.n = omega (arith, w.rows.invariant.0, w.if-open-gt0.true) in
          let within = has_slice c.requires.fit c.requires.planned c.tests.t c.slices.j next w.if-j-column.true in
          same_progress w.standings-is w.counts-is w.closed-is
          (taken so_far next (fit start)
          (some_open so_far next w.rows.«open» w.rows.r w.rows.invariant.1 (omega (arith, w.rows-test.false)) w.if-open-gt0.true within)
          w.step.ensures
          (part_long _ _ _ (bytes_within c.requires.fit c.requires.planned c.tests.t c.slices.j next w.if-j-column.true some))
          (λ k h stands. steps_right c.requires.fit c.requires.planned c.tests.t c.slices.j next within (fit start).there _ k h stands)
          refl)
      | then-j-column+else-rows-test+else-open-gt0 w ↦
          same_progress w.standings-is w.counts-is w.closed-is
          (passed_over so_far next
          (none_open so_far next w.rows.«open» w.rows.r w.rows.invariant.1 (omega (arith, w.rows-test.false)) w.if-open-gt0.false))
      | else-j-column w ↦
          same_progress w.standings-is w.counts-is w.closed-is
          (passed_over so_far next
          (takes_within (work_at start) c.tests.t c.slices.j
          (omega (arith, w.if-j-column.false, (c.requires.planned.columns c.tests.t next).so_many))))
    ]

pub slices-preserved : goal.slices-preserved
slices-preserved c =
    next_slice (fit (goal.at.slices-preserved c).Start) (omega arith) c.tests.invariant c.take_out_all.ensures

-- where the loop over the slices is left, by its test or because all tests are closed, they have ended
ended : (c : Left-slices) →
    Ended (work_of c.args.register.now.file.now c.args.first c.args.n c.args.query.now) c.slices-test.standings c.slices.inside
    c.slices-test.counts
ended c =
    let fits = segment_fits c.requires.fit c.requires.slots in
    elim c.slices-test.branch [
      | else-slices-test w ↦
          ended_after_four fits w.slices-test.false (same_progress w.standings-is w.counts-is refl c.slices.invariant)
      | then-slices-test+else-tests-test+then-closed w ↦
          ended_closed fits (omega (arith, w.tests-test.false))
          (same_progress w.standings-is w.counts-is (sym w.if-closed.true) w.tests.invariant)
    ]

pub returns : goal.returns
returns c = scanned (fit (goal.at.returns c).Start) (ended (goal.at.returns c).Left-slices) c.take_out_all-2.ensures
