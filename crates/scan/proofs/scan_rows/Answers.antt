-- `scan::scan_rows` meets its contract: segment after segment, what is added up and put down is the schedule's of the rows done.
-- Assumes nothing.
--   few_rows, narrow_columns    the rows are few, and no column of a test is too wide
use Prim.Native.Nat.{ℕ, ◌*◌, ◌≤◌, ◌<◌}
use native.Mathlib.Omega.{arith}
use mathlib.Core.Path.{◌≡◌, refl, ◌∙◌}
use lib.ListN.{length}
use Rattle.limits.specs.Limits.{most_rows, most_slices, most_tests, widest}
use Rattle.directory.specs.File.{width_in}
use Rattle.register.proofs.Fit.{rows_as_opened, few_rows_as_opened, width_as_opened}
use Rattle.query.specs.Tests.{test_at}
use Rattle.scan.proofs.WithinBounds.{found_rows, ones_at_most, counts_small, sums_small, matches_at_most, room_for_segment}
use Rattle.asking.proofs.Sizes.{in_eighths}
use borrow.Author.Rules.{rules}
use Rattle.std.specs.List as std
use Rattle.std.proofs.lemmas.Iterator.{YieldsList-from_slice}
use Rattle.std.proofs.lemmas.Iterator.Consumers.{fits_from_yields_list}
use Rattle.scan.proofs.AllRows.{sum_by_number, sum_bounded, all_scanned, all_put}
use Rattle.scan.proofs.RowsSoFar.{nothing_yet, one_more_segment}
use Rattle.scan.proofs.scan_rows.Goals as goal
use Rattle.scan.proofs.scan_rows.Goals.{Start}

few_rows : (c : Start) → c.args.register.now.shape.rows ≤ most_rows
few_rows c = few_rows_as_opened _ _ c.requires.judged.opened

narrow_columns : (c : Start) → (t : ℕ) → t < c.args.query.count →
    width_in c.args.register.now.file.now (test_at c.args.query.tests t).column ≤ widest
narrow_columns c t h = (width_as_opened _ _ c.requires.judged.opened _ (c.requires.judged.columns t h)).1

pub loop-first-init : goal.loop-first-init
loop-first-init c = nothing_yet _ _ _ _ _

pub scan_segment-segment-requires : goal.scan_segment-segment-requires
scan_segment-segment-requires c =
    let most = (in_eighths _ c.requires.sized).most in
    let long : length c.args.query.tests ≡ most_tests = search rules in
    record {
      fit = record {
        judged = c.requires.judged;
        short = omega (arith, c.min-n.ensures);
        within = omega (arith, c.min-n.ensures, c.loop-first-test.true);
      };
      slots = omega (arith, c.requires.judged.few, long);
      planned = c.plan_of-plan.ensures;
    }

pub add_counts-requires : goal.add_counts-requires
add_counts-requires c =
    let start = (goal.at.add_counts-requires c).Start in
    record {
      whole = c.loop-first.invariant.sixteen;
      small =
          λ t h.
          sums_small _ _ _ _ (in_eighths _ c.requires.sized) _ _ _ _ _ c.loop-first.invariant (few_rows start) (narrow_columns start)
          c.requires.judged.few c.loop-first-test.true _ c.min-n.ensures _ c.scan_segment-segment.ensures t;
    }

pub put_bits-matches-requires : goal.put_bits-matches-requires
put_bits-matches-requires c =
    let most = (in_eighths _ c.requires.sized).most in
    record {
      found = found_rows _ _ _ _ _ (omega (arith, c.min-n.ensures)) c.scan_segment-segment.ensures;
      room =
          room_for_segment _ _ _ _ (in_eighths _ c.requires.sized) _ _ _ _ _ c.loop-first.invariant
          c.requires.judged.few c.loop-first-test.true _ c.min-n.ensures c.requires.room;
    }

pub overflow_add-matches : goal.overflow_add-matches
overflow_add-matches c =
    let most = (in_eighths _ c.requires.sized).most in
    let ones = ones_at_most _ _ (found_rows _ _ _ _ _ (omega (arith, c.min-n.ensures)) c.scan_segment-segment.ensures) in
    let so_far = matches_at_most _ _ _ _ (in_eighths _ c.requires.sized) _ _ _ _ _ c.loop-first.invariant in
    omega (arith, c.put_bits-matches.ensures.counted, few_rows (goal.at.overflow_add-matches c).Start, c.loop-first-test.true)

pub loop-first-smaller : goal.loop-first-smaller
loop-first-smaller c = let some = (in_eighths _ c.requires.sized).some in omega (arith, c.min-n.ensures, c.loop-first-test.true)

pub loop-first-preserved : goal.loop-first-preserved
loop-first-preserved c =
    one_more_segment _ _ _ _ (in_eighths _ c.requires.sized) c.requires.judged.few _ _ _ _ _ c.loop-first.invariant c.loop-first-test.true
    _ c.min-n.ensures _ c.scan_segment-segment.ensures _ _ _ c.add_counts.ensures c.put_bits-matches.ensures.counted
    c.put_bits-matches.ensures.left c.requires.room

pub sum-total-requires-clause-fits : goal.sum-total-requires-clause-fits
sum-total-requires-clause-fits c =
    let start = (goal.at.sum-total-requires-clause-fits c).Start in
    let far = c.loop-first.invariant in
    let small =
    sum_bounded c.loop-first.counts (most_rows * most_slices) most_tests far.sixteen
    (counts_small _ _ _ _ (in_eighths _ c.requires.sized) _ _ _ _ _ far (few_rows start) (narrow_columns start)) in
    fits_from_yields_list c.iter.result _ (YieldsList-from_slice c.loop-first.counts cc) (omega arith)

pub returns : goal.returns
returns c =
    let far = c.loop-first.invariant in
    let same = rows_as_opened _ _ c.requires.judged.opened in
    let sized = in_eighths _ c.requires.sized in
    let few = c.requires.judged.few in
    let summed : c.sum-total.result ≡ std.sum c.loop-first.counts = search rules in
    record {
      answer =
          all_scanned _ _ _ _ same sized few (omega arith) _ _ _ _ _ far c.loop-first-test.false _
          (summed ∙ sum_by_number _ _ far.sixteen) refl;
      left = all_put _ _ _ _ same sized few (omega arith) _ _ _ _ _ far c.loop-first-test.false;
    }
