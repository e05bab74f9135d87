-- `rows::list` meets its contract: each test is a line of the table, in its order. Assumes nothing.
use Prim.Native.Nat.{◌≤◌}
use native.Mathlib.Omega.{arith}
use mathlib.Core.Path.{◌≡◌, sym, ap, ◌∙◌}
use mathlib.Core.Bool.{false}
use lib.ListN.{length}
use borrow.Author.Tests.{lt-ltb}
use Rattle.limits.specs.Limits.{most_rows}
use Rattle.basis.proofs.Refusals.{at_first, stops}
use Rattle.answers.proofs.Replies.{refused_by, accepted_by}
use Rattle.bits.specs.Bits.{bytes_for}
use Rattle.bits.specs.Marked.{unfit_bits}
use Rattle.bits.proofs.FitBits.{fit_length, all_marked}
use Rattle.rows.specs.RowList.{list_lines}
use Rattle.rows.proofs.Outcomes as outcomes
use Rattle.rows.proofs.list.Goals as goal
use Rattle.rows.proofs.list.Goals.{Else-rows-gt-MOST_ROWS, Else-unfit, Start}

-- so many lines of the table have been passed over
past_0 : (s : Start) → outcomes.Passed s.args.rows s.args.bits.now (length s.args.out.now) 0
past_0 s = at_first _

past_3 : (c : Else-rows-gt-MOST_ROWS) → outcomes.Passed c.args.rows c.args.bits.now (length c.args.out.now) 1
past_3 c = outcomes.few_rows _ _ _ c.if-rows-gt-MOST_ROWS.false

few : (c : Else-unfit) → c.args.rows ≤ most_rows
few c = omega arith

fit : (c : Else-unfit) → unfit_bits c.args.rows c.args.bits.now ≡ false
fit c = sym c.unfit.ensures ∙ c.if-unfit.false

past_16 : (c : Else-unfit) → outcomes.Passed c.args.rows c.args.bits.now (length c.args.out.now) 2
past_16 c = outcomes.bits_fit _ _ _ (few c) (fit c)

short : (c : Else-unfit) → length c.args.bits.now ≤ most_rows
unfolding bytes_for
short c = omega (arith, few c, fit_length c.args.rows c.args.bits.now (fit c))

pub returns-then-rows-gt-MOST_ROWS : goal.returns-then-rows-gt-MOST_ROWS
unfolding list_lines
returns-then-rows-gt-MOST_ROWS c =
    let place = goal.at.returns-then-rows-gt-MOST_ROWS c in
    refused_by _ _ _ _ (stops (past_0 place.Start) (lt-ltb _ _ c.if-rows-gt-MOST_ROWS.true))

pub returns-then-unfit : goal.returns-then-unfit
unfolding list_lines
returns-then-unfit c =
    let place = goal.at.returns-then-unfit c in
    refused_by _ _ _ _ (stops (past_3 place.Else-rows-gt-MOST_ROWS) (sym c.unfit.ensures ∙ c.if-unfit.true))

pub count_rows-many-requires : goal.count_rows-many-requires
count_rows-many-requires c = short c

pub returns-then-out-many : goal.returns-then-out-many
unfolding list_lines
returns-then-out-many c =
    let place = goal.at.returns-then-out-many c in
    let many = c.count_rows-many.ensures ∙ ap length (all_marked _ c.args.bits.now (fit place.Else-unfit)) in
    rw many (refused_by _ _ _ _ (stops (past_16 place.Else-unfit) (lt-ltb _ _ (rw many at c.if-out-many.true))))

pub write_rows-requires : goal.write_rows-requires
write_rows-requires c =
    record { few = short (goal.at.write_rows-requires c).Else-unfit; counted = c.count_rows-many.ensures; room = c.if-out-many.false }

pub returns : goal.returns
returns c =
    let place = goal.at.returns c in
    let all = all_marked _ c.args.bits.now (fit place.Else-unfit) in
    let many = c.count_rows-many.ensures ∙ ap length all in
    let room = rw many at c.if-out-many.false in
    let none = outcomes.none_answers _ c.args.bits.now _ (few place.Else-unfit) (fit place.Else-unfit) room in
    accepted_by _ _ _ _ none many (c.write_rows.ensures ∙ rw all)
