-- `table::first_too_large` meets its contract: every code of the rows passed, at once or one by one, is below 2^k, its column's limit.
-- Assumes nothing.
use Prim.Native.Nat.{ℕ, ◌+◌, ◌*◌, ◌^◌, ◌≤◌, ◌<◌}
use native.Mathlib.Omega.{arith}
use native.Mathlib.Nat.{mul-le-mul_right}
use mathlib.Core.Path.{◌≡◌, sym}
use mathlib.Core.List.{List}
use mathlib.Core.Bool.{not}
use lib.Arith.{digits_mod}
use lib.Dec.{ltb}
use lib.ListN.{length, get_or}
use Rattle.basis.proofs.Places.{found_none_is, found_at}
use Rattle.codes.specs.Width.{too_large}
use Rattle.table.specs.Table.{width_of, too_large_at}
use Rattle.table.specs.ManyAtOnce.{Holds}
use Rattle.table.proofs.AtOnce.{below_fits}
use Rattle.table.proofs.PartByPart.{none_in_part, found_in_part}
use Rattle.table.proofs.first_too_large.Goals as goal
use Rattle.table.proofs.first_too_large.Goals.{In-loop-row}

-- the codes of a row are held to the limits of their columns
by_limit : (widths codes limits : List ℕ) → Holds (λ k. 2 ^ width_of widths k) (length widths) limits → (row column : ℕ) →
    column < length widths → too_large_at widths codes (row * length widths + column) ≡
    not (ltb (get_or codes (row * length widths + column) 0) (get_or limits column 0))
unfolding too_large
by_limit widths codes limits made row column there = rw (digits_mod row there, made.each column there)

-- the turn's row stands among the codes
row_within : (c : In-loop-row) →
    let columns = length c.args.widths.now in
    c.loop-row.row * columns + columns ≤ length c.args.codes.now
row_within c =
    let columns = length c.args.widths.now in
    let turn : c.loop-row.row + 1 ≤ c.args.rows = omega arith in
    omega (arith, mul-le-mul_right columns turn, c.requires.full)

-- its codes are held to the limits that were made
by : (c : In-loop-row) (column : ℕ) →
    let args = c.args in
    let place = c.loop-row.row * length args.widths.now + column in
    column < length args.widths.now → too_large_at args.widths.now args.codes.now place ≡
    not (ltb (get_or args.codes.now place 0) (get_or c.limits_of-limits.result column 0))
by c =
    let made = c.limits_of-limits.ensures in
    by_limit c.args.widths.now c.args.codes.now _ made c.loop-row.row

pub loop-row-init : goal.loop-row-init
loop-row-init c =
    let below = c.rows_below-known.ensures in
    let args = c.args in
    below_fits args.widths.now args.codes.now _ _ c.limits_of-limits.ensures c.requires.fit.some below.below

pub overflow_mul-row : goal.overflow_mul-row
overflow_mul-row c = omega (arith, row_within (goal.at.overflow_mul-row c).In-loop-row)

pub overflow_add-result : goal.overflow_add-result
overflow_add-result c = omega (arith, row_within (goal.at.overflow_add-result c).In-loop-row, found_at _ _ _ c.in-Some.ensures)

pub returns-in-Some : goal.returns-in-Some
returns-in-Some c =
    let turn = (goal.at.returns-in-Some c).In-loop-row in
    sym (found_in_part _ _ _ _ (by turn) turn.loop-row.invariant _ _ (row_within turn) c.in-Some.ensures)

pub loop-row-preserved : goal.loop-row-preserved
loop-row-preserved c =
    let turn = (goal.at.loop-row-preserved c).In-loop-row in
    let row = turn.loop-row.row in
    let columns = length turn.args.widths.now in
    let next : (row + 1) * columns ≡ row * columns + columns = omega arith in
    rw next (none_in_part _ _ _ _ (by turn) turn.loop-row.invariant c.in_default.ensures)

pub returns : goal.returns
returns c =
    let turn = c.loop-row in
    let end : turn.row ≡ c.args.rows = omega arith in
    sym (found_none_is _ _ (λ k h. turn.invariant k (rw (end, ← c.requires.full) h)))
