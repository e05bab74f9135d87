-- `slicing::copy_stored` meets its contract: every row passed has its stored number, which fits. Assumes nothing.
use Prim.Native.Nat.{ℕ, ◌+◌, ◌*◌, ◌^◌, ◌<◌}
use native.Mathlib.Omega.{arith}
use mathlib.Core.Path.{◌≡◌, ap}
use Rattle.limits.specs.Limits.{four_bytes}
use Rattle.codes.specs.Width.{pad_of}
use Rattle.codes.specs.Bytes.{stored_of}
use Rattle.table.specs.Table.{width_of, code_of}
use Rattle.table.proofs.Columns.{stored_small}
use Rattle.table.proofs.Holding.{holds_one_more}
use Rattle.slicing.proofs.copy_stored.Invariants.{stored_in}
use Rattle.slicing.proofs.copy_stored.Goals as goal
use Rattle.slicing.proofs.copy_stored.Goals.{In-loop-k}

-- a code times the unit is its stored number
times_unit : (width code unit : ℕ) → unit ≡ 2 ^ pad_of width → code * unit ≡ stored_of width code
unfolding stored_of
times_unit width code unit same = ap (λ (u : ℕ). code * u) same

-- the stored number of the turn's row fits
small : (c : In-loop-k) →
    let args = c.args in
    let table = args.table.now in
    code_of table.widths.now table.codes.now (args.first + c.loop-k.k) args.column * c.unit_of-unit.result < four_bytes
small c =
    let args = c.args in
    let table = args.table.now in
    let pre = c.requires in
    let row_there : args.first + c.loop-k.k < table.rows = omega (arith, pre) in
    let code = code_of table.widths.now table.codes.now (args.first + c.loop-k.k) args.column in
    let same = times_unit (width_of table.widths.now args.column) code _ c.unit_of-unit.ensures in
    omega (arith, stored_small _ _ _ table.fit_codes _ _ row_there pre.there table.fit_widths)

pub overflow_mul-stored-in-loop-k : goal.overflow_mul-stored-in-loop-k
overflow_mul-stored-in-loop-k c = omega (arith, small (goal.at.overflow_mul-stored-in-loop-k c).In-loop-k)

pub overflow_cast-stored : goal.overflow_cast-stored
overflow_cast-stored c = omega (arith, small (goal.at.overflow_cast-stored c).In-loop-k)

pub loop-k-preserved : goal.loop-k-preserved
loop-k-preserved c =
    let turn = c.loop-k in
    let args = c.args in
    holds_one_more (stored_in args.table.now args.column args.first) turn.k _ _ turn.invariant
    (omega (arith, c.requires)) (times_unit _ _ _ c.unit_of-unit.ensures)
