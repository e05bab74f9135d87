-- `try_reading::slice_at` meets its contract: there is no room for all elements, or one is not made. Assumes nothing.
use Rattle.std.proofs.Common.{arith, length}
use Rattle.try_reading.specs.Requests.{NoSlicePut, too_many, unmade}
use Rattle.try_reading.proofs.slice_at.Goals as goal

pub returns-then-out-many : goal.returns-then-out-many
returns-then-out-many g c = too_many _ _ c.in_ok-elements.ensures (omega arith)

pub returns-in_err-make : goal.returns-in_err-make
returns-in_err-make g c =
    let none :
    NoSlicePut {A = g.row.T.Denot} {E = g.row.T-Error.Denot} g.T.TryFrom.try_from_gives c.args.numbers.now (length c.args.out.now) =
    unmade _ _ c.in_ok-elements.ensures c.in_err-make.ensures in
    rw c.from_residual-in_err-make.ensures none
