-- `table::joined_codes` meets its contract: the periods passed are covered. Assumes nothing.
use Prim.Native.Nat.{◌+◌, ◌*◌, ◌≤◌}
use native.Mathlib.Omega.{arith}
use native.Mathlib.Nat.{mul-le-mul_right}
use lib.ListN.{length}
use Rattle.table.proofs.joined_codes.Goals as goal
use Rattle.table.proofs.joined_codes.Goals.{In-loop-i}

-- the turn's period stands among the codes
within : (c : In-loop-i) →
    let args = c.args in
    c.loop-i.i * args.period + args.period ≤ length args.codes.now
within c =
    let turn : c.loop-i.i + 1 ≤ c.args.periods = omega arith in
    omega (arith, mul-le-mul_right c.args.period turn, c.requires.inside)

pub overflow_mul-i : goal.overflow_mul-i
overflow_mul-i c = omega (arith, within c)
