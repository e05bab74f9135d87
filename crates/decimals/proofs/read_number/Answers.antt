-- `decimals::read_number` meets its contract: 0, or a digit that is not 0 and what follows it. Assumes nothing.
use Prim.Native.Nat.{◌+◌, ◌≤◌}
use native.Mathlib.Omega.{arith}
use Rattle.decimals.proofs.Decimals.{room}
use Rattle.decimals.proofs.Numbers.{first_too_large_lem, zero_ends, no_digit}
use Rattle.decimals.proofs.read_number.Goals as goal
use Rattle.decimals.proofs.read_number.Goals.{After-byte_at-first}

bound : (c : After-byte_at-first) → c.args.most + 1 ≤ room
bound c = omega arith

pub returns-then-most-begun : goal.returns-then-most-begun
returns-then-most-begun c =
    let place = goal.at.returns-then-most-begun c in
    first_too_large_lem (bound place.After-byte_at-first) c.args.text.now c.args.at {d = c.from-begun.result} (omega arith) (omega arith) c.args.after (omega arith)

pub returns-in-48 : goal.returns-in-48
returns-in-48 c =
    zero_ends (bound (goal.at.returns-in-48 c).After-byte_at-first) c.args.text.now c.args.at c.args.after (omega arith) (omega arith)
    c.byte_at.ensures c.ended.ensures

pub returns-in_default : goal.returns-in_default
returns-in_default c =
    no_digit (bound (goal.at.returns-in_default c).After-byte_at-first) c.args.text.now c.args.at c.args.after (λ d. omega arith)

pub returns-in_default-2 : goal.returns-in_default-2
returns-in_default-2 c =
    no_digit (bound (goal.at.returns-in_default-2 c).After-byte_at-first) c.args.text.now c.args.at c.args.after (λ d. omega arith)
