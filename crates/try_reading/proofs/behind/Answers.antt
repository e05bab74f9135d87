-- `try_reading::behind` meets its contract: what is passed holds none of the bytes. Assumes nothing.
use Rattle.std.proofs.Common.{◌≡◌, refl, arith, drop}
use lib.ListN.{drop_of_length-le}
use Rattle.try_reading.specs.Requests.{behind_of}
use Rattle.try_reading.proofs.Requests.{counted, here, later}
use Rattle.try_reading.proofs.behind.Goals as goal

pub returns-then-b-byte : goal.returns-then-b-byte
returns-then-b-byte c =
    let turn = c.loop-i in
    let found = here c.args.bytes.now turn.i (omega arith) c.args.byte c.if-b-byte.true in
    record { found = omega (arith, turn.invariant, found); within = counted _ _ (omega arith); some = λ some. omega arith }

pub loop-i-preserved : goal.loop-i-preserved
loop-i-preserved c =
    let turn = c.loop-i in
    let passed = later c.args.bytes.now turn.i (omega arith) c.args.byte c.if-b-byte.false in
    omega (arith, turn.invariant, passed)

pub returns : goal.returns
unfolding behind_of
returns c =
    let turn = c.loop-i in
    let bytes = c.args.bytes.now in
    let none : behind_of c.args.byte (drop turn.i bytes) ≡ 0 = rw (drop_of_length-le bytes {i = turn.i} (omega arith)) refl in
    record { found = omega (arith, turn.invariant, none); within = counted _ _ (omega arith); some = λ some. some }
