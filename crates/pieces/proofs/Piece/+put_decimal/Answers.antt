-- `pieces::Piece::put_decimal` meets its contract: one digit, or the decimal of the tenth and then the last digit; the tenth is
-- less. Assumes nothing.
use native.Mathlib.Omega.{arith}
use mathlib.Core.Path.{ap}
use lib.ListN.{length}
use Rattle.pieces.proofs.Numbers.{short_decimal, digit_decimal, longer_decimal}
use Rattle.pieces.proofs.Writing.{written_then}
use Rattle.pieces.proofs.Piece.+put_decimal.Goals as goal

pub returns-then-number-lt10 : goal.returns-then-number-lt10
returns-then-number-lt10 t c = record { wrote = rw (digit_decimal _ c.if-number-lt10.true) c.put.ensures; within = omega arith }

pub returns : goal.returns
returns t c =
    let number = c.args.number in
    let whole = written_then c.put_decimal.ensures.wrote c.put-2.ensures in
    let digits = longer_decimal number (omega arith) (omega arith) in
    record { wrote = rw digits whole; within = omega (arith, whole.behind, ap length digits, short_decimal number) }
