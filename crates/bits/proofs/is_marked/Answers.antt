-- `bits::is_marked` meets its contract: the bit of a byte, and none past the last byte. Assumes nothing.
use Rattle.std.proofs.Common.{◌%◌, ◌^◌, refl}
use native.Mathlib.Nat.{zero-div}
use lib.ListN.{get_or-eq_default}
use Rattle.bits.specs.Bits.{bit_in}
use Rattle.bits.proofs.is_marked.Goals as goal

pub returns-then-bits-row : goal.returns-then-bits-row
unfolding bit_in
returns-then-bits-row c =
    let a = c.args in
    let none = get_or-eq_default a.bits.now 0 c.if-bits-row.true in
    rw (none, zero-div (2 ^ (a.row % 8)))

pub returns : goal.returns
unfolding bit_in
returns c = refl
