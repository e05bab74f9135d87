-- `codes::byte_of` meets its contract: the stored number fits, and shifted by the bytes that follow it ends in the wanted byte.
-- Assumes nothing.
use Prim.Native.Nat.{◌^◌, ◌≤◌}
use mathlib.Core.Path.{sym}
use native.Mathlib.Omega.{arith}
use native.Mathlib.Nat.{le_of_lt, lt_of_le_of_lt, mul-le-mul}
use lib.Dec.{lit<}
use lib.Pow.{pow_mono, pow-lt}
use Rattle.limits.specs.Limits.{widest}
use Rattle.codes.specs.Bytes.{stored_of}
use Rattle.codes.proofs.Width.{pad_below_eight, few_slices_of, bytes_of_bits}
use Rattle.codes.proofs.RoundTrip.{byte_of_digit}
use Rattle.codes.proofs.byte_of.Goals as goal

pub overflow_mul-stored : goal.overflow_mul-stored
overflow_mul-stored c =
    let (narrow, fits, slice) = c.requires in
    let code-room : c.args.code ≤ 2 ^ widest = omega (arith, pow_mono narrow) in
    let unit-room = le_of_lt (pow-lt (pad_below_eight _)) in
    record { fits = rw c.unit_of.ensures (lt_of_le_of_lt (mul-le-mul code-room unit-room) (lit< tt)) }

pub overflow_mul-result : goal.overflow_mul-result
overflow_mul-result c = omega (arith, few_slices_of c.args.width c.requires.0)

pub overflow_shr-result : goal.overflow_shr-result
overflow_shr-result c = omega (arith, few_slices_of c.args.width c.requires.0)

pub returns : goal.returns
unfolding stored_of
returns c =
    rw (bytes_of_bits, c.unit_of.ensures, c.slices_of.ensures)
    (sym (byte_of_digit c.args.width c.args.code c.args.slice c.requires.2))
