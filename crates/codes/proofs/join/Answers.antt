-- `codes::join` meets its contract: the number so far is that of the bytes passed, and one byte more makes it 256 times as
-- great and adds the byte; the division drops the pad. Assumes nothing.
use Prim.Native.Nat.{◌-◌, ◌^◌, ◌≤◌, ◌<◌}
use native.Mathlib.Omega.{arith}
use native.Mathlib.Nat.{pow-suc}
use native.Mathlib.Numerals.{add-one}
use borrow.Author.Rules.{rules}
use lib.Arith.{digits_lt}
use lib.ListN.{length}
use lib.Pow.{pow_pos}
use lib.Seq.{take-suc, take_all}
use Rattle.limits.specs.Limits.{most_slices}
use Rattle.codes.specs.Bytes.{big, joined}
use Rattle.codes.proofs.Width.{earlier_slices}
use Rattle.codes.proofs.Big.{big_append_one}
use Rattle.codes.proofs.join.Goals as goal
use Rattle.codes.proofs.join.Goals.{In-loop-byte}

-- while a byte is left, the number so far has a byte less than the most
room : (c : In-loop-byte) → c.loop-byte.number < 256 ^ (most_slices - 1)
room c =
    omega (arith, earlier_slices c.args.width c.loop-byte.byte-index c.requires.0 (omega arith))

pub loop-byte-init : goal.loop-byte-init
unfolding big
loop-byte-init c = search rules

pub overflow_mul-number : goal.overflow_mul-number
overflow_mul-number c = omega (arith, room (goal.at.overflow_mul-number c).In-loop-byte)

pub overflow_add-number : goal.overflow_add-number
overflow_add-number c = omega (arith, room (goal.at.overflow_add-number c).In-loop-byte)

pub loop-byte-preserved : goal.loop-byte-preserved
loop-byte-preserved c =
    let inv = c.loop-byte.invariant in
    let bytes = c.args.bytes.now in
    let i = c.loop-byte.byte-index in
    let inside : i < length bytes = omega arith in
    let small : c.from.result < 256 = omega arith in (
      rw (add-one, take-suc bytes i 0 inside, big_append_one, inv.0, c.from.ensures),
      rw (add-one, pow-suc) (digits_lt inv.1 small),
    )

pub nonzero_div-result : goal.nonzero_div-result
nonzero_div-result c = rw c.unit_of.ensures (pow_pos _)

pub returns : goal.returns
unfolding joined
returns c =
    let all : length c.args.bytes.now ≤ c.loop-byte.byte-index = omega arith in
    rw (c.loop-byte.invariant.0, c.unit_of.ensures, take_all _ _ all)
