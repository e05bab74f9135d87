-- `segment::high_of` meets its contract: in the last slice the pad is filled, in the others the byte stays. Assumes nothing.
use Prim.Native.Nat.{◌+◌, ◌-◌, ◌<◌}
use native.Mathlib.Omega.{arith}
use mathlib.Core.Path.{◌≡◌, sym, ◌∙◌}
use Rattle.codes.specs.Bytes.{byte_of}
use Rattle.codes.specs.Pad.{high_of}
use Rattle.codes.proofs.Width.{few_slices_of}
use Rattle.codes.proofs.LowHigh.{high_last, high_before, high_is_a_byte}
use Rattle.segment.proofs.high_of.Goals as goal
use Rattle.segment.proofs.high_of.Goals.{After-unit_of}

-- in the last slice, what is computed is the high
high_here : (c : After-unit_of) →
    let a = c.args in
    c.from.result + (c.unit_of.result - 1) ≡ high_of a.width a.slice (byte_of a.width a.literal a.slice)
high_here c =
    let a = c.args in
    rw (c.from.ensures, c.unit_of.ensures, c.byte_of-low.ensures)
    (sym (high_last a.width a.slice _ (omega (arith, c.slices_of.ensures, c.if-slice-slices_of.true))))

is_a_byte : (c : After-unit_of) →
    let a = c.args in
    high_of a.width a.slice (byte_of a.width a.literal a.slice) < 256
is_a_byte c =
    high_is_a_byte c.args.width c.args.literal c.args.slice c.requires.fit.small c.requires.there

pub overflow_add-slice : goal.overflow_add-slice
overflow_add-slice c = omega (arith, few_slices_of c.args.width c.requires.fit.narrow)

pub overflow_add-result : goal.overflow_add-result
overflow_add-result c = omega (arith, high_here c, is_a_byte c)

pub overflow_cast-result : goal.overflow_cast-result
overflow_cast-result c = omega (arith, high_here c, is_a_byte c)

pub returns-then-slice-slices_of : goal.returns-then-slice-slices_of
returns-then-slice-slices_of c = high_here c

pub returns-else-slice-slices_of : goal.returns-else-slice-slices_of
returns-else-slice-slices_of c =
    let slices = c.slices_of.ensures in
    c.byte_of-low.ensures
    ∙ sym (high_before c.args.width c.args.slice _ (omega (arith, c.requires.there, c.if-slice-slices_of.false)))
