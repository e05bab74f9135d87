-- `bits::marked_past` meets its contract: the last byte is compared with the weight of its first unused place. Assumes nothing.
use Rattle.std.proofs.Common.{ℕ, ◌*◌, ◌/◌, ◌%◌, ◌^◌, ◌≡◌, sym, ap, ◌∙◌, get_or, arith}
use native.Mathlib.Nat.{one-mul}
use lib.Dec.{lit<, leb}
use lib.Pow.{shl_exact}
use Rattle.bits.specs.Bits.{bytes_for}
use Rattle.bits.proofs.LastByte.{whole_bytes_lem, part_of_byte}
use Rattle.bits.proofs.marked_past.Goals as goal

pub returns-then-used-eq0 : goal.returns-then-used-eq0
returns-then-used-eq0 c = sym (whole_bytes_lem c.args.rows _ c.if-used-eq0.true)

pub bounds-bits-rows : goal.bounds-bits-rows
unfolding bytes_for
bounds-bits-rows c = omega (arith, c.requires)

pub returns : goal.returns
returns c =
    let rows = c.args.rows in
    let bits = c.args.bits.now in
    let weight : 1 * 2 ^ (rows % 8) % 256 ≡ 2 ^ (rows % 8) = shl_exact 1 (rows % 8) 8 (lit< tt) (omega arith) ∙ one-mul _ in
    ap (λ (w : ℕ). leb w (get_or bits (rows / 8) 0)) weight
    ∙ sym (part_of_byte rows bits (omega arith) (omega (arith, c.type_inv.bits (rows / 8))))
