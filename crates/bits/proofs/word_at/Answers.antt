-- `bits::word_at` meets its contract: the rows marked there are the set bits of the number that the bytes make. Assumes nothing.
use Prim.Native.Nat.{ℕ, ◌+◌, ◌-◌}
use native.Mathlib.Omega.{arith}
use mathlib.Core.Path.{◌≡◌, ap, ◌∙◌}
use lib.ListN.{take, drop}
use Rattle.basis.specs.Numbers.{little}
use Rattle.bits.proofs.Words.{word_read}
use Rattle.bits.proofs.word_at.Goals as goal

pub returns : goal.returns
returns c =
    let bits = c.args.bits.now in
    let i = c.args.i in
    let many = c.args.many in
    let size : i + many - i ≡ many = omega arith in
    word_read bits i many c.requires.short c.requires.inside (λ k. omega (arith, c.type_inv.bits k))
    c.number_of.result (c.number_of.ensures.made ∙ ap (λ (n : ℕ). little (take n (drop i bits))) size)
