-- `bits::byte_of_rows` meets its contract: eight places of 0 or 1 with the weights of their bits are the byte. Assumes nothing.
use Rattle.std.proofs.Common.{◌+◌, ◌≡◌, get_or}
use native.Mathlib.Nat.{add-zero}
use Rattle.bits.proofs.Packed.{byte_of_eight}
use Rattle.bits.proofs.byte_of_rows.Goals as goal

pub returns : goal.returns
returns c =
    let a = c.args in
    let first : a.at + 0 ≡ a.at = add-zero a.at in
    rw first at (byte_of_eight (λ k. get_or a.found.now (a.at + k) 0) (λ k. c.requires.found.each (a.at + k)))
