-- What the loop of `put_bits` keeps: the bytes of the rows passed stand in the result, and those found are counted.
use Rattle.std.proofs.Common.{◌+◌, ◌*◌, ◌/◌, ◌≤◌, ◌≡◌, map, eqb, get_or}
use Rattle.basis.specs.Lists.{sum, below}
use Rattle.basis.proofs.Buffers.{Filled}
use Rattle.bits.specs.Bits.{bits_at}
use Rattle.bits.proofs.put_bits.Given as goal

abbrev pub invariant-loop-i : goal.invariant-loop-i
invariant-loop-i l =
    (l.i-end ≡ (l.n + 7) / 8) ×
    Filled l.initial.res l.at (map (bits_at (λ k. eqb (get_or l.found k 0) 1) l.n) (below l.i)) l.res ×
    (l.matches ≡ sum (λ k. get_or l.found k 0) (below (8 * l.i))) ×
    (l.matches ≤ 8 * l.i)
